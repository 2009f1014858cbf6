-- A first part cleared. Assumes nothing.
use mathlib.Core.Path.{◌≡◌, sym, ◌∙◌, ap}
use mathlib.Core.List.{List, ◌++◌}
use Prim.Native.Nat.{ℕ, ◌≤◌}
use lib.ListN.{length, take, drop, length-replicate}
use lib.Seq.{length-take-le}
use lib.IntN.{ℤ, pos}
use Rattle.rules.specs.Buffers.{over, zeros}

-- the first e numbers, lent and given back
pub cleared : (e : ℕ) (xs : List ℤ) {p : List ℤ} → e ≤ length xs → p ≡ zeros (length (take e xs)) → p ++ drop e xs ≡ over (zeros e) xs
cleared e xs h q = ap (λ l. l ++ drop e xs) (q ∙ ap zeros (length-take-le e xs h)) ∙ ap (λ n. zeros e ++ drop n xs) (sym (length-replicate e (pos 0)))
