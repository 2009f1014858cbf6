-- The parity of a word's bits on a check, member by member, and whether it meets the checks, check by check. Assumes nothing.
use mathlib.Core.Path.{◌≡◌, sym, ◌∙◌, ap}
use mathlib.Core.Bool.{Bool, true, false, not, ◌&&◌}
use mathlib.Core.List.{List, [], ◌∷◌}
use Prim.Native.Nat.{ℕ, ◌+◌, ◌≤◌, ◌<◌}
use native.Mathlib.Numerals.{add-one}
use lib.ListN.{length, get_or, drop, drop_of_length-le}
use lib.Seq.{drop-cons}
use Rattle.rules.specs.Table.{bit, bits_at}
use Rattle.rules.specs.Parity.{◌⊕◌, odd, meets}
use Rattle.rules.proofs.Signs.{⊕-assoc, ⊕-zero, ⊕-true}

-- a bit of a sum modulo 2
pub flips : (s : Bool) {b : Bool} → b ≡ true → not s ≡ s ⊕ b
flips s e = sym (⊕-true s) ∙ ap (λ x. s ⊕ x) (sym e)

pub stays : (s : Bool) {b : Bool} → b ≡ false → s ≡ s ⊕ b
stays s e = sym (⊕-zero s) ∙ ap (λ x. s ⊕ x) (sym e)

-- t is the parity of the members before k, u with member k
module _ (w : List Bool) (ms : List ℕ) (k : ℕ) (t : Bool) where
  pub odd-more : {u : Bool} → k < length ms → u ≡ t ⊕ bit w (get_or ms k 0) → u ⊕ odd (bits_at w (drop (k + 1) ms)) ≡ t ⊕ odd (bits_at w (drop k ms))
  odd-more h e =
      let i = get_or ms k 0 in
      let rest = odd (bits_at w (drop (k + 1) ms)) in
      ap (λ b. b ⊕ rest) e ∙ ⊕-assoc t (bit w i) rest
      ∙ ap (λ l. t ⊕ odd (bits_at w l)) (ap (λ n. i ∷ drop n ms) (add-one k) ∙ sym (drop-cons ms k 0 h))

  pub odd-end : length ms ≤ k → t ≡ t ⊕ odd (bits_at w (drop k ms))
  odd-end h = sym (⊕-zero t) ∙ ap (λ l. t ⊕ odd (bits_at w l)) (sym (drop_of_length-le ms h))

-- p is check j as it was read, with its parity
module _ (w : List Bool) (cs : List (List ℕ)) (j : ℕ) where
  meets-more : (p : List ℕ) (b : Bool) → j < length cs → p ≡ get_or cs j [] → odd (bits_at w p) ≡ b → meets w (drop j cs) ≡ not b && meets w (drop (j + 1) cs)
  meets-more p b h e o =
      ap (meets w) (drop-cons cs j [] h ∙ ap (λ n. get_or cs j [] ∷ drop n cs) (sym (add-one j)))
      ∙ ap (λ c. not c && meets w (drop (j + 1) cs)) (ap (λ l. odd (bits_at w l)) (sym e) ∙ o)

  pub meets-odd : {p : List ℕ} → j < length cs → p ≡ get_or cs j [] → odd (bits_at w p) ≡ true → meets w (drop j cs) ≡ false
  meets-odd {p} = meets-more p true

  pub meets-even : {p : List ℕ} → j < length cs → p ≡ get_or cs j [] → odd (bits_at w p) ≡ false → meets w (drop j cs) ≡ meets w (drop (j + 1) cs)
  meets-even {p} = meets-more p false

  pub meets-end : length cs ≤ j → meets w (drop j cs) ≡ true
  meets-end h = ap (meets w) (drop_of_length-le cs h)
