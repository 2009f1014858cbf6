-- The set of a mask, read at a place. Assumes nothing.
use mathlib.Core.Path.{◌≡◌, ◌∙◌, ap}
use mathlib.Core.Bool.{false}
use mathlib.Core.List.{List, [], ◌∷◌}
use Prim.Native.Nat.{ℕ, zero, suc, ◌/◌, ◌%◌, ◌^◌, ◌<◌}
use native.Mathlib.Numerals.{one-add}
use native.Mathlib.Omega.{arith}
use lib.Dec.{eqb}
use lib.Pow.{shr-shr}
use lib.ListN.{length, get_or}
use lib.IntN.{ℤ}
use Rattle.rules.specs.Parity.{Alike}
use Rattle.rules.specs.Mask.{set_of}

half_pow : (m k : ℕ) → m / 2 / 2 ^ k ≡ m / 2 ^ suc k
half_pow m k = shr-shr m 1 k ∙ ap (λ n. m / 2 ^ n) (one-add k)

whole : (m : ℕ) → m ≡ m / 2 ^ 0
whole m = omega arith

pub set_at : (d m k : ℕ) → k < d → get_or (set_of d m) k false ≡ eqb (m / 2 ^ k % 2) 1
set_at zero m k h = absurd (omega arith)
set_at (suc d) m zero h = ap (λ n. eqb (n % 2) 1) (whole m)
set_at (suc d) m (suc k) h = set_at d (m / 2) k (omega arith) ∙ ap (λ n. eqb (n % 2) 1) (half_pow m k)

pub set-alike : (v : List ℤ) (m : ℕ) → Alike (set_of (length v) m) v
set-alike [] m = tt
set-alike (x ∷ v) m = set-alike v (m / 2)
