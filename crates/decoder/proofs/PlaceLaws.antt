-- Lists within limits, and what stands at a place of a difference, and when the first n numbers of two functions are the same, and of one clipped. Assumes nothing.
use mathlib.Core.Path.{◌≡◌, refl, ap, ap₂}
use mathlib.Core.List.{◌∷◌}
use Prim.Native.Nat.{ℕ, zero, suc, ◌<◌}
use native.Mathlib.Omega.{arith}
use lib.IntN.{ℤ}
use Rattle.integers.specs.Clip.{clip_z}
use Rattle.rules.specs.Step.{clips}
use Rattle.rules.specs.Round.{first_of}

-- ---- the first n numbers of f
pub first-same : (n : ℕ) (f g : ℕ → ℤ) → ((i : ℕ) → i < n → f i ≡ g i) → first_of n f ≡ first_of n g
first-same zero f g h = refl
first-same (suc n) f g h = ap₂ ◌∷◌ (h 0 (omega arith)) (first-same n (λ i. f (suc i)) (λ i. g (suc i)) (λ i k. h (suc i) (omega arith)))

pub clips-first : (u n : ℕ) (f : ℕ → ℤ) → clips u (first_of n f) ≡ first_of n (λ i. clip_z u (f i))
clips-first u zero f = refl
clips-first u (suc n) f = ap (λ l. clip_z u (f 0) ∷ l) (clips-first u n (λ i. f (suc i)))
