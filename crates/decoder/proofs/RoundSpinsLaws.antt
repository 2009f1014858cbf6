-- A round reads its spins from a list: the pass and the candidate are those of the spins themselves. Assumes nothing.
use mathlib.Core.Path.{◌≡◌, refl, ap, ap₂}
use mathlib.Core.List.{List, [], ◌∷◌}
use Prim.Native.Nat.{ℕ, zero, suc, ◌<◌}
use native.Mathlib.Omega.{arith}
use lib.ListN.{length, drop}
use lib.IntN.{ℤ, ◌+ℤ◌}
use Rattle.rules.specs.Sound.{Below, AllBelow}
use Rattle.rules.specs.Step.{step}
use Rattle.rules.specs.Round.{values, pass, bit_of, join, candidate}

module _ (n : ℕ) (f g : ℕ → ℤ) (same : (i : ℕ) → i < n → g i ≡ f i) where
  values_same : (ms : List ℕ) (ys : List ℤ) → Below n ms → values g ms ys ≡ values f ms ys
  values_same [] ys h = refl
  values_same (m ∷ ms) [] h = ap₂ ◌∷◌ (same m h.0) (values_same ms [] h.1)
  values_same (m ∷ ms) (y ∷ ys) h = ap₂ ◌∷◌ (ap (λ x. x +ℤ y) (same m h.0)) (values_same ms ys h.1)

  pub pass_same : (u : ℕ) (cs : List (List ℕ)) (ys : List ℤ) → AllBelow n cs → pass u g cs ys ≡ pass u f cs ys
  pass_same u [] ys h = refl
  pass_same u (ms ∷ cs) ys h = ap₂ ◌∷◌ (ap (step u) (values_same ms ys h.0)) (pass_same u cs (drop (length ms) ys) h.1)

pub candidate-same : (n : ℕ) (f g : ℕ → ℤ) → ((i : ℕ) → i < n → g i ≡ f i) → candidate n g ≡ candidate n f
candidate-same zero f g same = refl
candidate-same (suc n) f g same = ap₂ (λ x o. join (bit_of x) o) (same 0 (omega arith)) (candidate-same n (λ i. f (suc i)) (λ i. g (suc i)) (λ i h. same (suc i) (omega arith)))
