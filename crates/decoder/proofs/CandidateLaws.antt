-- Negative spins: the word with ones at them, and the candidate. Assumes nothing.
use mathlib.Core.Path.{◌≡◌, refl, ◌∙◌, ap}
use mathlib.Core.Bool.{Bool, true, false, not, ◌&&◌}
use mathlib.Core.List.{List, [], ◌∷◌}
use Prim.Native.Nat.{ℕ, zero, suc}
use lib.ListN.{length}
use lib.IntN.{ℤ, pos, negsuc}
use Rattle.rules.specs.Table.{at, bit}
use Rattle.rules.specs.Parity.{meets}
use Rattle.rules.specs.Cut.{is_neg, negatives, keep}
use Rattle.rules.specs.Round.{bit_of, join, candidate, is_zero}
use Rattle.decoder.specs.Closing.{met_by}
use Rattle.spin.specs.Spin.{no_zero}

-- ---- the word with ones at negative spins
pub negatives-at : (ss : List ℤ) (i : ℕ) → bit (negatives ss) i ≡ is_neg (at ss i)
negatives-at [] zero = refl
negatives-at [] (suc i) = refl
negatives-at (s ∷ ss) zero = refl
negatives-at (s ∷ ss) (suc i) = negatives-at ss i

-- ---- the candidate
join-keep : (s : ℤ) (b : Bool) (w : List Bool) → join (bit_of s) (keep b w) ≡ keep (not (is_zero s) && b) (is_neg s ∷ w)
join-keep (pos zero) b w = refl
join-keep (pos (suc n)) true w = refl
join-keep (pos (suc n)) false w = refl
join-keep (negsuc n) true w = refl
join-keep (negsuc n) false w = refl

pub candidate-is : (s : List ℤ) → candidate (length s) (at s) ≡ keep (no_zero s) (negatives s)
candidate-is [] = refl
candidate-is (x ∷ s) = ap (join (bit_of x)) (candidate-is s) ∙ join-keep x (no_zero s) (negatives s)

pub met-none : (s : List ℤ) (cs : List (List ℕ)) → no_zero s ≡ false → met_by (candidate (length s) (at s)) cs ≡ false
met-none s cs e = ap (λ o. met_by o cs) (candidate-is s ∙ ap (λ b. keep b (negatives s)) e)

pub met_some : (s : List ℤ) (cs : List (List ℕ)) → no_zero s ≡ true → met_by (candidate (length s) (at s)) cs ≡ meets (negatives s) cs
met_some s cs e = ap (λ o. met_by o cs) (candidate-is s ∙ ap (λ b. keep b (negatives s)) e)
