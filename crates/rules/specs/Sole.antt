-- The mark of a sole winner, and what it claims (document 02, #113). Definitions only. Assumes nothing.
use Rattle.std.specs.Prelude.{◌≡◌, Bool, true, not, ◌&&◌, List, [], ◌∷◌, ℕ, zero, suc, ℤ, pos, ◌*ℤ◌, ◌<ℤ◌}
use Rattle.rules.specs.Table.{Table}
use Rattle.rules.specs.Parity.{turn, Codeword, agreement, Point, point_agreement}
use Rattle.rules.specs.Bound.{Row, reduced}
use Rattle.rules.specs.Round.{is_zero}

-- none of the first n numbers is 0
abbrev pub none_zero : ℕ → (ℕ → ℤ) → Bool
none_zero zero f = true
none_zero (suc n) f = not (is_zero (f n)) && none_zero n f

-- "whether every reduced number differs from 0", at the certificate's scale
unfoldable pub sole : ℕ → ℕ → List ℤ → List Row → Bool
sole n s l rs = none_zero n (reduced s l rs)

-- "the word's own spins (scaled to its D)"
abbrev pub spins_times : ℕ → List Bool → List ℤ
spins_times d [] = []
spins_times d (b ∷ w) = turn b (pos d) ∷ spins_times d w

-- "each point of the relaxation other than the word's own spins (scaled to its D) has strictly smaller agreement"; so has each other codeword
pub record SoleWinner (t : Table) (l : List ℤ) (w : List Bool) : Type 0 where
  pub is_codeword : Codeword t w
  pub over_codewords : (c : List Bool) → Codeword t c → (c ≡ w → ⊥) → agreement t.bits l c <ℤ agreement t.bits l w
  pub over_points : (d : ℕ) (p : List ℤ) → Point t d p → (p ≡ spins_times d w → ⊥) → point_agreement t.bits l p <ℤ (pos d *ℤ agreement t.bits l w)
