-- What a bound is worth on a table: it is above every codeword and every point of the relaxation, so a gap is never negative and a gap of 0 is
-- optimal. Of any rows that the table's own inequalities imply, whoever chose them; the rows of a round are such. Assumes nothing.
use mathlib.Core.Path.{◌≡◌, refl, subst}
use mathlib.Core.Bool.{Bool, true, false, ◌&&◌}
use mathlib.Core.List.{List, [], ◌∷◌}
use mathlib.Core.Option.{Option, some, none}
use Prim.Native.Nat.{ℕ, zero, suc, ◌≤◌}
use native.Mathlib.Omega.{arith}
use lib.ListN.{length}
use lib.IntN.{ℤ, pos, ◌*ℤ◌}
use Rattle.integers.specs.Linear.{arith_z, ◌⩽◌, Within}
use Rattle.integers.specs.Order.{sub-nonneg, within-zero}
use Rattle.integers.specs.Product.{ring}
use Rattle.integers.specs.Sum.{AllWithin}
use Rattle.rules.specs.Limits.{unit}
use Rattle.rules.specs.Table.{Table, at}
use Rattle.rules.specs.Sound.{AllBelow}
use Rattle.rules.specs.Parity.{Keeps, Point, point_agreement, meets, Codeword, agreement}
use Rattle.rules.specs.Cut.{keep}
use Rattle.rules.specs.Step.{Entry, inactive, active}
use Rattle.rules.specs.Bound.{Row, rows_of, bound, gap}
use Rattle.rules.specs.Demand3.{Best}
use Rattle.rules.specs.Round.{State, entries_in, candidate, is_zero, certify, round}
use Rattle.rules.proofs.Basics.{and_both, none≢some, some_inj}
use Rattle.rules.proofs.ZeroLaws.{is_zero-is}
use Rattle.rules.proofs.Pass.{spins_in, steps_in, steps-laid, Good, rows-good}
use Rattle.rules.proofs.RoundTurns.{meets-even}
use Rattle.rules.proofs.Duality.{AllKept, spin_sum, weak-duality, optimal, spins_of, spins-within, codeword-keeps, agreement-is}

-- a point that keeps the table's inequalities keeps those of the rows
abbrev pub Implied : Table → List Row → Type 0
Implied t rs = (d : ℕ) (f : ℕ → ℤ) → Keeps d f t.checks → AllKept t.bits d f rs

pub within-at : (d : ℕ) (p : List ℤ) → AllWithin d p → (i : ℕ) → Within d (at p i)
within-at d [] h zero = within-zero d
within-at d [] h (suc i) = within-zero d
within-at d (x ∷ p) h zero = h.0
within-at d (x ∷ p) h (suc i) = within-at d p h.1 i

-- so does a word that meets all checks
pub word_kept : (t : Table) (rs : List Row) → Implied t rs → (w : List Bool) → meets w t.checks ≡ true → AllKept t.bits 1 (spins_of w) rs
word_kept t rs implied w e = implied 1 (spins_of w) (codeword-keeps w t.checks (meets-even w t.checks e))

one-times : (x y : ℤ) → x ⩽ pos 1 *ℤ y → x ⩽ y
one-times x y = simp ring (omega arith_z)

module _ (t : Table) (s : ℕ) (l : List ℤ) (rs : List Row) (implied : Implied t rs) where
  -- "scale times the point's agreement is at most D times the bound"
  pub bound-points : (d : ℕ) (p : List ℤ) → Point t d p → pos s *ℤ point_agreement t.bits l p ⩽ pos d *ℤ bound t.bits s l rs
  unfolding point_agreement
  bound-points d p k = weak-duality t.bits d s l (at p) rs (within-at d p k.box) (implied d (at p) k.keeps)

  -- and so of any word that meets all checks
  pub bound-words : (w : List Bool) → meets w t.checks ≡ true → pos s *ℤ agreement t.bits l w ⩽ bound t.bits s l rs
  bound-words w e = subst (λ x. pos s *ℤ x ⩽ bound t.bits s l rs) (agreement-is t.bits l w) (one-times (pos s *ℤ spin_sum t.bits l (spins_of w)) (bound t.bits s l rs)
      (weak-duality t.bits 1 s l (spins_of w) rs (spins-within w) (word_kept t rs implied w e)))

  pub gap-nonneg : (w : List Bool) → meets w t.checks ≡ true → pos 0 ⩽ gap t.bits s l rs w
  unfolding gap
  gap-nonneg w e = sub-nonneg (pos s *ℤ agreement t.bits l w) (bound t.bits s l rs) (bound-words w e)

  pub gap-optimal : (w : List Bool) → 1 ≤ s → Codeword t w → gap t.bits s l rs w ≡ pos 0 → Best t l w
  unfolding point_agreement
  gap-optimal w h e g = record {
    is_codeword = e;
    over_codewords = λ c k. subst (λ x. x ⩽ agreement t.bits l w) (agreement-is t.bits l c) (one-times (spin_sum t.bits l (spins_of c)) (agreement t.bits l w)
        (optimal t.bits 1 s l (spins_of c) rs w h (spins-within c) (word_kept t rs implied c k.even) g));
    over_points = λ d p k. optimal t.bits d s l (at p) rs w h (within-at d p k.box) (implied d (at p) k.keeps) g;
  }

-- ---- the rows of a round
pub rows-implied : (n d : ℕ) (f : ℕ → ℤ) (cs : List (List ℕ)) (es : List Entry) → AllBelow n cs → Good (rows_of cs es) → Keeps d f cs → AllKept n d f (rows_of cs es)
rows-implied n d f [] es b g k = tt
rows-implied n d f (ms ∷ cs) [] b g k = tt
rows-implied n d f (ms ∷ cs) (inactive ∷ es) b g k = rows-implied n d f cs es b.1 g k.1
rows-implied n d f (ms ∷ cs) (active m ts ∷ es) b g k = (record { inside = b.0; long = g.1; keeps = k.0 ts g.0 g.1 }, rows-implied n d f cs es b.1 g.2 k.1)

-- what step 4 has tested of a word that it certifies
pub record Passed (t : Table) (l : List ℤ) (rs : List Row) (w : List Bool) : Type 0 where
  pub legal : meets w t.checks ≡ true
  pub closed : gap t.bits 1 l rs w ≡ pos 0

pub keep-is : {A : Type 0} (b : Bool) (a w : A) → keep b a ≡ some w → (b ≡ true) × (a ≡ w)
keep-is true a w e = (refl, some_inj a w e)
keep-is false a w e = absurd (none≢some e)

certify-passed : (t : Table) (l : List ℤ) (rs : List Row) (o : Option (List Bool)) (w : List Bool) → certify t l rs o ≡ some w → Passed t l rs w
certify-passed t l rs none w e = absurd (none≢some e)
certify-passed t l rs (some v) w e = subst (Passed t l rs) k.1 (record { legal = both.0; closed = is_zero-is (gap t.bits 1 l rs v) both.1 })
  where
    k : ((meets v t.checks && is_zero (gap t.bits 1 l rs v)) ≡ true) × (v ≡ w)
    k = keep-is (meets v t.checks && is_zero (gap t.bits 1 l rs v)) v w e

    both : (meets v t.checks ≡ true) × (is_zero (gap t.bits 1 l rs v) ≡ true)
    both = and_both (meets v t.checks) (is_zero (gap t.bits 1 l rs v)) k.0

pub round-passed : (t : Table) (l : List ℤ) (s : State) (w : List Bool) → (round t l s).word ≡ some w → Passed t l (rows_of t.checks (round t l s).entries) w
unfolding round
round-passed t l s w e = certify-passed t l (rows_of t.checks (entries_in (steps_in t l s))) (candidate t.bits (spins_in t l s)) w e

pub round-good : (t : Table) (l : List ℤ) (s : State) → Good (rows_of t.checks (round t l s).entries)
unfolding round
round-good t l s = rows-good unit t.checks (steps_in t l s) (steps-laid t l s)

pub round-best : (t : Table) (l : List ℤ) (s : State) (w : List Bool) → AllBelow t.bits t.checks → length w ≡ t.bits → (round t l s).word ≡ some w → Best t l w
round-best t l s w b size e = gap-optimal t 1 l (rows_of t.checks (round t l s).entries)
    (λ d f k. rows-implied t.bits d f t.checks (round t l s).entries b (round-good t l s) k) w (omega arith) (record { size = size; even = p.legal }) p.closed
  where
    p : Passed t l (rows_of t.checks (round t l s).entries) w
    p = round-passed t l s w e
