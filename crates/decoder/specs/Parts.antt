-- One check of the pass: it is handed its part of the edges, from its start to the next (document 01, "One round", steps 2 and 3). Definitions only.
-- Assumes nothing.
use Rattle.std.specs.Prelude.{List, ◌++◌, ℕ, ◌-◌, ◌≤◌, ◌<◌, length, take, drop, set, ℤ}
use Rattle.decoder.specs.Stepped.{Stepped, stepped, StepFits}
use Rattle.decoder.specs.Passed.{Passed}

-- the part from a to e, and the list with that part replaced
unfoldable pub part : {A : Type 0} → ℕ → ℕ → List A → List A
part a e l = take (e - a) (drop a l)

unfoldable pub splice : {A : Type 0} → ℕ → ℕ → List A → List A → List A
splice a e p l = take a l ++ (p ++ drop (e - a) (drop a l))

abbrev pub placed : ℕ → ℕ → ℕ → Stepped → Passed → Passed
placed j a e s p = record {
  copies = splice a e s.copies p.copies;
  offsets = splice a e s.offsets p.offsets;
  sums = s.sums;
  multipliers = set p.multipliers j s.multiplier;
  masks = set p.masks j s.mask;
  depths = set p.depths j s.depth;
}

-- check j, whose edges are those from a to e, f the spins and ms the members of all checks
unfoldable pub one_passed : (ℕ → ℤ) → List ℕ → ℕ → ℕ → ℕ → Passed → Passed
one_passed f ms j a e p = placed j a e (stepped f (part a e ms) (part a e p.offsets) p.sums) p

pub record OneFits (j a e : ℕ) (s : List ℤ) (ms : List ℕ) (z y x : List ℤ) (bs ks ds : List ℕ) : Type 0 where
  pub ordered : a ≤ e
  pub members_end : e ≤ length ms
  pub copies_end : e ≤ length z
  pub offsets_end : e ≤ length y
  pub multiplier_there : j < length bs
  pub mask_there : j < length ks
  pub depth_there : j < length ds
  pub step : StepFits s (part a e ms) (part a e z) (part a e y) x
