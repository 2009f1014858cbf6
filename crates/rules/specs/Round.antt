-- One round (document 01, "One round"). Edge lists are in check order, and each check takes its part off the front. Definitions only. Assumes nothing.
use Rattle.std.specs.Prelude.{Bool, true, false, ◌&&◌, List, [], ◌∷◌, ◌++◌, map, ℕ, zero, suc, length, drop, ℤ, pos, negsuc, nat_abs, ◌+ℤ◌}
use Rattle.std.proofs.Math.Option.{Option, some, none}
use Rattle.integers.specs.Division.{signed, nearest}
use Rattle.integers.specs.Clip.{clip_z}
use Rattle.rules.specs.Limits.{unit}
use Rattle.rules.specs.Table.{Table, edges, degree_of, at}
use Rattle.rules.specs.Parity.{meets}
use Rattle.rules.specs.Cut.{keep}
use Rattle.rules.specs.Step.{Entry, Step, step, minus}
use Rattle.rules.specs.Bound.{Row, gather, rows_of, gap}

-- "Each edge has a copy z and an offset y"
pub record State : Type 0 where
  pub copies : List ℤ
  pub offsets : List ℤ

-- ---- step 1
-- "the sum of z − y over its edges"
abbrev pub sum_at : List ℕ → State → ℕ → ℤ
sum_at es s i = gather i es (minus s.copies s.offsets)

-- "Each bit's total is its frame number plus" that sum
unfoldable pub total : List ℕ → List ℤ → State → ℕ → ℤ
total es l s i = at l i +ℤ sum_at es s i

-- "divided by its number of edges", nearest, halves away from zero: of the sizes, with the total's sign
unfoldable pub divided : ℤ → ℕ → ℤ
divided t d = signed t (nearest (nat_abs t) d)

-- "then clipped to −U..U"
unfoldable pub spin : ℕ → List ℕ → List ℤ → State → ℕ → ℤ
spin u es l s i = clip_z u (divided (total es l s i) (degree_of i es))

-- ---- steps 2 and 3, f the spins
-- "v = spin + y per edge"
abbrev pub values : (ℕ → ℤ) → List ℕ → List ℤ → List ℤ
values f [] ys = []
values f (m ∷ ms) [] = f m ∷ values f ms []
values f (m ∷ ms) (y ∷ ys) = (f m +ℤ y) ∷ values f ms ys

abbrev pub pass : ℕ → (ℕ → ℤ) → List (List ℕ) → List ℤ → List Step
pass u f [] ys = []
pass u f (ms ∷ cs) ys = step u (values f ms ys) ∷ pass u f cs (drop (length ms) ys)

abbrev pub copies_in : List Step → List ℤ
copies_in [] = []
copies_in (s ∷ ss) = s.copies ++ copies_in ss

abbrev pub offsets_in : List Step → List ℤ
offsets_in [] = []
offsets_in (s ∷ ss) = s.offsets ++ offsets_in ss

abbrev pub entries_in : List Step → List Entry
entries_in ss = map (λ s. s.entry) ss

abbrev pub depths_in : List Step → List ℕ
depths_in ss = map (λ s. s.depth) ss

-- ---- step 4
-- "the candidate has a 1 where the spin is negative. A zero spin means no candidate"
abbrev pub bit_of : ℤ → Option Bool
bit_of (pos zero) = none
bit_of (pos (suc n)) = some false
bit_of (negsuc n) = some true

abbrev pub join : Option Bool → Option (List Bool) → Option (List Bool)
join none o = none
join (some b) none = none
join (some b) (some w) = some (b ∷ w)

abbrev pub candidate : ℕ → (ℕ → ℤ) → Option (List Bool)
candidate zero f = some []
candidate (suc n) f = join (bit_of (f 0)) (candidate n (λ i. f (suc i)))

abbrev pub is_zero : ℤ → Bool
is_zero (pos zero) = true
is_zero (pos (suc n)) = false
is_zero (negsuc n) = false

-- "A candidate that meets all checks and has gap 0 with this round's multipliers (scale 1)"
abbrev pub certify : Table → List ℤ → List Row → Option (List Bool) → Option (List Bool)
certify t l rs none = none
certify t l rs (some w) = keep (meets w t.checks && is_zero (gap t.bits 1 l rs w)) w

-- ---- the whole round
-- the first n numbers of f
abbrev pub first_of : ℕ → (ℕ → ℤ) → List ℤ
first_of zero f = []
first_of (suc n) f = f 0 ∷ first_of n (λ i. f (suc i))

-- the sums of all n bits, with the edges es
unfoldable pub sums_of : ℕ → List ℕ → State → List ℤ
sums_of n es s = first_of n (sum_at es s)

-- the sums are those of the new copies and offsets
pub record Round : Type 0 where
  pub spins : List ℤ
  pub state : State
  pub sums : List ℤ
  pub entries : List Entry
  pub depths : List ℕ
  pub word : Option (List Bool)

abbrev pub round_by : Table → List ℤ → (ℕ → ℤ) → List Step → Round
round_by t l f ss = record {
  spins = first_of t.bits f;
  state = record { copies = copies_in ss; offsets = offsets_in ss };
  sums = sums_of t.bits (edges t.checks) (record { copies = copies_in ss; offsets = offsets_in ss });
  entries = entries_in ss;
  depths = depths_in ss;
  word = certify t l (rows_of t.checks (entries_in ss)) (candidate t.bits f);
}

unfoldable pub round : Table → List ℤ → State → Round
round t l s = round_by t l (spin unit (edges t.checks) l s) (pass unit (spin unit (edges t.checks) l s) t.checks s.offsets)
