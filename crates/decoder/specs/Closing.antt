-- The end of a round (document 01, "One round", step 4): the candidate's checks and gap, from the numbers that the pass has left.
-- Definitions only. Assumes nothing.
use Rattle.std.specs.Prelude.{◌≡◌, Bool, true, false, List, [], ◌∷◌, ℕ, ◌≤◌, eqb, length, drop, ℤ}
use Rattle.std.proofs.Math.Option.{Option, some, none}
use Rattle.integers.specs.Sum.{AllWithin}
use Rattle.rules.specs.Limits.{frame_limit, max_degree, max_multiplier, scaled_limit, size_limit, step_limit}
use Rattle.rules.specs.Table.{Table, checks_of}
use Rattle.rules.specs.Parity.{meets}
use Rattle.rules.specs.Cut.{negatives}
use Rattle.rules.specs.Bound.{Row, bound, gap}
use Rattle.rules.specs.Scatter.{row_of, EachWithin}
use Rattle.rules.specs.Sound.{Below}

-- there is a candidate, and it meets all checks
abbrev pub met_by : Option (List Bool) → List (List ℕ) → Bool
met_by none cs = false
met_by (some w) cs = meets w cs

-- a check's row where its mask is not 0
abbrev pub with_row : Bool → Row → List Row → List Row
with_row true r rs = rs
with_row false r rs = r ∷ rs

unfoldable pub rows_from : List (List ℕ) → List ℕ → List ℕ → List Row
rows_from [] bs ks = []
rows_from (ms ∷ cs) [] ks = []
rows_from (ms ∷ cs) (b ∷ bs) [] = []
rows_from (ms ∷ cs) (b ∷ bs) (k ∷ ks) = with_row (eqb k 0) (row_of ms b k) (rows_from cs bs ks)

-- the rows of a table's checks, and those from check j on
abbrev pub rows_on : Table → List ℕ → List ℕ → List Row
rows_on t bs ks = rows_from t.checks bs ks

abbrev pub rows_left : Table → List ℕ → List ℕ → ℕ → List Row
rows_left t bs ks j = rows_from (drop j t.checks) (drop j bs) (drop j ks)

-- their bound and their gap, of the word with ones at negative spins, at scale 1
abbrev pub bound_on : List ℤ → Table → List ℕ → List ℕ → ℤ
bound_on l t bs ks = bound (length l) 1 l (rows_on t bs ks)

abbrev pub gap_on : List ℤ → List ℤ → Table → List ℕ → List ℕ → ℤ
gap_on l s t bs ks = gap (length s) 1 l (rows_on t bs ks) (negatives s)

-- every multiplier is at most 8,388,608
abbrev pub AllUpTo : ℕ → List ℕ → Type 0
AllUpTo m [] = Unit {0}
AllUpTo m (b ∷ bs) = (b ≤ m) × AllUpTo m bs

-- what the code relies on: at a row, at all rows, and at the end of a round
pub record RowFits (b : ℕ) (ms : List ℕ) (ls : List ℤ) : Type 0 where
  pub small : b ≤ max_multiplier
  pub few : length ms ≤ max_degree
  pub inside : Below (length ls) ms
  pub sizes : EachWithin size_limit ls

pub record RowsFit (t : Table) (bs ks : List ℕ) (ls : List ℤ) : Type 0 where
  pub size : length ls ≡ t.bits
  pub multipliers_long : length bs ≡ checks_of t
  pub masks_long : length ks ≡ checks_of t
  pub multipliers : AllUpTo step_limit bs
  pub sizes : EachWithin scaled_limit ls

pub record GapFits (t : Table) (l s : List ℤ) (bs ks : List ℕ) : Type 0 where
  pub frame_long : length l ≡ t.bits
  pub frame : AllWithin frame_limit l
  pub spins_long : length s ≡ t.bits
  pub multipliers_long : length bs ≡ checks_of t
  pub masks_long : length ks ≡ checks_of t
  pub multipliers : AllUpTo step_limit bs
