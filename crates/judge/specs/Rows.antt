-- What the code relies on at a certificate that is not refused, and its gap and its mark (document 01, "Certificates"). Definitions only. Assumes nothing.
use Rattle.std.specs.Prelude.{◌≡◌, Bool, List, [], ◌∷◌, ℕ, ◌-◌, ◌≤◌, ◌<◌, length, ℤ}
use Rattle.rules.specs.Limits.{max_multiplier}
use Rattle.rules.specs.Table.{Table, checks_of}
use Rattle.rules.specs.Input.{bits_of}
use Rattle.rules.specs.Bound.{Row, gap}
use Rattle.rules.specs.Scatter.{row_of}
use Rattle.rules.specs.Certificate.{Item, item_at, items_at, entries_of, scale_of, items_of, rows_at}
use Rattle.rules.specs.Sole.{sole}
use Rattle.table.specs.Layout.{part_at, Part}
use Rattle.judge.specs.Refusals.{Long}

-- an entry of one of m checks, with a multiplier within its limit
pub record InRange (m : ℕ) (i : Item) : Type 0 where
  pub check : i.check < m
  pub multiplier : i.multiplier ≤ max_multiplier

-- so is each entry of a certificate
abbrev pub EachInRange : ℕ → List ℕ → Type 0
EachInRange m bs = (k : ℕ) → k < entries_of bs → InRange m (item_at bs (entries_of bs) k)

-- frame, word and certificate, none of them refused
pub record Unrefused (t : Table) (l : List ℤ) (w bs : List ℕ) : Type 0 where
  pub frame : length l ≡ t.bits
  pub word : length w ≡ t.bits
  pub entries : EachInRange (checks_of t) bs

-- the entries from entry k on, and their rows
abbrev pub items_from : List ℕ → ℕ → List Item
items_from bs k = items_at bs (entries_of bs) k (entries_of bs - k)

abbrev pub rows_from : Table → List ℕ → ℕ → List Row
rows_from t bs k = rows_at t (items_from bs k)

-- a certificate's gap, and its mark
abbrev pub gap_on : Table → List ℤ → List ℕ → List ℕ → ℤ
gap_on t l w bs = gap t.bits (scale_of bs) l (rows_at t (items_of bs)) (bits_of w)

abbrev pub sole_on : Table → List ℤ → List ℕ → Bool
sole_on t l bs = sole t.bits (scale_of bs) l (rows_at t (items_of bs))

-- ---- the same by a table's starts and members: the rows
abbrev pub row_in : List ℕ → List ℕ → Item → Row
row_in starts members i = row_of (part_at starts members i.check) i.multiplier i.mask

abbrev pub rows_in : List ℕ → List ℕ → List Item → List Row
rows_in starts members [] = []
rows_in starts members (i ∷ is) = row_in starts members i ∷ rows_in starts members is

-- those of the entries from entry k on, of q
abbrev pub rows_left : List ℕ → List ℕ → List ℕ → ℕ → ℕ → List Row
rows_left starts members bs q k = rows_in starts members (items_at bs q k (q - k))

-- an entry that is not refused, and all q
pub record Placed (n : ℕ) (starts members : List ℕ) (i : Item) : Type 0 where
  pub part : Part n starts members i.check
  pub small : i.multiplier ≤ max_multiplier

pub record AllPlaced (n : ℕ) (starts members bs : List ℕ) (q : ℕ) : Type 0 where
  pub long : Long bs q
  pub each : (k : ℕ) → k < q → Placed n starts members (item_at bs q k)

-- the gap and its mark
abbrev pub gap_in : List ℕ → List ℕ → List ℤ → List ℕ → List ℕ → ℤ
gap_in starts members l w bs = gap (length l) (scale_of bs) l (rows_in starts members (items_of bs)) (bits_of w)

abbrev pub sole_in : List ℕ → List ℕ → List ℤ → List ℕ → Bool
sole_in starts members l bs = sole (length l) (scale_of bs) l (rows_in starts members (items_of bs))
