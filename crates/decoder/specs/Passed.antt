-- What the pass over all checks asks of its caller, and what it leaves (document 01, "One round", steps 2 and 3). Definitions only. Assumes nothing.
use Rattle.std.specs.Prelude.{◌≡◌, List, ℕ, length, ℤ}
use Rattle.integers.specs.Sum.{AllWithin}
use Rattle.rules.specs.Limits.{unit, offset_limit}
use Rattle.rules.specs.Table.{Table, edges, edges_of, checks_of}
use Rattle.rules.specs.Step.{Step}
use Rattle.rules.specs.Round.{Round, pass, copies_in, offsets_in, entries_in, depths_in}
use Rattle.rules.specs.Buffers.{multipliers_of, masks_of}
use Rattle.rules.specs.Scatter.{Room}
use Rattle.decoder.specs.Stepped.{summed}

pub record Passed : Type 0 where
  pub copies : List ℤ
  pub offsets : List ℤ
  pub sums : List ℤ
  pub multipliers : List ℕ
  pub masks : List ℕ
  pub depths : List ℕ

-- in the order of a call's parameters
abbrev pub passed_to : List ℤ → List ℤ → List ℤ → List ℕ → List ℕ → List ℕ → Passed
passed_to z y x b k d = record { copies = z; offsets = y; sums = x; multipliers = b; masks = k; depths = d }

-- with the members ms of all checks, and the sums xs to begin with
abbrev pub passed_by : List ℕ → List ℤ → List Step → Passed
passed_by ms xs ss = passed_to (copies_in ss) (offsets_in ss) (summed ms (copies_in ss) (offsets_in ss) xs) (multipliers_of (entries_in ss)) (masks_of (entries_in ss)) (depths_in ss)

-- what a round's pass leaves
abbrev pub passed_of : Round → Passed
passed_of d = passed_to d.state.copies d.state.offsets d.sums (multipliers_of d.entries) (masks_of d.entries) d.depths

-- f the spins, cs the checks, ys the offsets, xs the sums
unfoldable pub passed : (ℕ → ℤ) → List (List ℕ) → List ℤ → List ℤ → Passed
passed f cs ys xs = passed_by (edges cs) xs (pass unit f cs ys)

pub record PassFits (t : Table) (s z y x : List ℤ) (bs ks ds : List ℕ) : Type 0 where
  pub size : length s ≡ t.bits
  pub spins : AllWithin unit s
  pub copies_long : length z ≡ edges_of t
  pub offsets_long : length y ≡ edges_of t
  pub offsets : AllWithin offset_limit y
  pub sums_long : length x ≡ length s
  pub room : Room (edges t.checks) x
  pub multipliers_long : length bs ≡ checks_of t
  pub masks_long : length ks ≡ checks_of t
  pub depths_long : length ds ≡ checks_of t
