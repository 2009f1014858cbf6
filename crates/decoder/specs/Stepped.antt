-- What one check's step asks of its caller, and what it leaves (document 01, "One round", steps 2 and 3). Definitions only. Assumes nothing.
use Rattle.std.specs.Prelude.{◌≡◌, List, ℕ, ◌≤◌, length, ℤ}
use Rattle.integers.specs.Sum.{AllWithin}
use Rattle.rules.specs.Limits.{unit, offset_limit, step_limit, value_limit, max_degree}
use Rattle.rules.specs.Sound.{Below}
use Rattle.rules.specs.Mask.{set_of}
use Rattle.rules.specs.Step.{moves, minus, Step, step}
use Rattle.rules.specs.Round.{values}
use Rattle.rules.specs.Scatter.{scatter, Room}
use Rattle.rules.specs.Buffers.{multiplier_of, mask_in}

pub record Stepped : Type 0 where
  pub copies : List ℤ
  pub offsets : List ℤ
  pub sums : List ℤ
  pub multiplier : ℕ
  pub mask : ℕ
  pub depth : ℕ

-- the check's copies and offsets, all bits' sums, the check's multiplier, its mask and its depth
abbrev pub stepped_to : List ℤ → List ℤ → List ℤ → ℕ → ℕ → ℕ → Stepped
stepped_to z y x b m d = record { copies = z; offsets = y; sums = x; multiplier = b; mask = m; depth = d }

-- the sums xs with z − y added at each of the members ms
abbrev pub summed : List ℕ → List ℤ → List ℤ → List ℤ → List ℤ
summed ms z y xs = scatter ms (minus z y) xs

abbrev pub stepped_by : List ℕ → List ℤ → Step → Stepped
stepped_by ms xs s = stepped_to s.copies s.offsets (summed ms s.copies s.offsets xs) (multiplier_of s.entry) (mask_in s.entry) s.depth

-- a check with the members ms and the values vs
unfoldable pub stepped_on : List ℕ → List ℤ → List ℤ → Stepped
stepped_on ms xs vs = stepped_by ms xs (step unit vs)

-- a check with the members ms and the offsets ys, f the spins and xs the sums so far
unfoldable pub stepped : (ℕ → ℤ) → List ℕ → List ℤ → List ℤ → Stepped
stepped f ms ys xs = stepped_on ms xs (values f ms ys)

-- the copies and offsets that a multiplier b and a mask m leave of the values v
abbrev pub new_copies : ℕ → ℕ → List ℤ → List ℤ
new_copies b m v = moves unit b (set_of (length v) m) v

abbrev pub new_offsets : ℕ → ℕ → List ℤ → List ℤ
new_offsets b m v = minus v (new_copies b m v)

-- the spins s; the members, copies and offsets of a check; the sums x
pub record StepFits (s : List ℤ) (ms : List ℕ) (z y x : List ℤ) : Type 0 where
  pub few : length ms ≤ max_degree
  pub below : Below (length s) ms
  pub copies_long : length z ≡ length ms
  pub offsets_long : length y ≡ length ms
  pub spins : AllWithin unit s
  pub offsets : AllWithin offset_limit y
  pub sums_long : length x ≡ length s
  pub room : Room ms x

-- the multiplier b; the members, the copies, and the values v in the offsets' place; the sums x
pub record MoveFits (b : ℕ) (ms : List ℕ) (z v x : List ℤ) : Type 0 where
  pub bounded : b ≤ step_limit
  pub few : length v ≤ max_degree
  pub small : AllWithin value_limit v
  pub copies_long : length z ≡ length v
  pub members_long : length ms ≡ length v
  pub below : Below (length x) ms
  pub room : Room ms x

-- what moving leaves: the copies, the offsets and the sums
pub record Moved (b m : ℕ) (ms : List ℕ) (v x z' y' x' : List ℤ) : Type 0 where
  pub copies : z' ≡ new_copies b m v
  pub offsets : y' ≡ new_offsets b m v
  pub sums : x' ≡ summed ms (new_copies b m v) (new_offsets b m v) x
