-- What a half-done run holds, and what comparing its sums with its copies and offsets asks (43). Definitions only. Assumes nothing.
use Rattle.std.specs.Prelude.{◌≡◌, List, ℕ, ◌≤◌, ◌<◌, length, ℤ}
use Rattle.integers.specs.Sum.{AllWithin}
use Rattle.rules.specs.Limits.{unit, max_bits, max_bit_degree, offset_limit}
use Rattle.rules.specs.Table.{degree_of}
use Rattle.rules.specs.Sound.{Below}
use Rattle.rules.specs.Scatter.{Room}
use Rattle.rules.specs.Round.{State}

-- edges at the members ms with copies z and offsets y, before round 1,024 at the latest, to be added to the sums x
pub record EdgesFit (ms : List ℕ) (z y x : List ℤ) : Type 0 where
  pub below : Below (length x) ms
  pub copies_long : length z ≡ length ms
  pub offsets_long : length y ≡ length ms
  pub copies : AllWithin unit z
  pub offsets : AllWithin offset_limit y
  pub room : Room ms x

-- the edges of a table of n bits
pub record EdgesOf (n : ℕ) (ms : List ℕ) : Type 0 where
  pub bits : n ≤ max_bits
  pub below : Below n ms
  pub standing : (i : ℕ) → i < n → degree_of i ms ≤ max_bit_degree

-- a copy, an offset for each edge, of any size, and a sum for each bit
pub record Carried (ms : List ℕ) (z y x : List ℤ) : Type 0 where
  pub edges : EdgesOf (length x) ms
  pub copies_long : length z ≡ length ms
  pub offsets_long : length y ≡ length ms

-- what a half-done run holds: the members of its code's edges, their copies and offsets, and the bits' sums
pub record Held : Type 0 where
  pub members : List ℕ
  pub state : State
  pub sums : List ℤ

abbrev pub held_as : List ℕ → List ℤ → List ℤ → List ℤ → Held
held_as ms z y x = record { members = ms; state = record { copies = z; offsets = y }; sums = x }
