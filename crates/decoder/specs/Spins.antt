-- The spins of a round, from the sums that the run carries (document 01, "One round", step 1). Definitions only. Assumes nothing.
use Rattle.std.specs.Prelude.{◌≡◌, List, ℕ, ◌≤◌, length, get_or, ℤ, ◌+ℤ◌}
use Rattle.integers.specs.Clip.{clip_z}
use Rattle.integers.specs.Sum.{AllWithin}
use Rattle.rules.specs.Limits.{unit, frame_limit, sum_limit}
use Rattle.rules.specs.Table.{at}
use Rattle.rules.specs.Round.{divided, first_of}
use Rattle.rules.specs.Buffers.{zeros}
use Rattle.spin.specs.Totals.{quotients_by}

-- n bits with frame l, their degrees ds and their sums x
pub record SpinsFit (n : ℕ) (l : List ℤ) (ds : List ℕ) (x : List ℤ) : Type 0 where
  pub size : length l ≡ n
  pub frame : AllWithin frame_limit l
  pub sums_long : length x ≡ n
  pub sums : AllWithin sum_limit x
  pub room : n ≤ length ds

-- "Each bit's total is its frame number plus the sum"
abbrev pub totals_of : List ℤ → List ℤ → List ℤ
totals_of l x = first_of (length x) (λ i. at l i +ℤ at x i)

-- each total over its bit's degree
abbrev pub quotients_over : List ℕ → List ℤ → List ℤ
quotients_over ds = quotients_by (λ i. get_or ds i 0)

-- the n spins, and zeros for what the pass adds to the sums
pub record Spun (n : ℕ) (l : List ℤ) (ds : List ℕ) (x s' x' : List ℤ) : Type 0 where
  pub spins : s' ≡ first_of n (λ i. clip_z unit (divided (at l i +ℤ at x i) (get_or ds i 0)))
  pub sums : x' ≡ zeros n
