-- What reading on leaves of the code file's buffer. Definitions only. Assumes nothing.
use Rattle.std.specs.Prelude.{◌≡◌, List, ℕ, ◌-◌, ◌≤◌, max, take, drop}
use Rattle.rules.specs.Limits.{max_checks, max_edges, file_length}
use Rattle.rules.specs.Report.{announced}

-- the longest code file
abbrev pub file_limit : ℕ
file_limit = file_length max_checks max_edges

-- what stands between two places
abbrev pub between : ℕ → ℕ → List ℕ → List ℕ
between size end l = take (end - size) (drop size l)

-- from the first `size` bytes, which stay, on to what they announce at the most
pub record ReadOn (size r : ℕ) (new old : List ℕ) : Type 0 where
  pub from : size ≤ r
  pub to : r ≤ max size (announced (take size old))
  pub front : take size new ≡ take size old
