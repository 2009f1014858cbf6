-- An admitted call on buffers that are long enough, and what it writes at its end. Definitions only. Assumes nothing.
use Rattle.std.specs.Prelude.{◌≡◌, List, ℕ, ◌+◌, ◌≤◌, length, take, ℤ}
use Rattle.integers.specs.Sum.{AllWithin}
use Rattle.rules.specs.Limits.{frame_limit, max_checks, certificate_length}
use Rattle.rules.specs.Table.{Table}
use Rattle.rules.specs.Cut.{negatives}
use Rattle.rules.specs.Buffers.{lengths_of, needs_by, Part, over, bytes_of}
use Rattle.rules.specs.Run.{Status, running, certified, spent, Run, Safe}
use Rattle.writing.specs.Written.{certificate_from}
use Rattle.table.specs.Layout.{checks_from, table_of, Holds}

-- ---- the end
pub record Ending : Type 0 where
  pub word : List ℕ
  pub certificate : List ℕ

abbrev pub ended_to : List ℕ → List ℕ → Ending
ended_to w c = record { word = w; certificate = c }

-- from the last round's spins s, multipliers bs and masks ks
abbrev pub finished : Status → List ℤ → List ℕ → List ℕ → Ending → Ending
finished running s bs ks o = o
finished certified s bs ks o = ended_to (over (bytes_of (negatives s)) o.word) (over (certificate_from bs ks) o.certificate)
finished spent s bs ks o = o

pub record FinishFits (s : List ℤ) (bs ks w c : List ℕ) : Type 0 where
  pub few : length ks ≤ max_checks
  pub alike : length bs ≡ length ks
  pub word : length s ≤ length w
  pub certificate : certificate_length (length ks) ≤ length c

-- ---- the call
-- the table of n bits, m checks and e edges in front of ss and ms
abbrev pub front_table : ℕ → ℕ → ℕ → List ℕ → List ℕ → Table
front_table n m e ss ms = table_of n (take (m + 1) ss) (take e ms)

-- such a table, a frame for it, and a sound running run
pub record PartsFit (n m e : ℕ) (l : List ℤ) (ss ms : List ℕ) (r : Run) : Type 0 where
  pub size : length l ≡ n
  pub frame : AllWithin frame_limit l
  pub few : m ≤ max_checks
  pub starts_room : m + 1 ≤ length ss
  pub members_room : e ≤ length ms
  pub holds : Holds n (take (m + 1) ss) (take e ms)
  pub checks : m ≡ length (checks_from (take (m + 1) ss) (take e ms))
  pub room : Part (needs_by n m e) (lengths_of r.buffers)
  pub runs : r.progress.status ≡ running
  pub safe : Safe (front_table n m e ss ms) r
