-- A code file written to a lent buffer: the answer, a refusal or how long the file is, and what the buffer holds then. Definitions only. Assumes
-- nothing.
use Rattle.std.specs.Prelude.{List, ℕ, leb, length, Result}
use Rattle.rules.specs.Limits.{max_checks, max_edges, file_length}
use Rattle.rules.specs.Refusal.{Answer, refused, gives, must, size_range, start_wrong, buffer_short}
use Rattle.rules.specs.Buffers.{over}
use Rattle.rules.specs.FileBytes.{file_from}
use Rattle.limits.specs.Numbers.{answer_by}
use Rattle.limits.specs.declared.refusals.Refusal.{Refusal}

abbrev pub written_of : Result ℕ Refusal → Answer ℕ
written_of = answer_by (λ n. n)

pub record Filled : Type 0 where
  pub answer : Answer ℕ
  pub bytes : List ℕ

-- a refusal leaves the buffer as it was; past what is written it stays
abbrev pub filled_by : Answer (List ℕ) → List ℕ → Filled
filled_by (refused k) old = record { answer = refused k; bytes = old }
filled_by (gives new) old = record { answer = gives (length new); bytes = over new old }

-- 2 for more checks than a table has, 4 for more edges, then 41
unfoldable pub file_written : ℕ → List ℕ → List ℕ → List ℕ → Filled
file_written n ds ms old =
    filled_by
    (must (leb (length ds) max_checks) size_range
    (must (leb (length ms) max_edges) start_wrong
    (must (leb (file_length (length ds) (length ms)) (length old)) buffer_short
    (gives (file_from n ds ms))))) old
