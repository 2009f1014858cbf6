-- A table as a loaded code file holds it: m + 1 starts, and the members of all checks, each check's from its start to the next. Definitions only.
-- Assumes nothing.
use Rattle.std.specs.Prelude.{◌≡◌, List, [], ◌∷◌, ℕ, zero, suc, ◌+◌, ◌-◌, ◌≤◌, ◌<◌, length, get_or, take, drop}
use Rattle.rules.specs.Limits.{max_degree}
use Rattle.rules.specs.Refusal.{gives}
use Rattle.rules.specs.Table.{Table, edges}
use Rattle.rules.specs.CodeFile.{code_file}
use Rattle.rules.specs.Sound.{Below, Sound}
use Rattle.table.specs.Starts.{starts_of}

-- check j's members stand from start j to start j + 1
unfoldable pub checks_from : List ℕ → List ℕ → List (List ℕ)
checks_from [] ms = []
checks_from (a ∷ []) ms = []
checks_from (a ∷ b ∷ ss) ms = take (b - a) ms ∷ checks_from (b ∷ ss) (drop (b - a) ms)

abbrev pub table_of : ℕ → List ℕ → List ℕ → Table
table_of n ss ms = record { bits = n; checks = checks_from ss ms }

-- starts and members are those of a table that a code file can have, and nothing more
pub record Holds (n : ℕ) (ss ms : List ℕ) : Type 0 where
  pub starts : ss ≡ starts_of 0 (checks_from ss ms)
  pub members : ms ≡ edges (checks_from ss ms)
  pub sound : Sound (table_of n ss ms)

-- how many edges stand before check j
abbrev pub edges_before : ℕ → List (List ℕ) → ℕ
edges_before zero cs = 0
edges_before (suc j) [] = 0
edges_before (suc j) (ms ∷ cs) = length ms + edges_before j cs

-- ---- check j: its degree, its members, and what the code relies on there
abbrev pub degree_at : List ℕ → ℕ → ℕ
degree_at ss j = get_or ss (j + 1) 0 - get_or ss j 0

abbrev pub part_at : List ℕ → List ℕ → ℕ → List ℕ
part_at ss ms j = take (degree_at ss j) (drop (get_or ss j 0) ms)

pub record Start (ss : List ℕ) (j : ℕ) : Type 0 where
  pub room : j + 1 < length ss
  pub order : get_or ss j 0 ≤ get_or ss (j + 1) 0
  pub degree : degree_at ss j ≤ max_degree

pub record Part (n : ℕ) (ss ms : List ℕ) (j : ℕ) : Type 0 where
  pub start : Start ss j
  pub end : get_or ss (j + 1) 0 ≤ length ms
  pub inside : Below n (part_at ss ms j)

-- ---- a load: the file's table, of n bits, m checks and e edges, stands in front of ss and ms
pub record Opened (file : List ℕ) (n m e : ℕ) (ss ms : List ℕ) : Type 0 where
  pub starts_room : m + 1 ≤ length ss
  pub members_room : e ≤ length ms
  pub holds : Holds n (take (m + 1) ss) (take e ms)
  pub is_file : code_file file ≡ gives (table_of n (take (m + 1) ss) (take e ms))
