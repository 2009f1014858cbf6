-- What the table of an accepted code file is known to have (document 01, "Code file"). Definitions only. Assumes nothing.
use Rattle.std.specs.Prelude.{List, [], ◌∷◌, ℕ, ◌+◌, ◌≤◌, ◌<◌, length}
use Rattle.rules.specs.Limits.{max_bits, max_checks, max_degree, max_edges, max_bit_degree}
use Rattle.rules.specs.Table.{Table, edges, edges_of, checks_of, degree_of}

-- members are bits
abbrev pub Below : ℕ → List ℕ → Type 0
Below n [] = Unit {0}
Below n (m ∷ ms) = (m < n) × Below n ms

abbrev pub AllBelow : ℕ → List (List ℕ) → Type 0
AllBelow n [] = Unit {0}
AllBelow n (ms ∷ cs) = Below n ms × AllBelow n cs

-- "strictly ascending within a check", from a least number on
abbrev pub Ascending : ℕ → List ℕ → Type 0
Ascending least [] = Unit {0}
Ascending least (x ∷ xs) = (least ≤ x) × Ascending (x + 1) xs

abbrev pub AllAscending : List (List ℕ) → Type 0
AllAscending [] = Unit {0}
AllAscending (ms ∷ cs) = Ascending 0 ms × AllAscending cs

abbrev pub Degrees : List (List ℕ) → Type 0
Degrees [] = Unit {0}
Degrees (ms ∷ cs) = (length ms ≤ max_degree) × Degrees cs

pub record Sound (t : Table) : Type 0 where
  pub bits : (1 ≤ t.bits) × (t.bits ≤ max_bits)
  pub checks : (1 ≤ checks_of t) × (checks_of t ≤ max_checks)
  pub below : AllBelow t.bits t.checks
  pub ascending : AllAscending t.checks
  pub degrees : Degrees t.checks
  pub few : edges_of t ≤ max_edges
  pub standing : (i : ℕ) → i < t.bits → (1 ≤ degree_of i (edges t.checks)) × (degree_of i (edges t.checks) ≤ max_bit_degree)
