-- The parity-check table, and what is read at its places. Definitions only. Assumes nothing.
use Rattle.std.specs.Prelude.{Bool, false, cond, List, [], ◌∷◌, ◌++◌, ℕ, ◌+◌, eqb, length, get_or, ℤ, pos}

-- n bits, and each check's members
pub record Table : Type 0 where
  pub bits : ℕ
  pub checks : List (List ℕ)

-- "an edge is one body number": the members of all checks, in order
abbrev pub edges : List (List ℕ) → List ℕ
edges [] = []
edges (ms ∷ cs) = ms ++ edges cs

-- E, the sum of counts
abbrev pub edges_of : Table → ℕ
edges_of t = length (edges t.checks)

abbrev pub checks_of : Table → ℕ
checks_of t = length t.checks

-- in how many of these edges bit i stands
abbrev pub degree_of : ℕ → List ℕ → ℕ
degree_of i [] = 0
degree_of i (m ∷ ms) = cond (eqb m i) 1 0 + degree_of i ms

-- A place is read with a default, so that reading needs no length.
abbrev pub at : List ℤ → ℕ → ℤ
at l i = get_or l i (pos 0)

abbrev pub bit : List Bool → ℕ → Bool
bit w i = get_or w i false

-- what the members of a check hold
abbrev pub bits_at : List Bool → List ℕ → List Bool
bits_at w [] = []
bits_at w (m ∷ ms) = bit w m ∷ bits_at w ms

abbrev pub values_at : (ℕ → ℤ) → List ℕ → List ℤ
values_at f [] = []
values_at f (m ∷ ms) = f m ∷ values_at f ms
