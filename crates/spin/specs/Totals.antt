-- All bits of one degree, and totals divided by their bits' degrees (document 01, "One round", step 1). Definitions only. Assumes nothing.
use Rattle.std.specs.Prelude.{Bool, cond, List, ℕ, eqb, length, get_or, ℤ}
use Rattle.std.specs.List.{list_all}
use Rattle.rules.specs.Table.{at}
use Rattle.rules.specs.Round.{divided, first_of}

-- whether each degree is d
abbrev pub all_are : ℕ → List ℕ → Bool
all_are d = list_all (λ x. eqb x d)

-- the degree that all bits have; 0 if they differ, and for no bit
unfoldable pub common_degree : List ℕ → ℕ
common_degree ds = cond (all_are (get_or ds 0 0) ds) (get_or ds 0 0) 0

-- each total over its place's degree
unfoldable pub quotients_by : (ℕ → ℕ) → List ℤ → List ℤ
quotients_by d ts = first_of (length ts) (λ i. divided (at ts i) (d i))

-- each total over d
abbrev pub quotients : ℕ → List ℤ → List ℤ
quotients d = quotients_by (λ _. d)
