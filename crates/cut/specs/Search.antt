-- The cut search on a table, and what its answer is about. Definitions only. Assumes nothing.
use Rattle.std.specs.Prelude.{◌≡◌, Bool, true, cond, List, ℕ, ◌*◌, ◌≤◌, ◌<◌, eqb, ltb, length, ℤ, pos, ◌-ℤ◌}
use Rattle.std.proofs.Math.Option.{Option, some, none}
use Rattle.rules.specs.Limits.{unit}
use Rattle.rules.specs.Refusal.{Answer, gives, asked_too_much}
use Rattle.rules.specs.Table.{Table, at, values_at, checks_of}
use Rattle.rules.specs.Parity.{odd, Alike, left}
use Rattle.rules.specs.CodeFile.{code_file}
use Rattle.rules.specs.Input.{each_within, on_point, on_check}
use Rattle.rules.specs.Cut.{shortfall, Violation, violation}
use Rattle.rules.specs.Certificate.{members_at}
use Rattle.rules.proofs.CutRule.{Cuts}
use Rattle.inputs.specs.Refusals.{point_refusal, or_else}

-- "then .. 16 ..; then 17", or 0
unfoldable pub search_refusal : ℕ → ℕ → List ℤ → ℕ → ℕ
search_refusal n m s j = or_else (point_refusal n s) (cond (ltb j m) 0 asked_too_much)

-- the spins at check j's members
abbrev pub spins_at : Table → List ℤ → ℕ → List ℤ
spins_at t s j = values_at (at s) (members_at t j)

-- rules' `cut_search` from the table on
abbrev pub search_on : Table → List ℤ → ℕ → Answer (Option (Violation (List Bool)))
search_on t s j = on_point t s (on_check t j (gives (violation unit (spins_at t s j))))

-- the answer that a mask and a depth are: no odd set has mask 0
abbrev pub cut_gives : ℕ → ℕ → Answer (Option (Violation ℕ))
cut_gives m d = gives (cond (eqb m 0) none (some (record { set = m; depth = d })))

-- ---- what is asked: an accepted code file, n spins from −U to U, a check number below m
pub record Inputs (file : List ℕ) (s : List ℤ) (j : ℕ) (t : Table) : Type 0 where
  pub accepted : code_file file ≡ gives t
  pub size : length s ≡ t.bits
  pub range : each_within unit s ≡ true
  pub listed : j < checks_of t

-- V is the one set of check j that is odd and violated, and falls short by d, "2U less the left side, from 1 to 8,192"; no odd set falls short by more
pub record OnlyCut (t : Table) (s : List ℤ) (j : ℕ) (vs : List Bool) (d : ℕ) : Type 0 where
  pub cuts : Cuts unit vs (spins_at t s j)
  pub only : (ws : List Bool) → Cuts unit ws (spins_at t s j) → ws ≡ vs
  pub depth : pos d ≡ pos (2 * unit) -ℤ left unit vs (spins_at t s j)
  pub range : (1 ≤ d) × (d ≤ 2 * unit)
  pub greatest : (ws : List Bool) → odd ws ≡ true → Alike ws (spins_at t s j) → shortfall unit ws (spins_at t s j) ≤ d

abbrev pub NoCut : Table → List ℤ → ℕ → Type 0
NoCut t s j = (vs : List Bool) → Cuts unit vs (spins_at t s j) → ⊥
