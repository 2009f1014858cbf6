-- What the code's division of a total asks and says, and whether a round has a candidate (document 01, "One round", steps 1 and 4). Definitions only.
-- Assumes nothing.
use Rattle.std.specs.Prelude.{Bool, cond, not, List, ℤ, pos, ◌+ℤ◌, ◌≤ℤ◌}
use Rattle.std.specs.Int.Signed.{lt_z}
use Rattle.std.specs.List.{list_all}
use Rattle.integers.specs.Linear.{Within}
use Rattle.rules.specs.Round.{is_zero}

-- a number of edges, as the code holds it
pub record Degree (d : ℤ) : Type 0 where
  pub some : pos 1 ≤ℤ d
  pub few : d ≤ℤ pos 65535

pub record Remainder (r d : ℤ) : Type 0 where
  pub degree : Degree d
  pub small : Within 65535 r

-- 1 if the remainder r is half of d or more, else 0
unfoldable pub lacks : ℤ → ℤ → ℤ
lacks r d = cond (lt_z (r +ℤ r) d) (pos 0) (pos 1)

-- "If no spin is 0"
abbrev pub no_zero : List ℤ → Bool
no_zero = list_all (λ s. not (is_zero s))
