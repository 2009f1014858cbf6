-- What step 4 of a round finds, and what becomes of the run's record (document 01, "One round"). Definitions only. Assumes nothing.
use Rattle.std.specs.Prelude.{Bool, true, false, cond, ℕ, suc, leb, ltb, ℤ}
use Rattle.std.specs.Prelude as code
use Rattle.std.proofs.Math.Option.{Option, some, none}
use Rattle.rules.specs.Limits.{round_limit}
use Rattle.rules.specs.Round.{is_zero}
use Rattle.rules.specs.Run.{Status, running, certified, spent, Progress}

-- the gap of a candidate that meets all checks
abbrev pub found_of : code.Option ℤ → Option ℤ
found_of code.None = none
found_of (code.Some g) = some g

-- "gap 0 with this round's multipliers"
abbrev pub closing : Option ℤ → Bool
closing none = false
closing (some g) = is_zero g

-- one round more: "a run has at most 1,024 rounds"
abbrev pub counted : ℕ → ℕ
counted k = cond (ltb k round_limit) (suc k) k

-- "ends the run as certified"; "done 1,024 without a certificate it is spent"
abbrev pub status_by : Bool → ℕ → Status
status_by true k = certified
status_by false k = cond (leb round_limit k) spent running

abbrev pub record_by : Option ℤ → Progress → Progress
record_by o p = record { rounds = counted p.rounds; status = status_by (closing o) (counted p.rounds) }
