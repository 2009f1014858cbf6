-- The contract of a call for rounds tells any two answers apart. Assumes nothing.
use mathlib.Core.Path.{◌≡◌}
use Rattle.std.specs.Prelude.{Result}
use Rattle.limits.specs.declared.refusals.Refusal.{Refusal}
use Rattle.limits.proofs.NumberLaws.{answer-inj}
use Rattle.run.specs.declared.Status.{Status}
use Rattle.run.specs.Reply.{status_of}
use Rattle.run.proofs.ViewLaws.{status-inj}
use Rattle.decoder.specs.Reply.{outcome_of}

pub outcome-inj : (a b : Result Status Refusal) → outcome_of a ≡ outcome_of b → a ≡ b
outcome-inj = answer-inj status_of status-inj
