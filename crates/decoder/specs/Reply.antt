-- Document 01's answer for each answer of a call. Definitions only. Assumes nothing.
use Rattle.std.specs.Prelude.{Result}
use Rattle.rules.specs.Refusal.{Answer}
use Rattle.rules.specs.Run as run
use Rattle.limits.specs.declared.refusals.Refusal.{Refusal}
use Rattle.limits.specs.Numbers.{answer_by}
use Rattle.run.specs.declared.Status.{Status}
use Rattle.run.specs.Reply.{status_of}

abbrev pub outcome_of : Result Status Refusal → Answer run.Status
outcome_of = answer_by status_of
