-- Document 01's words for the run's record and for the answer of a start. Definitions only. Assumes nothing.
use Rattle.std.specs.Prelude.{Result}
use Rattle.rules.specs.Refusal.{Answer}
use Rattle.rules.specs.Run as run
use Rattle.run.specs.declared.Status.{Status}
use Rattle.run.specs.declared.Status.TheVariants.{Running, Certified, Spent}
use Rattle.run.specs.declared.Record.{Record}
use Rattle.limits.specs.declared.refusals.Refusal.{Refusal}
use Rattle.limits.specs.Numbers.{answer_by}

abbrev pub status_of : Status → run.Status
status_of Running = run.running
status_of Certified = run.certified
status_of Spent = run.spent

abbrev pub progress_of : Record → run.Progress
progress_of r = record { rounds = r.rounds; status = status_of r.status }

abbrev pub started_of : Result Record Refusal → Answer run.Progress
started_of = answer_by progress_of
