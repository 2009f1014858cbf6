-- `refusal_number` meets its contract, case by case. Assumes nothing.
use Rattle.rules.specs.Refusal.{reply_of}
use mathlib.Core.Path.{sym, ◌∙◌, ap}
use Rattle.rules.specs.Run.{status_values}
use Rattle.decoder.specs.Reply.{outcome_of}
use Rattle.jugnayap.proofs.numbers.refusal_number.Goals as goal

pub returns-in-Ok : goal.returns-in-Ok
unfolding reply_of
returns-in-Ok c = ap (λ x. (reply_of status_values (outcome_of x)).number) (sym c.in-Ok.is)

pub returns-in-Err : goal.returns-in-Err
unfolding reply_of
returns-in-Err c = c.from.ensures ∙ c.number.ensures ∙ ap (λ x. (reply_of status_values (outcome_of x)).number) (sym c.in-Err.is)
