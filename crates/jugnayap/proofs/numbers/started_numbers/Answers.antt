-- `started_numbers` meets its contract, case by case. Assumes nothing.
use Rattle.rules.specs.Refusal.{reply_of}
use mathlib.Core.Path.{sym, ◌∙◌, ap}
use Rattle.rules.specs.Run.{progress_values}
use Rattle.run.specs.Reply.{started_of}
use Rattle.jugnayap.specs.Numbers.{started_from}
use Rattle.jugnayap.proofs.numbers.started_numbers.Goals as goal

pub returns-in-Ok : goal.returns-in-Ok
unfolding reply_of
returns-in-Ok c = ap (λ x. record { number = 0; run = x }) c.run_numbers.ensures ∙ ap (λ x. started_from (reply_of progress_values (started_of x))) (sym c.in-Ok.is)

pub returns-in-Err : goal.returns-in-Err
unfolding reply_of
returns-in-Err c =
    ap (λ n. record { number = n; run = record { rounds = 0; status = 0 } }) (c.from.ensures ∙ c.number.ensures)
    ∙ ap (λ x. started_from (reply_of progress_values (started_of x))) (sym c.in-Err.is)
