-- `run_numbers` meets its contract: its status is `status_number`'s. Assumes nothing.
use mathlib.Core.Path.{ap}
use Rattle.jugnayap.proofs.numbers.run_numbers.Goals as goal

pub returns : goal.returns
returns c = ap (λ s. record { rounds = c.args.done.rounds; status = s }) c.status_number.ensures
