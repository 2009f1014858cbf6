-- `run::Record::fresh` meets its contract, by computation. Assumes nothing.
use mathlib.Core.Path.{refl}
use Rattle.run.proofs.Record.fresh.Goals as goal

pub returns : goal.returns
returns c = refl
