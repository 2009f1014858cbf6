-- `u16_at` meets its contract. Assumes nothing.
use Rattle.rules.specs.Bytes.{u16_at}
use Rattle.judge.proofs.numbers.u16_at.Goals as goal

pub returns : goal.returns
unfolding u16_at
returns c = c.u16_of.ensures
