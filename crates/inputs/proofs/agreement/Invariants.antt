-- `agreement` meets its contract: the sum over the first bits. Assumes nothing.
use Rattle.std.proofs.Common.{length}
use Rattle.inputs.proofs.AgreedLaws.{Added}
use Rattle.inputs.proofs.agreement.Given as goal

abbrev pub invariant-loop-x : goal.invariant-loop-x
invariant-loop-x l = Added l.frame l.word (length l.yielded) l.total
