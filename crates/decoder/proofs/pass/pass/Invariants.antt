-- `pass` meets its contract: j checks are done, and the lists of the others are as they came. Assumes nothing.
use Rattle.rules.specs.Table.{at}
use Rattle.decoder.specs.Passed.{passed_to}
use Rattle.decoder.proofs.PassLoopLaws.{Passing}
use Rattle.decoder.proofs.pass.pass.Given as goal

abbrev pub invariant-loop-j : goal.invariant-loop-j
invariant-loop-j l =
    let i = l.initial in
    let before = passed_to i.copies i.offsets i.sums i.multipliers i.masks i.depths in
    let now = passed_to l.copies l.offsets l.sums l.multipliers l.masks l.depths in
    Passing (at l.spins) l.starts l.members before now l.j
