-- `step` meets its contract: the first six places of a check of degree 6 are all, and so are the first eight of one of degree 8. Assumes nothing.
use Rattle.decoder.proofs.StepLaws.{part-asks, part_left}
use Rattle.decoder.proofs.step.step.Goals as goal

pub returns-in-6 : goal.returns-in-6
returns-in-6 c =
    let a = c.args in
    part_left 6 a.spins.now a.members.now a.copies.now a.offsets.now a.sums.now c.in-6.is c.requires _ _ _ _ _ _ c.step_of.ensures

pub step_of-requires-in-8 : goal.step_of-requires-in-8
step_of-requires-in-8 c =
    let a = c.args in
    part-asks 8 a.spins.now a.members.now a.copies.now a.offsets.now a.sums.now c.in-8.is c.requires
