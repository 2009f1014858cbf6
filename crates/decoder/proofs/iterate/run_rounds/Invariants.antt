-- `run_rounds` meets its contract. The invariant: what is left of the rounds is done from where the run stands. Assumes nothing.
use Prim.Native.Nat.{◌-◌}
use Rattle.decoder.specs.Lent.{loop_in}
use Rattle.decoder.proofs.IterateLaws.{Going}
use Rattle.decoder.proofs.iterate.run_rounds.Given as goal

abbrev pub invariant-loop : goal.invariant-loop
invariant-loop l =
    let i = l.initial in
    let before = loop_in i.at i.spins i.copies i.offsets i.sums i.multipliers i.masks i.depths in
    let now = loop_in l.at l.spins l.copies l.offsets l.sums l.multipliers l.masks l.depths in
    Going l.table l.frame l.wanted before (l.wanted - l.counter) now
