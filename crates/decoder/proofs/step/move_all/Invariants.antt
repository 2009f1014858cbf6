-- `move_all` meets its contract: the first i places are done, and the others still hold the values. Assumes nothing.
use Rattle.decoder.proofs.MoveAllLaws.{Moving}
use Rattle.decoder.proofs.step.move_all.Given as goal

abbrev pub invariant-loop-i : goal.invariant-loop-i
invariant-loop-i l = Moving l.b l.mask l.members l.initial.copies l.initial.offsets l.initial.sums l.i l.copies l.offsets l.sums
