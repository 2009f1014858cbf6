-- `put_on` meets its contract: what is put on and the members from k on, with what is left of the mask, make the numbers. Assumes nothing.
use Rattle.rules.specs.Scatter.{MembersPut}
use Rattle.judge.proofs.bound.put_on.Given as goal

abbrev pub invariant-loop-i : goal.invariant-loop-i
invariant-loop-i l = MembersPut l.members l.multiplier l.mask l.initial.reduced l.i-index l.left l.reduced
