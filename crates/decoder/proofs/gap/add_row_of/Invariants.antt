-- `add_row_of` meets its contract: the members from the loop's place on, with what is left of the mask, make the whole row. Assumes nothing.
use Rattle.rules.specs.Scatter.{MembersPut}
use Rattle.decoder.proofs.gap.add_row_of.Given as goal

abbrev pub invariant-loop-i : goal.invariant-loop-i
invariant-loop-i l = MembersPut l.members l.b l.mask l.initial.numbers l.i-index l.rest l.numbers
