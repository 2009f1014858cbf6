-- `count_degrees` meets its contract: what is counted and the members from the loop's place on make each degree. Assumes nothing.
use lib.ListN.{drop}
use Rattle.table.proofs.DegreesLaws.{Counted}
use Rattle.decoder.proofs.degrees.count_degrees.Given as goal

abbrev pub invariant-loop-i : goal.invariant-loop-i
invariant-loop-i l = Counted l.degrees (drop l.i-index l.members) l.members
