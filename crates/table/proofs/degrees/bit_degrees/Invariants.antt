-- `bit_degrees` meets its contract: what is counted and the members from k on make each degree. Assumes nothing.
use Rattle.table.specs.Entries.{members_of}
use Rattle.table.proofs.BodiesLaws.{numbers_from}
use Rattle.table.proofs.DegreesLaws.{Counted}
use Rattle.table.proofs.degrees.bit_degrees.Given as goal

abbrev pub invariant-loop-k : goal.invariant-loop-k
invariant-loop-k l = Counted l.degrees (numbers_from l.members.code.now l.members.at l.members.count l.k) (members_of l.members)
