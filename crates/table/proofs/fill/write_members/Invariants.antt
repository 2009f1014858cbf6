-- `write_members` meets its contract: what is written, the members from k on and what is kept make the slice. Assumes nothing.
use mathlib.Core.Path.{◌≡◌}
use mathlib.Core.List.{◌++◌}
use lib.ListN.{take}
use Rattle.table.specs.Entries.{members_of}
use Rattle.table.proofs.BodiesLaws.{numbers_from}
use Rattle.table.proofs.fill.write_members.Given as goal

abbrev pub invariant-loop-k : goal.invariant-loop-k
invariant-loop-k l = take l.k l.member-items ++ numbers_from l.from.code.now l.from.at l.from.count l.k ≡ members_of l.from
