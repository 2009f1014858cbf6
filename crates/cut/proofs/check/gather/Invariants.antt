-- `gather` meets its contract: the first k values are the members' spins. Assumes nothing.
use mathlib.Core.Path.{◌≡◌}
use Rattle.rules.specs.Table.{at}
use Rattle.cut.proofs.GatherLaws.{gathered}
use Rattle.cut.proofs.check.gather.Given as goal

abbrev pub invariant-loop-k : goal.invariant-loop-k
invariant-loop-k l = l.values ≡ gathered (at l.spins) l.members l.initial.values l.k
