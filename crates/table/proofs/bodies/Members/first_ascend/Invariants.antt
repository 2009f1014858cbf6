-- `first_ascend` meets its contract: `all` says whether the members before k are right, and the others decide, `least` being the least that the next one may be. Assumes nothing.
use mathlib.Core.Path.{◌≡◌}
use mathlib.Core.Bool.{◌&&◌}
use Rattle.rules.specs.CodeFile.{numbers_at, ascends}
use Rattle.table.proofs.BodiesLaws.{numbers_from}
use Rattle.table.proofs.bodies.Members.first_ascend.Given as goal

abbrev pub invariant-loop-k : goal.invariant-loop-k
invariant-loop-k l =
    ascends l.n 0 (numbers_at l.self.code.now l.self.at l.count) ≡ (l.all && ascends l.n l.least (numbers_from l.self.code.now l.self.at l.count l.k))
