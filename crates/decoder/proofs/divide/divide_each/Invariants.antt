-- `divide_each` meets its contract: the first i places are divided, and the others still as they came. Assumes nothing.
use mathlib.Core.Path.{◌≡◌}
use Rattle.rules.proofs.FillLaws.{fill}
use Rattle.decoder.specs.Spins.{quotients_over}
use Rattle.decoder.proofs.divide.divide_each.Given as goal

abbrev pub invariant-loop-i : goal.invariant-loop-i
invariant-loop-i l = l.totals ≡ fill l.i (quotients_over l.degrees l.initial.totals) l.initial.totals
