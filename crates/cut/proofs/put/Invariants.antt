-- `put` meets its contract: the first i places are as the list with x put in, and the others still as they came. Assumes nothing.
use mathlib.Core.Path.{◌≡◌}
use lib.ListN.{set}
use Rattle.rules.proofs.FillLaws.{fill}
use Rattle.cut.proofs.put.Given as goal

abbrev pub invariant-loop-i : goal.invariant-loop-i
invariant-loop-i l = l.heights ≡ fill l.i (set l.initial.heights l.k l.x) l.initial.heights
