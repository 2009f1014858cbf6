-- `load` meets its contract: the first i places are the frame's, and the others still as they came. Assumes nothing.
use mathlib.Core.Path.{◌≡◌}
use Rattle.rules.proofs.FillLaws.{fill}
use Rattle.decoder.proofs.gap.load.Given as goal

abbrev pub invariant-loop-i : goal.invariant-loop-i
invariant-loop-i l = l.numbers ≡ fill l.i l.frame l.initial.numbers
