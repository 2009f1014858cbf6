-- `add_frame` meets its contract: the first i places hold the totals, and the others what came. Assumes nothing.
use mathlib.Core.Path.{◌≡◌}
use Rattle.rules.proofs.FillLaws.{fill}
use Rattle.decoder.specs.Spins.{totals_of}
use Rattle.decoder.proofs.spins.add_frame.Given as goal

abbrev pub invariant-loop-i : goal.invariant-loop-i
invariant-loop-i l = l.spins ≡ fill l.i (totals_of l.frame l.sums) l.initial.spins
