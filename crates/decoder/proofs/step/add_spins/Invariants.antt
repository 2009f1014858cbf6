-- `add_spins` meets its contract: the first i places hold their values, and the others still the offsets. Assumes nothing.
use mathlib.Core.Path.{◌≡◌}
use Rattle.rules.specs.Table.{at}
use Rattle.rules.specs.Round.{values}
use Rattle.rules.proofs.FillLaws.{fill}
use Rattle.decoder.proofs.step.add_spins.Given as goal

abbrev pub invariant-loop-i : goal.invariant-loop-i
invariant-loop-i l = l.offsets ≡ fill l.i (values (at l.spins) l.members l.initial.offsets) l.initial.offsets
