-- `clip_all` meets its contract: the spins so far are clipped, and the others still as they came. Assumes nothing.
use Rattle.std.proofs.Common.{◌≡◌}
use Rattle.rules.specs.Limits.{unit}
use Rattle.rules.specs.Step.{clips}
use Rattle.rules.proofs.FillLaws.{fill}
use Rattle.spin.proofs.clip_all.Given as goal

abbrev pub invariant-loop-spin : goal.invariant-loop-spin
invariant-loop-spin l = l.spins ≡ fill l.spin-index (clips unit l.initial.spins) l.initial.spins
