-- `least_multiplier` meets its contract: b meets V's inequality all the time, and falls. Assumes nothing.
use Prim.Native.Nat.{◌≤◌}
use Rattle.multiplier_search.specs.Lifted.{sum_at, reach}
use Rattle.decoder.proofs.multiplier.least_multiplier.Given as goal

abbrev pub invariant-loop-top : goal.invariant-loop-top
invariant-loop-top l = (l.b ≤ l.initial.b) × (reach ≤ sum_at l.heights l.b)

abbrev pub decreases-loop-top : goal.decreases-loop-top
decreases-loop-top l = l.b
