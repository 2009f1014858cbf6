-- `agreed` meets its contract: the sum over the numbers so far, in 32 bits. Assumes nothing.
use mathlib.Core.Path.{◌≡◌}
use Prim.Native.Nat.{◌*◌}
use lib.ListN.{length}
use Rattle.integers.specs.Linear.{Within}
use Rattle.integers.specs.Sum.{sum_to}
use Rattle.rules.specs.Limits.{frame_size}
use Rattle.rules.specs.Table.{at, bit}
use Rattle.rules.specs.Parity.{turn}
use Rattle.rules.specs.Cut.{negatives}
use Rattle.decoder.proofs.gap.agreed.Given as goal

abbrev pub invariant-loop-x : goal.invariant-loop-x
invariant-loop-x l =
    let n = length l.yielded in
    (l.sum ≡ sum_to n (λ k. turn (bit (negatives l.spins) k) (at l.frame k))) × Within (frame_size * n) l.sum
