-- `sum_sizes` meets its contract: the sum over the numbers before the loop's place. Assumes nothing.
use mathlib.Core.Path.{◌≡◌}
use Prim.Native.Nat.{◌*◌}
use Rattle.integers.specs.Linear.{Within}
use Rattle.integers.specs.Product.{abs}
use Rattle.integers.specs.Sum.{sum_to}
use Rattle.rules.specs.Limits.{size_limit}
use Rattle.rules.specs.Table.{at}
use Rattle.decoder.proofs.gap.sum_sizes.Given as goal

abbrev pub invariant-loop-x : goal.invariant-loop-x
invariant-loop-x l = (l.sum ≡ sum_to l.x-index (λ j. abs (at l.numbers j))) × Within (size_limit * l.x-index) l.sum
