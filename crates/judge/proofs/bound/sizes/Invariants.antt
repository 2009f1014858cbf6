-- `sizes` meets its contract: the sum over the first i numbers. Assumes nothing.
use mathlib.Core.Path.{◌≡◌}
use Prim.Native.Nat.{◌*◌}
use Rattle.integers.specs.Linear.{Within}
use Rattle.integers.specs.Product.{abs}
use Rattle.integers.specs.Sum.{sum_to}
use Rattle.rules.specs.Limits.{size_limit}
use Rattle.rules.specs.Table.{at}
use Rattle.judge.proofs.bound.sizes.Given as goal

abbrev pub invariant-loop-r : goal.invariant-loop-r
invariant-loop-r l = (l.total ≡ sum_to l.r-index (λ j. abs (at l.reduced j))) × Within (size_limit * l.r-index) l.total
