-- `none_zero` meets its contract: none of the first numbers, up to the bit, is 0. Assumes nothing.
use mathlib.Core.Path.{◌≡◌}
use Rattle.rules.specs.Table.{at}
use Rattle.rules.specs.Sole.{none_zero}
use Rattle.judge.proofs.bound.none_zero.Given as goal

abbrev pub invariant-loop-r : goal.invariant-loop-r
invariant-loop-r l = l.none ≡ none_zero l.r-index (at l.reduced)
