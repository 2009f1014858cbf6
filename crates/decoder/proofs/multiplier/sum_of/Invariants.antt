-- `sum_of` meets its contract: the sum of the heights so far. Assumes nothing.
use mathlib.Core.Path.{◌≡◌}
use lib.ListN.{take}
use Rattle.multiplier_search.specs.Lifted.{sum_z}
use Rattle.decoder.proofs.multiplier.sum_of.Given as goal

abbrev pub invariant-loop-h : goal.invariant-loop-h
invariant-loop-h l = l.sum ≡ sum_z (take l.h-index l.heights)
