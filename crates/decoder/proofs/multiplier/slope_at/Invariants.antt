-- `slope_at` meets its contract: the members so far in one number. Assumes nothing.
use mathlib.Core.Path.{◌≡◌}
use Rattle.multiplier_search.proofs.PackedLaws.{packed_first}
use Rattle.decoder.proofs.multiplier.slope_at.Given as goal

abbrev pub invariant-loop-h : goal.invariant-loop-h
invariant-loop-h l = l.both ≡ packed_first l.heights l.b l.h-index
