-- `is_odd_of` meets its contract: the parity found and that of the members from the loop's place on make the whole. Assumes nothing.
use mathlib.Core.Path.{◌≡◌}
use lib.ListN.{drop}
use Rattle.rules.specs.Table.{bits_at}
use Rattle.rules.specs.Parity.{◌⊕◌, odd}
use Rattle.rules.specs.Cut.{negatives}
use Rattle.decoder.proofs.candidate.is_odd_of.Given as goal

abbrev pub invariant-loop-i : goal.invariant-loop-i
invariant-loop-i l = l.odd ⊕ odd (bits_at (negatives l.spins) (drop l.i-index l.members)) ≡ odd (bits_at (negatives l.spins) l.members)
