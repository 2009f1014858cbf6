-- `all_even` meets its contract: the checks from the loop's place on decide, and that check's part of the members begins at a. Assumes nothing.
use mathlib.Core.Path.{◌≡◌}
use lib.ListN.{drop}
use Rattle.rules.specs.Parity.{meets}
use Rattle.rules.specs.Cut.{negatives}
use Rattle.table.specs.Layout.{edges_before}
use Rattle.decoder.proofs.candidate.all_even.Given as goal

abbrev pub invariant-loop-end : goal.invariant-loop-end
invariant-loop-end l =
    let cs = l.table.checks in
    (meets (negatives l.spins) cs ≡ meets (negatives l.spins) (drop l.end-index cs)) × (l.a ≡ edges_before l.end-index cs)
