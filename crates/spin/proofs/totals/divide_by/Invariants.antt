-- `divide_by` meets its contract: the totals so far are divided, and the others still as they came. Assumes nothing.
use Rattle.std.proofs.Common.{◌≡◌}
use Rattle.rules.proofs.FillLaws.{fill}
use Rattle.spin.specs.Totals.{quotients}
use Rattle.spin.proofs.totals.divide_by.Given as goal

abbrev pub invariant-loop-total : goal.invariant-loop-total
invariant-loop-total l = l.totals ≡ fill l.total-index (quotients l.d l.initial.totals) l.initial.totals
