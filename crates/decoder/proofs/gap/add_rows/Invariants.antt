-- `add_rows` meets its contract: the rows from check j on, and the prices summed, make the whole. Assumes nothing.
use mathlib.Core.Path.{◌≡◌}
use lib.ListN.{get_or}
use Rattle.rules.specs.Scatter.{RowsPut}
use Rattle.decoder.specs.Closing.{rows_on, rows_left}
use Rattle.decoder.proofs.gap.add_rows.Given as goal

abbrev pub invariant-loop-j : goal.invariant-loop-j
invariant-loop-j l =
    let rows = rows_on l.table l.multipliers l.masks in
    let rest = rows_left l.table l.multipliers l.masks l.j in
    RowsPut rows l.initial.numbers l.j rest l.numbers l.sum × (l.a ≡ get_or l.starts l.j 0)
