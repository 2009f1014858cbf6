-- `put_entries` meets its contract: what is put on and the entries from k on make the numbers and the sum of prices. Assumes nothing.
use Rattle.rules.specs.Certificate.{items_of, rows_at}
use Rattle.rules.specs.Scatter.{RowsPut}
use Rattle.judge.specs.Rows.{rows_from}
use Rattle.judge.proofs.bound.put_entries.Given as goal

abbrev pub invariant-loop-k : goal.invariant-loop-k
invariant-loop-k l = RowsPut (rows_at l.table (items_of l.certificate)) l.initial.reduced l.k (rows_from l.table l.certificate l.k) l.reduced l.total
