-- `syndrome` meets its contract: a refused file, or the table that was loaded. Assumes nothing.
use mathlib.Core.Path.{sym, ◌∙◌}
use Rattle.limits.proofs.NumberLaws.{handed-on}
use Rattle.judge.proofs.StageLaws.{syndrome-none, syndrome-table}
use Rattle.judge.proofs.syndrome.Goals as goal

pub returns-in_err-table : goal.returns-in_err-table
returns-in_err-table c = rw (handed-on _ c.from_residual.ensures) (syndrome-none _ _ (sym c.in_err-table.ensures) _)

pub returns : goal.returns
returns c = c.syndrome_table.ensures ∙ syndrome-table _ _ (sym c.in_ok-table.ensures) _
