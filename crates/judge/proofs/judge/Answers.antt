-- `judge` meets its contract: a refused file, or the table that was loaded. Assumes nothing.
use mathlib.Core.Path.{sym, ◌∙◌}
use Rattle.limits.proofs.NumberLaws.{handed-on}
use Rattle.judge.proofs.StageLaws.{judge-none, judge-table}
use Rattle.judge.proofs.judge.Goals as goal

pub returns-in_err-table : goal.returns-in_err-table
returns-in_err-table c = rw (handed-on _ c.from_residual.ensures) (judge-none _ _ (sym c.in_err-table.ensures) _ _ _)

pub returns : goal.returns
returns c = c.judge_table.ensures ∙ judge-table _ _ (sym c.in_ok-table.ensures) _ _ _
