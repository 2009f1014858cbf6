-- `search` meets its contract: a refused file, or the table that was loaded. Assumes nothing.
use mathlib.Core.Path.{sym, ◌∙◌}
use Rattle.limits.proofs.NumberLaws.{handed-on}
use Rattle.cut.proofs.ReplyLaws.{search-refused, search-gives}
use Rattle.cut.proofs.search.Goals as goal

pub returns-in_err-table : goal.returns-in_err-table
returns-in_err-table c = rw (handed-on _ c.from_residual.ensures) (search-refused _ _ _ _ (sym c.in_err-table.ensures))

pub returns : goal.returns
returns c = c.search_table.ensures ∙ search-gives _ _ _ _ (sym c.in_ok-table.ensures)
