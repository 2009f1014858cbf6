-- `agreement` meets its contract: a refused file, or its n. Assumes nothing.
use mathlib.Core.Path.{◌∙◌}
use Rattle.limits.proofs.NumberLaws.{handed-on}
use Rattle.rules.proofs.Tables.{file-sound}
use Rattle.table.proofs.AcceptedLaws.{readable, refused-is}
use Rattle.judge.proofs.StageLaws.{agreement-none, agreement-table}
use Rattle.judge.proofs.agreement.Goals as goal

pub returns-in_err-sizes : goal.returns-in_err-sizes
returns-in_err-sizes c = rw (handed-on _ c.from_residual.ensures) (agreement-none _ _ (refused-is _ _ c.in_err-sizes.ensures) _ _)

pub agreement_table-requires : goal.agreement_table-requires
agreement_table-requires c = (file-sound _ _ (readable _ _ _ _ c.in_ok-sizes.ensures).table).bits.1

pub returns : goal.returns
returns c = c.agreement_table.ensures ∙ agreement-table _ _ (readable _ _ _ _ c.in_ok-sizes.ensures).table _ _
