-- An accepted file has at most 2,048 bits.
use Rattle.rules.proofs.Tables.{file-sound}
use Rattle.table.proofs.AcceptedLaws.{readable}
use Rattle.reporting.proofs.report.Goals as goal

pub report_code-requires : goal.report_code-requires
report_code-requires g c = (file-sound c.args.code.now _ (readable c.args.code.now _ _ _ c.in-Ok.ensures).table).bits.1
