use Rattle.std.proofs.Common.{FitsSigned, ◌∙◌, ap₂, to_z-of_z}
use Rattle.std.specs.Int.{w64}
use Rattle.rules.specs.Bytes.{u16_at}
use Rattle.rules.specs.Report.{certified_line}
use Rattle.reporting.proofs.certified_line.Goals as goal

pub returns : goal.returns
unfolding u16_at
returns c =
    let fits : FitsSigned w64 c.agreement.result = record { sfits = c.agreement.type_inv } in
    ap₂ (certified_line c.args.rounds) (to_z-of_z fits ∙ c.agreement.ensures.0) c.u16_of.ensures.0
