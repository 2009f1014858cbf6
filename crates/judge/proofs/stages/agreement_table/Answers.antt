-- `agreement_table` meets its contract. Assumes nothing.
use mathlib.Core.Path.{sym, ◌∙◌}
use native.Mathlib.Omega.{arith}
use Rattle.limits.proofs.NumberLaws.{handed-on}
use mir.Syntax.{w64}
use mir.Facts.{to_z-of_z}
use Rattle.integers.specs.Machine.{fit}
use Rattle.inputs.proofs.AgreedLaws.{agreed-whole}
use Rattle.judge.proofs.StageLaws.{inputs-long, agreement-turned, agreement-sum}
use Rattle.judge.proofs.stages.agreement_table.Goals as goal

pub returns-in_err-inputs_refusal : goal.returns-in_err-inputs_refusal
returns-in_err-inputs_refusal c = rw (handed-on _ c.from_residual.ensures) (agreement-turned _ _ _ _ c.in_err-inputs_refusal.ensures)

pub returns : goal.returns
returns c =
    let args = c.args in
    let tested = c.in_ok-inputs_refusal.ensures in
    let long = inputs-long _ _ _ (sym tested) in
    let whole = agreed-whole args.frame.now args.word.now (omega (arith, long.0, long.1)) (omega (arith, long.0)) in
    agreement-sum _ args.frame.now args.word.now _ tested (to_z-of_z (fit w64 c.agreement.result c.agreement.type_inv) ∙ c.agreement.ensures.0 ∙ whole)
