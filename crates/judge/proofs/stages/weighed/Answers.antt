-- `weighed` meets its contract. Assumes nothing.
use mathlib.Core.Path.{sym, ◌∙◌}
use native.Mathlib.Omega.{arith}
use mir.Syntax.{w64}
use Rattle.integers.specs.Machine.{fit, eq-lit}
use Rattle.judge.proofs.RowLaws.{sole-found}
use Rattle.judge.proofs.StageLaws.{weighed-certified}
use Rattle.judge.proofs.stages.weighed.Goals as goal

pub returns-then-gap-eq0 : goal.returns-then-gap-eq0
returns-then-gap-eq0 c =
    let gap = c.gap_of-gap in
    let zero = sym gap.ensures.0 ∙ eq-lit (fit w64 gap.result gap.type_inv) c.if-gap-eq0.true in
    weighed-certified _ _ _ zero (c.none_zero.ensures ∙ sole-found gap.ensures.1 (omega (arith, c.requires)) c.args.claim.now.unrefused.frame)
