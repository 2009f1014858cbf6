-- `divide_by` meets its contract: the totals so far are divided, and the others still as they came. Assumes nothing.
use mathlib.Core.Path.{sym, ◌∙◌, ap}
use native.Mathlib.Omega.{arith}
use mir.Syntax.{w32}
use mir.Val.{SFits}
use mir.Facts.{to_z-of_z}
use Rattle.std.proofs.Common.{rules}
use Rattle.integers.specs.Machine.{fit}
use Rattle.rules.specs.Table.{at}
use Rattle.rules.specs.Round.{divided}
use Rattle.rules.proofs.FillLaws.{fill_none, fill-all}
use Rattle.spin.proofs.TotalsLaws.{quotients-length, quotients-more}
use Rattle.spin.proofs.totals.divide_by.Goals as goal

pub loop-total-init : goal.loop-total-init
loop-total-init c = sym (fill_none _ _)

pub loop-total-preserved : goal.loop-total-preserved
loop-total-preserved c =
    let loop = c.loop-total in
    let d = c.args.d in
    let fits : SFits w32 (at loop.totals loop.total-index) = search rules in
    let made = to_z-of_z (fit w32 c.quotient_of.result c.quotient_of.type_inv) ∙ c.quotient_of.ensures ∙ ap (λ t. divided t d) (to_z-of_z fits) in
    quotients-more (λ _. d) c.args.totals.now _ loop.total-index _ c.loop-total-test.true made loop.invariant

pub returns : goal.returns
returns c = c.loop-total.invariant ∙ fill-all c.loop-total.total-index _ _ (quotients-length _ _) (omega arith)
