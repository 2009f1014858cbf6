-- `divide_each` meets its contract: the first i places are divided, and the others still as they came. Assumes nothing.
use mathlib.Core.Path.{sym, ◌∙◌, ap}
use native.Mathlib.Omega.{arith}
use lib.ListN.{get_or}
use mir.Syntax.{w32}
use mir.Facts.{to_z-of_z}
use Rattle.integers.specs.Machine.{fit}
use Rattle.rules.specs.Table.{at}
use Rattle.rules.specs.Round.{divided}
use Rattle.rules.proofs.FillLaws.{fill_none, fill-all}
use Rattle.spin.proofs.TotalsLaws.{quotients-length, quotients-more}
use Rattle.decoder.proofs.divide.divide_each.Goals as goal

pub loop-i-init : goal.loop-i-init
loop-i-init c = sym (fill_none _ _)

pub loop-i-preserved : goal.loop-i-preserved
loop-i-preserved c =
    let ts = c.args.totals.now in
    let ds = c.args.degrees.now in
    let d = get_or ds c.loop-i.i 0 in
    let read = to_z-of_z (fit w32 (at c.loop-i.totals c.loop-i.i) (omega arith)) in
    let made = to_z-of_z (fit w32 c.quotient_of.result c.quotient_of.type_inv) ∙ c.quotient_of.ensures ∙ ap (λ t. divided t d) read in
    quotients-more (λ i. get_or ds i 0) ts _ c.loop-i.i _ (omega arith) made c.loop-i.invariant

pub returns : goal.returns
returns c = c.loop-i.invariant ∙ fill-all c.loop-i.i _ _ (quotients-length _ _) (omega arith)
