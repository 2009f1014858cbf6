-- `load` meets its contract: the first i places are the frame's, and the others still as they came. Assumes nothing.
use mathlib.Core.Path.{sym, ◌∙◌, ap}
use native.Mathlib.Omega.{arith}
use lib.IntN.{pos}
use mir.Syntax.{w16, w64}
use mir.Val.{to_z, of_z}
use mir.Facts.{to_z-of_z}
use Rattle.integers.specs.Machine.{fit}
use Rattle.rules.specs.Table.{at}
use Rattle.rules.proofs.FillLaws.{fill_none, fill_more, fill-all}
use Rattle.decoder.proofs.gap.load.Goals as goal

pub loop-i-init : goal.loop-i-init
loop-i-init c = sym (fill_none _ _)

pub loop-i-preserved : goal.loop-i-preserved
loop-i-preserved c =
    let x = at c.args.frame.now c.loop-i.i in
    let read = ap (λ z. to_z w64 (of_z w64 z)) (to_z-of_z (fit w16 x (omega arith))) ∙ to_z-of_z (fit w64 x (omega arith)) in
    fill_more c.loop-i.i c.args.frame.now c.args.numbers.now _ _ (pos 0) (omega arith) read c.loop-i.invariant

pub returns : goal.returns
returns c = c.loop-i.invariant ∙ fill-all c.loop-i.i _ _ c.requires (omega arith)
