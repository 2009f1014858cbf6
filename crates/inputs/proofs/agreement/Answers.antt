-- `agreement` meets its contract: the sum over the first bits. Assumes nothing.
use mathlib.Core.Path.{◌∙◌, ap}
use mathlib.Core.List.{[], ◌∷◌}
use lib.ListN.{length, take, length-take}
use mir.Syntax.{w16, w64}
use mir.Val.{SFits}
use mir.Facts.{to_z-of_z}
use Rattle.std.proofs.Common.{rules, arith}
use Rattle.std.proofs.lemmas.List.{length-append}
use Rattle.std.proofs.lemmas.Slice.Zip.{zip_turn, zip_end}
use Rattle.integers.specs.Machine.{fit}
use Rattle.rules.specs.Parity.{turn}
use Rattle.rules.specs.Input.{bit_of_byte}
use Rattle.inputs.proofs.AgreedLaws.{added_none, added_more, turned-is, turned-few, turned-all, added-all}
use Rattle.inputs.proofs.agreement.Goals as goal

pub loop-x-init : goal.loop-x-init
loop-x-init c = added_none _ _

pub loop-x-preserved : goal.loop-x-preserved
loop-x-preserved c =
    let l = c.args.frame.now in
    let w = c.args.word.now in
    let n = c.min-n.result in
    let k = length c.loop-x.yielded in
    let turned = c.turned-total in
    let item = c.in-Some in
    let at = zip_turn (take n l) (take n w) c.loop-x.yielded c.into_iter-x-iterator.result c.loop-x.x-iterator c.next.new.self _ (cc) (cc) c.loop-x.yielded_by _ item.is c.next.ensures.steps in
    let fits : SFits w16 item.x.now = search rules in
    let number = turned.ensures.0 ∙ ap (turn (bit_of_byte item.byte.now)) (to_z-of_z fits) ∙ turned-is l w n k item.x.now item.byte.now at.0 at.2 at.3 in
    let few = turned-few l w n k (omega (arith, c.min-n.ensures)) at.0 in
    rw (length-append c.loop-x.yielded ((item.x, item.byte) ∷ [])) (added_more c.loop-x.invariant few (fit w64 turned.result turned.type_inv) turned.ensures.1 number)

pub returns : goal.returns
returns c =
    let l = c.args.frame.now in
    let w = c.args.word.now in
    let n = c.min-n.result in
    let end = zip_end (take n l) (take n w) c.loop-x.yielded c.into_iter-x-iterator.result c.loop-x.x-iterator c.next.new.self _ (cc) (cc) c.loop-x.yielded_by c.in-None.is c.next.ensures.steps in
    let few = c.min.ensures in
    let n-is = c.min-n.ensures in
    added-all c.loop-x.invariant (turned-all l w n _ (omega (arith, few, n-is)) (omega (arith, few, n-is)) (omega (arith, end, few, n-is, length-take n l, length-take n w)))
