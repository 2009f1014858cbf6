-- `add_row_of` meets its contract: the members from the loop's place on, with what is left of the mask, make the whole row. Assumes nothing.
use mathlib.Core.Path.{◌∙◌, ap}
use Prim.Native.Nat.{◌%◌}
use native.Mathlib.Omega.{arith}
use lib.ListN.{get_or}
use lib.IntN.{pos, ◌+ℤ◌}
use lib.Dec.{eqb}
use mir.Syntax.{w64}
use mir.Facts.{to_z-of_z}
use Rattle.integers.specs.Machine.{fit}
use Rattle.rules.specs.Table.{at}
use Rattle.rules.specs.Parity.{side}
use Rattle.rules.proofs.BoundLaws.{members-more}
use Rattle.decoder.proofs.gap.add_row_of.Goals as goal

pub loop-i-preserved : goal.loop-i-preserved
loop-i-preserved c =
    let args = c.args in
    let loop = c.loop-i in
    let w = side (eqb (loop.rest % 2) 1) (pos args.b) in
    let read = to_z-of_z (fit w64 (at loop.numbers (get_or args.members.now loop.i-index 0)) (omega arith)) in
    let sum = to_z-of_z (fit w64 c.weighted.result c.weighted.type_inv) ∙ c.weighted.ensures ∙ ap (λ z. z +ℤ w) read in
    members-more loop.invariant _ c.loop-i-test.true c.requires.small sum
