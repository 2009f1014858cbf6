-- `put_on` meets its contract: what is put on and the members from k on, with what is left of the mask, make the numbers. Assumes nothing.
use mathlib.Core.Path.{◌∙◌, ap}
use Prim.Native.Nat.{◌%◌}
use native.Mathlib.Omega.{arith}
use lib.Dec.{eqb}
use lib.IntN.{◌+ℤ◌}
use lib.ListN.{get_or}
use mir.Syntax.{w64}
use Rattle.integers.specs.Machine.{fit}
use Rattle.integers.specs.Signed64.{sized, plus-fits, plus-reads}
use Rattle.rules.specs.Table.{at}
use Rattle.rules.proofs.Duality.{below_at}
use Rattle.rules.proofs.BoundLaws.{side-within, members-room, members-more}
use Rattle.judge.proofs.bound.put_on.Goals as goal

pub slice_copy_out-reduced : goal.slice_copy_out-reduced
slice_copy_out-reduced c = omega (arith, c.loop-i.invariant.long, below_at _ _ _ c.loop-i-test.true c.requires.0)

pub bounds-reduced-i : goal.bounds-reduced-i
bounds-reduced-i c = omega (arith, c.loop-i.invariant.long, below_at _ _ _ c.loop-i-test.true c.requires.0)

pub loop-i-preserved : goal.loop-i-preserved
loop-i-preserved c =
    let loop = c.loop-i in
    let w = c.weight in
    let i = get_or c.args.members.now loop.i-index 0 in
    let x = at loop.reduced i in
    let x_fits = fit w64 x (omega arith) in
    let w_fits = fit w64 w.result w.type_inv in
    let room = (members-room loop.invariant c.loop-i-test.true c.requires.1).place i in
    let small = (sized w.ensures (side-within (eqb (loop.left % 2) 1) c.args.multiplier c.requires.2)).1 in
    let sum = plus-reads x_fits w_fits (plus-fits x_fits w_fits room small (omega arith)) in
    members-more loop.invariant _ c.loop-i-test.true c.requires.2 (sum ∙ ap (λ z. x +ℤ z) w.ensures)
