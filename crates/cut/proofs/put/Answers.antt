-- `put` meets its contract: the first i places are as the list with x put in, and the others still as they came. Assumes nothing.
use mathlib.Core.Path.{sym, ◌∙◌, ap}
use mathlib.Core.Bool.{cond}
use Prim.Native.Nat.{◌<◌}
use native.Mathlib.Omega.{arith}
use lib.Dec.{eqb}
use lib.ListN.{length, set, length-set}
use lib.IntN.{ℤ, pos}
use mir.Syntax.{w32}
use mir.Val.{to_z, of_z}
use mir.Facts.{to_z-of_z}
use Rattle.integers.specs.Machine.{fit}
use Rattle.rules.specs.Table.{at}
use Rattle.rules.proofs.FillLaws.{fill_none, fill-at, fill_more, fill-all}
use Rattle.cut.proofs.HeightLaws.{set-picks}
use Rattle.cut.proofs.put.Goals as goal

pub loop-i-init : goal.loop-i-init
loop-i-init c = sym (fill_none _ _)

pub loop-i-preserved : goal.loop-i-preserved
loop-i-preserved c =
    let i = c.loop-i.i in
    let k = c.args.k in
    let heights = c.args.heights.now in
    let kept : ℤ = to_z w32 (of_z w32 c.args.x) in
    let inside : i < length (set heights k kept) = omega (arith, length-set heights k kept) in
    let old = ap (λ l. at l i) c.loop-i.invariant ∙ fill-at i _ _ (pos 0) in
    let read = to_z-of_z (fit w32 (at c.loop-i.heights i) (search)) ∙ old in
    fill_more i _ _ _ _ (pos 0) inside
    (to_z-of_z (fit w32 c.select_unpredictable.result c.select_unpredictable.type_inv) ∙ c.select_unpredictable.ensures
    ∙ ap (cond (eqb i k) kept) read ∙ sym (set-picks heights k i kept (omega arith)))
    c.loop-i.invariant

pub returns : goal.returns
returns c =
    let heights = c.args.heights.now in
    c.loop-i.invariant ∙ fill-all c.loop-i.i _ _ (length-set heights c.args.k _) (omega arith) ∙ ap (set heights c.args.k) (to_z-of_z c.ranges.x)
