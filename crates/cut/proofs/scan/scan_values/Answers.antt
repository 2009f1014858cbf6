-- `scan_values` meets its contract: the pass has the first i values, and their heights lie over the first i places. Assumes nothing.
use mathlib.Core.Path.{◌≡◌, sym, ◌∙◌, ap, ap₂, subst}
use Prim.Native.Nat.{◌≤◌}
use native.Mathlib.Omega.{arith}
use lib.ListN.{length}
use lib.IntN.{ℤ, pos}
use mir.Syntax.{w32}
use mir.Val.{SFits, to_z, of_z}
use mir.Facts.{to_z-of_z}
use Rattle.integers.specs.Linear.{◌⩽◌}
use Rattle.integers.specs.Machine.{fit}
use Rattle.rules.specs.Limits.{unit}
use Rattle.rules.specs.Table.{at}
use Rattle.cut.specs.Scan.{scanned, own_height}
use Rattle.cut.proofs.HeightLaws.{height-top}
use Rattle.cut.proofs.ScanLaws.{scanned-more, heights-more, mask_fits, room_fits}
use Rattle.cut.proofs.scan.scan_values.Goals as goal

-- a value's height, both read back
sight-is : {x h : ℤ} (y : ℤ) → SFits w32 h → h ≡ own_height y → y ≡ x → to_z w32 (of_z w32 h) ≡ own_height x
sight-is y f e p = to_z-of_z f ∙ e ∙ ap own_height p

pub with-s-requires : goal.with-s-requires
with-s-requires c =
    let value = to_z-of_z (fit w32 (at c.args.v.now c.loop-i.i) (search)) in
    let args = c.args in
    let loop = c.loop-i in
    let inside : loop.i ≤ length args.v.now = omega arith in (
      omega arith,
      mask_fits args.v.now loop.i inside loop.s loop.invariant.0,
      room_fits args.v.now loop.i inside loop.s loop.invariant.0,
      subst (λ z. z ⩽ pos unit) (sym (sight-is _ (fit w32 _ c.height_of-h.type_inv) c.height_of-h.ensures value)) (height-top (at args.v.now loop.i)),
    )

pub loop-i-preserved : goal.loop-i-preserved
loop-i-preserved c =
    let args = c.args in
    let loop = c.loop-i in
    let read = fit w32 (at args.v.now loop.i) (search) in
    let sight = sight-is _ (fit w32 _ c.height_of-h.type_inv) c.height_of-h.ensures (to_z-of_z read) in (
      scanned-more args.v.now loop.i loop.s c.with-s.result (omega arith) read loop.invariant.0
          (c.with-s.ensures ∙ ap₂ (λ x h. scanned loop.s x h loop.i) (to_z-of_z read) sight),
      heights-more args.v.now args.heights.now loop.heights loop.i _ (omega arith) (omega arith) sight loop.invariant.1,
    )
