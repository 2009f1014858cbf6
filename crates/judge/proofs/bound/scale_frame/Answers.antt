-- `scale_frame` meets its contract: the first i numbers are scaled. Assumes nothing.
use mathlib.Core.Path.{◌≡◌, ◌∙◌, ap}
use Prim.Native.Nat.{◌<◌}
use native.Mathlib.Omega.{arith}
use lib.IntN.{ℤ, pos, ◌*ℤ◌}
use lib.ListN.{length}
use mir.Syntax.{w16, w64}
use mir.Val.{SFits, to_z, of_z}
use mir.Facts.{to_z-of_z}
use Rattle.integers.specs.Linear.{lin, arith_z, Within}
use Rattle.integers.specs.Machine.{fit}
use Rattle.integers.specs.Product.{within-*}
use Rattle.rules.specs.Limits.{max_scale, frame_size}
use Rattle.rules.specs.Table.{at}
use Rattle.integers.specs.Signed64.{sized, pos-within}
use Rattle.rules.proofs.BoundLaws.{scaled-more}
use Rattle.judge.proofs.bound.scale_frame.Goals as goal

small : (x : ℤ) → SFits w16 x → Within frame_size x
small x = simp lin (omega arith_z)

-- a 16-bit number in 64 bits
widened : {x y : ℤ} → SFits w16 x → SFits w64 y → y ≡ to_z w16 (of_z w16 x) → (to_z w64 (of_z w64 y) ≡ x) × Within frame_size (to_z w64 (of_z w64 y))
widened {x} f g e = sized (to_z-of_z g ∙ e ∙ to_z-of_z f) (small x f)

pub loop-i-preserved : goal.loop-i-preserved
loop-i-preserved c =
    let args = c.args in
    let loop = c.loop-i in
    let wide = widened (fit w16 (at args.frame.now loop.i) (omega arith)) (fit w64 c.from.result c.from.type_inv) c.from.ensures in
    let inside : loop.i < length loop.reduced = omega arith in
    let product = to_z-of_z (fit w64 c.times.result c.times.type_inv) ∙ c.times.ensures.0 in
    let small = within-* max_scale frame_size (pos args.scale) _ (pos-within max_scale args.scale c.requires.1) wide.1 in
    scaled-more loop.reduced inside (record { value = product ∙ ap (λ z. pos args.scale *ℤ z) wide.0; size = (sized product small).1 }) loop.invariant
