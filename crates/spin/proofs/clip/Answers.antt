-- `clip` meets its contract. Assumes nothing.
use mathlib.Core.Path.{◌∙◌, ap}
use lib.IntN.{pos, neg_ℤ}
use mir.Syntax.{w32}
use mir.Facts.{to_z-of_z}
use Rattle.std.specs.Int.{int_max, int_min}
use Rattle.integers.specs.Machine.{fit}
use Rattle.rules.specs.Limits.{unit}
use Rattle.spin.proofs.SpinLaws.{clamped}
use Rattle.spin.proofs.clip.Goals as goal

pub returns : goal.returns
returns c =
    let clamp = c.clamp in
    to_z-of_z (fit w32 clamp.result clamp.type_inv) ∙ clamp.ensures.value
    ∙ ap (λ x. int_max (neg_ℤ (pos unit)) (int_min x (pos unit))) (to_z-of_z c.ranges.x) ∙ clamped unit c.args.x
