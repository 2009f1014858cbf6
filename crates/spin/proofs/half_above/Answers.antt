-- `half_above` meets its contract. Assumes nothing.
use mathlib.Core.Path.{◌∙◌, ap, ap₂}
use lib.IntN.{pos}
use lib.Signed.{le_z}
use mir.Syntax.{w32}
use mir.Val.{bool_byte}
use mir.Facts.{to_z-of_z}
use Rattle.integers.specs.Machine.{fit}
use Rattle.spin.proofs.SpinLaws.{lacks-up}
use Rattle.spin.proofs.DividedParts.{twice-reads}
use Rattle.spin.proofs.half_above.Goals as goal

pub returns : goal.returns
returns c =
    let read = ap₂ le_z (to_z-of_z c.ranges.d) (twice-reads c.requires c.ranges.r) in
    to_z-of_z (fit w32 c.from.result c.from.type_inv) ∙ c.from.ensures ∙ ap (λ b. pos (bool_byte b)) read ∙ lacks-up c.args.r c.args.d
