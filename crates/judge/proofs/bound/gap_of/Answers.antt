-- `gap_of` meets its contract. Assumes nothing.
use mathlib.Core.Path.{sym, ◌∙◌, ap, ap₂}
use native.Mathlib.Omega.{arith}
use lib.IntN.{pos, ◌*ℤ◌}
use lib.ListN.{length}
use mir.Syntax.{w64}
use mir.Facts.{to_z-of_z}
use Rattle.integers.specs.Machine.{fit}
use Rattle.integers.specs.Signed64.{less-fits, less-reads}
use Rattle.rules.specs.Bound.{gap}
use Rattle.rules.specs.Input.{bits_of}
use Rattle.rules.specs.Certificate.{scale_of, items_of, rows_at}
use Rattle.rules.proofs.BoundLaws.{gap_is}
use Rattle.inputs.proofs.AgreedLaws.{agreed-whole}
use Rattle.judge.proofs.bound.gap_of.Goals as goal

pub returns : goal.returns
returns c =
    let args = c.args.claim.now in
    let l = args.frame.now in
    let bs = args.certificate.now in
    let right = args.unrefused in
    let sum = c.agreement-agreed in
    let least = c.bound_of-bound in
    let least_fits = fit w64 least.result least.type_inv in
    let times_fits = fit w64 c.times.result c.times.type_inv in
    let rows = rows_at args.table.now (items_of bs) in
    let whole = agreed-whole l args.word.now (right.word ∙ sym right.frame) (omega (arith, args.few, right.frame)) in (
      less-reads least_fits times_fits (less-fits least_fits times_fits least.ensures.1 c.times.ensures.1 (omega arith))
          ∙ gap_is (length l) (scale_of bs) l rows (bits_of args.word.now) least.ensures.0
          (c.times.ensures.0 ∙ ap₂ (λ s a. pos s *ℤ a) c.scale.ensures.0 (to_z-of_z (fit w64 sum.result sum.type_inv) ∙ sum.ensures.0 ∙ whole))
          ∙ ap (λ n. gap n (scale_of bs) l rows (bits_of args.word.now)) right.frame,
      least.ensures.2,
    )
