-- `gap_in` meets its contract: the bound less the agreement. Assumes nothing.
use mathlib.Core.Path.{sym, ◌∙◌, ap}
use native.Mathlib.Omega.{arith}
use lib.ListN.{length}
use mir.Syntax.{w64}
use borrow.Author.Rules.{rules}
use Rattle.integers.specs.Machine.{fit}
use Rattle.integers.specs.Product.{once}
use Rattle.integers.specs.Signed64.{less-fits, less-reads}
use Rattle.rules.specs.Bound.{bound}
use Rattle.rules.specs.Cut.{negatives}
use Rattle.rules.proofs.BoundLaws.{gap_is}
use Rattle.decoder.specs.Closing.{rows_on}
use Rattle.decoder.proofs.GapLaws.{rows_fit}
use Rattle.decoder.proofs.gap.gap_in.Goals as goal

pub returns : goal.returns
returns c =
    let a = c.args in
    let l = a.frame.now in
    let least = c.bound_of-least in
    let rows = rows_on a.table.now a.multipliers.now a.masks.now in
    let f = fit w64 least.result least.type_inv in
    let g = fit w64 c.agreed.result c.agreed.type_inv in
    less-reads f g (less-fits f g least.ensures.1 c.agreed.ensures.1 (omega arith))
    ∙ gap_is (length a.spins.now) 1 l rows (negatives a.spins.now)
    (least.ensures.0 ∙ ap (λ n. bound n 1 l rows) (c.requires.gap_fits.frame_long ∙ sym c.requires.gap_fits.spins_long)) (c.agreed.ensures.0 ∙ once _)

pub bound_of-least-requires : goal.bound_of-least-requires
bound_of-least-requires c = (search rows_fit, search rules, search rules)
