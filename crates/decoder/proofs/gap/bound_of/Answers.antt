-- `bound_of` meets its contract: the scattered numbers are the reduced numbers. Assumes nothing.
use mathlib.Core.Path.{◌≡◌, refl, ◌∙◌, ap, subst}
use Prim.Native.Nat.{◌*◌}
use native.Mathlib.Omega.{arith}
use lib.ListN.{length}
use mir.Syntax.{w64}
use Rattle.integers.specs.Order.{within-add}
use Rattle.integers.specs.Product.{abs}
use Rattle.integers.specs.Sum.{sum_to}
use Rattle.integers.specs.Machine.{fit}
use Rattle.integers.specs.Signed64.{sized, plus-fits, plus-reads}
use Rattle.rules.specs.Limits.{max_bits, size_limit}
use Rattle.rules.specs.Table.{at}
use Rattle.rules.specs.Scatter.{Put}
use Rattle.rules.proofs.BoundLaws.{scaled-once, bound-is}
use Rattle.decoder.specs.Closing.{rows_on}
use Rattle.decoder.proofs.gap.bound_of.Goals as goal

pub returns : goal.returns
returns c =
    let a = c.args in
    let l = a.frame.now in
    let rows = rows_on a.table.now a.multipliers.now a.masks.now in
    let put = c.add_rows-prices in
    let sizes = c.sum_sizes in
    let new = put.new.numbers in
    let f = fit w64 sizes.result sizes.type_inv in
    let g = fit w64 put.result put.type_inv in
    let sum = plus-reads f g (plus-fits f g sizes.ensures.1 put.ensures.sum (omega arith)) in
    let long : length new ≡ length l = omega arith in
    let total = sizes.ensures.0 ∙ ap (λ n. sum_to n (λ i. abs (at new i))) long in
    let loaded = subst (λ z. Put rows z new put.result) c.load.ensures put.ensures.put in (
      sum ∙ bound-is 1 l refl (scaled-once c.requires.0.sizes) loaded total,
      (sized sum (within-add (max_bits * size_limit) size_limit sizes.result put.result sizes.ensures.1 put.ensures.sum)).1,
    )
