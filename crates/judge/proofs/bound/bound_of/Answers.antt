-- `bound_of` meets its contract: the frame scaled, the entries put on, the sizes and the prices added up. Assumes nothing.
use mathlib.Core.Path.{◌≡◌, ◌∙◌, ap, subst}
use Prim.Native.Nat.{ℕ, ◌*◌, ◌<◌}
use native.Mathlib.Omega.{arith}
use lib.ListN.{length}
use mir.Syntax.{w64}
use Rattle.integers.specs.Order.{within-add}
use Rattle.integers.specs.Product.{abs}
use Rattle.integers.specs.Sum.{sum_to}
use Rattle.integers.specs.Machine.{fit}
use Rattle.integers.specs.Signed64.{sized, plus-fits, plus-reads}
use Rattle.rules.specs.Limits.{max_bits, size_limit}
use Rattle.rules.specs.Table.{at}
use Rattle.rules.specs.Scatter.{Scaled}
use Rattle.rules.specs.Certificate.{scale_of}
use Rattle.rules.proofs.BoundLaws.{reduces, bound-is}
use Rattle.judge.proofs.bound.bound_of.Goals as goal

pub returns : goal.returns
returns c =
    let args = c.args.claim.now in
    let l = args.frame.now in
    let scale = scale_of args.certificate.now in
    let put = c.put_entries-price in
    let sizes = c.sizes in
    let sizes_fit = fit w64 sizes.result sizes.type_inv in
    let put_fits = fit w64 put.result put.type_inv in
    let sum = plus-reads sizes_fit put_fits (plus-fits sizes_fit put_fits sizes.ensures.1 put.ensures.sum (omega arith)) in
    let long : length put.new.reduced ≡ length l = omega arith in
    let total = sizes.ensures.0 ∙ ap (λ n. sum_to n (λ i. abs (at put.new.reduced i))) long in
    let scaled = subst (λ s. (i : ℕ) → i < length l → Scaled s l i (at c.scale_frame.new.reduced i)) c.scale.ensures.0 c.scale_frame.ensures in (
      sum ∙ bound-is scale l (omega arith) scaled put.ensures.put total,
      (sized sum (within-add (max_bits * size_limit) size_limit sizes.result put.result sizes.ensures.1 put.ensures.sum)).1,
      reduces scale l (omega arith) scaled put.ensures.put,
    )
