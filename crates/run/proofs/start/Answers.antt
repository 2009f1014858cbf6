-- `run::start` meets its contract: each return has the answer and the tests that led there. Assumes nothing.
use native.Mathlib.Omega.{arith}
use Rattle.limits.proofs.NumberLaws.{handed-on}
use Rattle.table.proofs.AcceptedLaws.{readable, refused-is}
use Rattle.run.proofs.ClearLaws.{cleared}
use Rattle.run.proofs.StartLaws.{start-refused, start-short, start-fresh}
use Rattle.run.proofs.start.Goals as goal

pub returns-in_err-sizes : goal.returns-in_err-sizes
returns-in_err-sizes c = rw (handed-on _ c.from_residual.ensures) (start-refused _ _ _ _ _ (refused-is _ _ c.in_err-sizes.ensures))

pub returns-then-copies-sizes : goal.returns-then-copies-sizes
returns-then-copies-sizes c = start-short _ _ _ _ _ _ _ (readable _ _ _ _ c.in_ok-sizes.ensures) (λ a b d. grind arith)

pub returns : goal.returns
returns c =
    let sizes = c.in_ok-sizes.sizes in
    start-fresh _ _ _ _ _ _ _ (readable _ _ _ _ c.in_ok-sizes.ensures) (omega arith) (omega arith) (omega arith) _ _ _ _ c.fresh.ensures
    (cleared sizes.edges c.args.copies.now (omega arith) (c.fill.ensures.after (λ y h. h)))
    (cleared sizes.edges c.args.offsets.now (omega arith) (c.fill-2.ensures.after (λ y h. h)))
    (cleared sizes.bits c.args.sums.now (omega arith) (c.fill-3.ensures.after (λ y h. h)))
