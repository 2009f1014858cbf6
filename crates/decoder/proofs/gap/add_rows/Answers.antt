-- `add_rows` meets its contract: the rows from check j on, and the prices summed, make the whole. Assumes nothing.
use mathlib.Core.Path.{refl, ap}
use Prim.Native.Nat.{◌+◌}
use native.Mathlib.Omega.{arith}
use mir.Syntax.{w64}
use Rattle.integers.specs.Machine.{fit}
use Rattle.integers.specs.Signed64.{sized, summed-fits, added-reads}
use Rattle.rules.specs.Limits.{row_limit}
use Rattle.rules.specs.Table.{checks_of}
use Rattle.rules.proofs.BoundLaws.{rows_none, rows-room, rows_more, rows_end}
use Rattle.decoder.specs.Closing.{rows_left}
use Rattle.decoder.proofs.GapLaws.{first-begins, rows-past, starts-in, few-rows, part-ends, row_fits, step-adds, rows_next}
use Rattle.decoder.proofs.gap.add_rows.Goals as goal

pub loop-j-init : goal.loop-j-init
loop-j-init c =
    let rows = c.requires in
    (rows_none rows.sizes, first-begins c.table.invariant)

pub bounds-starts-j : goal.bounds-starts-j
bounds-starts-j c =
    starts-in c.table.invariant c.table.view_is c.requires c.loop-j.j c.loop-j-test.true

pub slice_bounds-add_check-count : goal.slice_bounds-add_check-count
slice_bounds-add_check-count c =
    (part-ends c.table.invariant c.table.view_is c.requires c.loop-j.j c.loop-j-test.true c.loop-j.invariant.1).0

pub slice_bounds-add_check-start : goal.slice_bounds-add_check-start
slice_bounds-add_check-start c =
    (part-ends c.table.invariant c.table.view_is c.requires c.loop-j.j c.loop-j-test.true c.loop-j.invariant.1).0

pub slice_bounds-add_check-end : goal.slice_bounds-add_check-end
slice_bounds-add_check-end c =
    (part-ends c.table.invariant c.table.view_is c.requires c.loop-j.j c.loop-j-test.true c.loop-j.invariant.1).1

pub add_check-sum-requires : goal.add_check-sum-requires
add_check-sum-requires c =
    let loop = c.loop-j in
    let fit = c.requires in
    let few = few-rows c.table.invariant c.table.view_is fit loop.j c.loop-j-test.true in
    row_fits c.table.invariant c.table.view_is fit loop.j c.loop-j-test.true loop.invariant.1 loop.invariant.0.long (rows-room loop.invariant.0 (omega (arith, few)))

pub loop-j-preserved : goal.loop-j-preserved
loop-j-preserved c =
    let loop = c.loop-j in
    let args = c.args in
    let j = loop.j in
    let taken = c.loop-j-test.true in
    let call = c.add_check-sum in
    let rest = rows_left args.table.now args.multipliers.now args.masks.now (j + 1) in
    let few = few-rows c.table.invariant c.table.view_is c.requires j taken in
    let whole = fit w64 call.result call.type_inv in
    let sum = added-reads _ whole (summed-fits row_limit j _ call.result _ whole (omega (arith, few)) (refl, loop.invariant.0.sum)
    (sized call.ensures.prices (step-adds c.table.invariant c.table.view_is c.requires j taken loop.invariant.1).sum).1) in
    let adds = step-adds c.table.invariant c.table.view_is c.requires j taken loop.invariant.1 in
    let next = rows_next c.table.invariant c.table.view_is c.requires j taken loop.invariant.1 in
    (rows_more loop.invariant.0 rest adds call.ensures next sum, refl)

pub returns : goal.returns
returns c =
    let rows = c.requires in
    let loop = c.loop-j in
    rows_end loop.invariant.0 (omega (arith, c.table.invariant.sound.checks, ap checks_of c.table.view_is, rows.masks_long)) (rows-past c.table.invariant c.table.view_is rows loop.j c.loop-j-test.false)
