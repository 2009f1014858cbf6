-- `put_entries` meets its contract: what is put on and the entries from k on make the numbers and the sum of prices. Assumes nothing.
use mathlib.Core.Path.{refl, sym, ◌∙◌, ap}
use mathlib.Core.List.{◌∷◌}
use Prim.Native.Nat.{◌+◌}
use native.Mathlib.Omega.{arith}
use mir.Syntax.{w64}
use Rattle.integers.specs.Machine.{fit}
use Rattle.integers.specs.Signed64.{sized, summed-fits, added-reads}
use Rattle.rules.specs.Limits.{row_limit}
use Rattle.rules.specs.Certificate.{row_at}
use Rattle.rules.proofs.BoundLaws.{rows_more, rows_end}
use Rattle.judge.specs.Rows.{rows_from}
use Rattle.judge.proofs.RowLaws.{rows_next, rows-past}
use Rattle.judge.proofs.bound.put_entries.Goals as goal

pub loop-k-preserved : goal.loop-k-preserved
loop-k-preserved c =
    let table = c.args.table.now in
    let bs = c.args.certificate.now in
    let loop = c.loop-k in
    let put = c.put_entry-total in
    let rest = rows_from table bs (loop.k + 1) in
    let next = rows_next table bs loop.k (omega (arith, c.loop-k-test.true, c.entries-k-end.ensures.0)) ∙ ap (λ i. row_at table i ∷ rest) (sym c.entry.ensures) in
    let fits = fit w64 put.result put.type_inv in
    rows_more loop.invariant rest put.ensures.1 put.ensures.0 next (added-reads _ fits (summed-fits row_limit loop.k _ put.result _ fits
    (omega (arith, loop.auto.k-end, c.entries-k-end.ensures.1)) (refl, loop.invariant.sum) (sized put.ensures.0.prices put.ensures.1.sum).1))

pub returns : goal.returns
returns c =
    let loop = c.loop-k in
    rows_end loop.invariant (omega (arith, loop.auto.k-end, c.entries-k-end.ensures.1))
    (rows-past c.args.table.now c.args.certificate.now loop.k (omega (arith, c.loop-k-test.false, c.entries-k-end.ensures.0)))
