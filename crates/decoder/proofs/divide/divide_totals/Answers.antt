-- `divide_totals` meets its contract: the totals of the first k blocks are divided, and the others still as they came. Assumes nothing.
use mathlib.Core.Path.{◌≡◌, sym, ◌∙◌, ap}
use Prim.Native.Nat.{◌*◌, ◌≤◌, min}
use native.Mathlib.Omega.{arith}
use lib.ListN.{length}
use Rattle.rules.proofs.FillLaws.{fill, fill_none, fill-all}
use Rattle.spin.proofs.TotalsLaws.{quotients-length}
use Rattle.decoder.specs.Spins.{quotients_over}
use Rattle.decoder.specs.Parts.{part, splice}
use Rattle.decoder.proofs.PartLaws.{fill-coming, fill-part}
use Rattle.decoder.proofs.DivideLaws.{over-part}
use Rattle.decoder.proofs.divide.divide_totals.Goals as goal

pub loop-k-init : goal.loop-k-init
loop-k-init c =
    let ts = c.args.totals.now in
    let qs = quotients_over c.args.degrees.now ts in
    sym (fill_none qs ts) ∙ ap (λ n. fill n qs ts) (omega arith)

pub loop-k-preserved : goal.loop-k-preserved
unfolding part splice
loop-k-preserved c =
    let ds = c.args.degrees.now in
    let ts = c.args.totals.now in
    let qs = quotients_over ds ts in
    let a = c.loop-k.k * 16 in
    let e = c.min-e.result in
    let in-totals : e ≤ length ts = omega arith in
    let at-a : min (length ts) (16 * c.loop-k.k) ≡ a = omega (arith, c.div_ceil-k-end.ensures) in
    let now : c.loop-k.totals ≡ fill a qs ts = c.loop-k.invariant ∙ ap (λ i. fill i qs ts) at-a in
    let coming = ap (part a e) now ∙ fill-coming a e qs ts in
    let done = c.divide_block.ensures ∙ ap (quotients_over (part a e ds)) coming ∙ over-part ds ts a e in-totals in
    fill-part a e qs ts _ _ (quotients-length _ ts) (omega arith) in-totals done now ∙ ap (λ i. fill i qs ts) (omega arith)

pub returns : goal.returns
returns c =
    let n : min (length c.args.totals.now) (16 * c.loop-k.k) ≡ length c.args.totals.now = omega (arith, c.div_ceil-k-end.ensures) in
    c.loop-k.invariant ∙ fill-all _ _ _ (quotients-length _ _) n
