-- `entries_refusal` meets its contract: the entries from k on decide. Assumes nothing.
use mathlib.Core.Path.{sym, ◌∙◌}
use native.Mathlib.Omega.{arith}
use Rattle.limits.proofs.NumberLaws.{handed-on}
use Rattle.rules.specs.Table.{checks_of}
use Rattle.judge.specs.Refusals.{degrees_of}
use Rattle.judge.proofs.RefusalLaws.{items-stop, items-next, items-end}
use Rattle.judge.proofs.entries.entries_refusal.Goals as goal

pub returns-in_err-entry_refusal : goal.returns-in_err-entry_refusal
returns-in_err-entry_refusal c =
    rw (handed-on _ c.from_residual.ensures)
    (items-stop (checks_of c.args.table.now) (degrees_of c.args.table.now) c.args.certificate.now _ c.loop-k.k _ (omega (arith, c.loop-k-test.true, c.entries-k-end.ensures.0)) c.entry-entry.ensures _
    c.in_err-entry_refusal.ensures ∙ sym c.loop-k.invariant)

pub loop-k-preserved : goal.loop-k-preserved
loop-k-preserved c =
    c.loop-k.invariant
    ∙ items-next (checks_of c.args.table.now) (degrees_of c.args.table.now) c.args.certificate.now _ c.loop-k.k _ (omega (arith, c.loop-k-test.true, c.entries-k-end.ensures.0)) c.entry-entry.ensures
    c.in_ok-entry_refusal.ensures

pub returns : goal.returns
returns c =
    sym (c.loop-k.invariant ∙ items-end (checks_of c.args.table.now) (degrees_of c.args.table.now) c.args.certificate.now _ c.loop-k.k (omega (arith, c.loop-k-test.false, c.entries-k-end.ensures.0)))
