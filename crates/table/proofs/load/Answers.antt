-- `load` meets its contract: each return has the answer and the tests that led there. Assumes nothing.
use native.Mathlib.Omega.{arith}
use Rattle.limits.proofs.NumberLaws.{handed-on}
use Rattle.table.proofs.AcceptedLaws.{readable, refused-is}
use Rattle.table.proofs.LoadedLaws.{loaded-refused, loaded-few-starts, loaded-few-members, loaded-table}
use Rattle.table.proofs.load.Goals as goal

pub returns-in_err-sizes : goal.returns-in_err-sizes
returns-in_err-sizes c = rw (handed-on _ c.from_residual.ensures) (loaded-refused _ _ _ _ (refused-is _ _ c.in_err-sizes.ensures))

pub returns-then-starts-sizes : goal.returns-then-starts-sizes
returns-then-starts-sizes c = loaded-few-starts _ _ _ _ _ _ (readable _ _ _ _ c.in_ok-sizes.ensures) (omega arith)

pub returns-then-members-sizes : goal.returns-then-members-sizes
returns-then-members-sizes c = loaded-few-members _ _ _ _ _ _ (readable _ _ _ _ c.in_ok-sizes.ensures) (omega arith) (omega arith)

pub invariant_of-entries : goal.invariant_of-entries
invariant_of-entries c =
    let r = readable _ _ _ _ c.in_ok-sizes.ensures in
    record { fits = omega (arith, r.size); few = r.many }

pub write_starts-requires : goal.write_starts-requires
write_starts-requires c =
    let r = readable _ _ _ _ c.in_ok-sizes.ensures in
    (omega (arith, r.sum, r.few), omega arith)

pub invariant_of-edges : goal.invariant_of-edges
invariant_of-edges c =
    let r = readable _ _ _ _ c.in_ok-sizes.ensures in
    record { within = omega (arith, r.size, c.end.ensures) }

pub returns : goal.returns
returns c =
    let r = readable _ _ _ _ c.in_ok-sizes.ensures in
    loaded-table _ _ _ _ _ _ r _ c.end.ensures (omega arith) (omega arith) _ _ c.write_starts.ensures c.write_members.ensures
