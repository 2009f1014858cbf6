-- `Loaded::load` meets its contract: what `load` leaves holds the file's table. Assumes nothing.
use mathlib.Core.Path.{sym}
use native.Mathlib.Omega.{arith}
use lib.Seq.{length-take-le}
use Rattle.limits.proofs.NumberLaws.{handed-on}
use Rattle.table.proofs.LayoutLaws.{opened-starts, opened-few, load-refused, load-opened, load-gives}
use Rattle.table.proofs.loaded.Loaded.load.Goals as goal

pub returns-in_err-sizes : goal.returns-in_err-sizes
returns-in_err-sizes c = rw (handed-on _ c.from_residual.ensures) (sym (load-refused _ _ _ _ c.load.ensures c.in_err-sizes.was))

pub overflow_add-result : goal.overflow_add-result
overflow_add-result c = let o = load-opened _ _ _ _ c.load.ensures c.in_ok-sizes.was in omega (arith, opened-few o)

pub slice_bounds-result-end : goal.slice_bounds-result-end
slice_bounds-result-end c = sym (opened-starts (load-opened _ _ _ _ c.load.ensures c.in_ok-sizes.was))

pub slice_bounds-result-end-2 : goal.slice_bounds-result-end-2
slice_bounds-result-end-2 c = sym (length-take-le _ _ (load-opened _ _ _ _ c.load.ensures c.in_ok-sizes.was).members_room)

pub invariant_of-result : goal.invariant_of-result
invariant_of-result c = (load-opened _ _ _ _ c.load.ensures c.in_ok-sizes.was).holds

pub returns : goal.returns
returns c = sym (load-gives _ _ _ _ c.load.ensures c.in_ok-sizes.was)
