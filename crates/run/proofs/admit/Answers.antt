-- `run::admit` meets its contract: the load's answer decides which case of it is left; what is lent is as long as the call needs once 41 was not
-- answered. Assumes nothing.
use mathlib.Core.Path.{refl}
use native.Mathlib.Omega.{arith}
use lib.ListN.{length-take}
use lib.Seq.{length-take-le}
use Rattle.std.proofs.lemmas.Grind.{common_steps}
use Rattle.limits.proofs.NumberLaws.{handed-on}
use Rattle.rules.specs.Refusal.{must}
use Rattle.rules.specs.Buffers.{copies, offsets, sums}
use Rattle.inputs.specs.Refusals.{turned_down}
use Rattle.run.specs.Admitted.{admits_by}
use Rattle.run.proofs.SumsLaws.{first-carried}
use Rattle.run.proofs.AdmitLaws.{checks-few, edges-loaded, long-part, admission-refused, admission-sized}
use Rattle.run.proofs.admit.Goals as goal

pub returns-in_err-sizes : goal.returns-in_err-sizes
returns-in_err-sizes c = rw (handed-on _ c.from_residual.ensures) (admission-refused _ _ _ _ _ _ c.in_err-sizes.ensures _ _ _ _ _ _ _ _ refl)

pub refuse_short-requires : goal.refuse_short-requires
refuse_short-requires c = checks-few _ _ _ _ _ _ c.in_ok-sizes.ensures _ refl

pub slice_bounds-half_done-end : goal.slice_bounds-half_done-end
slice_bounds-half_done-end c = (edges-loaded _ _ _ _ _ _ c.in_ok-sizes.ensures _ refl).0

pub slice_bounds-half_done-end-2 : goal.slice_bounds-half_done-end-2
slice_bounds-half_done-end-2 c = simp length-take (omega (arith, (edges-loaded _ _ _ _ _ _ c.in_ok-sizes.ensures _ refl).0))

pub slice_bounds-half_done-end-3 : goal.slice_bounds-half_done-end-3
slice_bounds-half_done-end-3 c = simp length-take (omega (arith, long-part _ _ c.in_ok-refuse_short.ensures copies))

pub slice_bounds-half_done-end-4 : goal.slice_bounds-half_done-end-4
slice_bounds-half_done-end-4 c = simp length-take (omega (arith, long-part _ _ c.in_ok-refuse_short.ensures offsets))

pub slice_bounds-half_done-end-5 : goal.slice_bounds-half_done-end-5
slice_bounds-half_done-end-5 c = simp length-take (omega (arith, long-part _ _ c.in_ok-refuse_short.ensures sums))

pub invariant_of-half_done : goal.invariant_of-half_done
invariant_of-half_done c =
    let loaded = edges-loaded _ _ _ _ _ _ c.in_ok-sizes.ensures _ refl in
    let room = long-part _ _ c.in_ok-refuse_short.ensures in
    first-carried _ _ _ _ _ _ loaded.0 loaded.1 (room copies) (room offsets) (room sums)

-- ---- each return has the answer of the tests that led there
pub returns-in_err-frame : goal.returns-in_err-frame
unfolding admits_by turned_down must
returns-in_err-frame c = admission-sized _ _ _ _ _ _ c.in_ok-sizes.ensures _ _ _ _ _ _ _ _ refl _ (grind (arith, common_steps))

pub returns-then-wanted-gt-ROUND_LIMIT : goal.returns-then-wanted-gt-ROUND_LIMIT
unfolding admits_by turned_down must
returns-then-wanted-gt-ROUND_LIMIT c = admission-sized _ _ _ _ _ _ c.in_ok-sizes.ensures _ _ _ _ _ _ _ _ refl _ (grind (arith, common_steps))

pub returns-in_err-refuse_short : goal.returns-in_err-refuse_short
unfolding admits_by turned_down must
returns-in_err-refuse_short c = admission-sized _ _ _ _ _ _ c.in_ok-sizes.ensures _ _ _ _ _ _ _ _ refl _ (grind (arith, common_steps))

pub returns-then-ne : goal.returns-then-ne
unfolding admits_by turned_down must
returns-then-ne c = admission-sized _ _ _ _ _ _ c.in_ok-sizes.ensures _ _ _ _ _ _ _ _ refl _ (grind (arith, common_steps))

pub returns-then-not-is_sound : goal.returns-then-not-is_sound
unfolding admits_by turned_down must
returns-then-not-is_sound c =
    let long = length-take-le c.in_ok-sizes.sizes.bits c.args.sums.now (long-part _ _ c.in_ok-refuse_short.ensures sums) in
    admission-sized _ _ _ _ _ _ c.in_ok-sizes.ensures _ _ _ _ _ _ _ _ refl _ (grind (arith, common_steps))

pub returns : goal.returns
unfolding admits_by turned_down must
returns c =
    let long = length-take-le c.in_ok-sizes.sizes.bits c.args.sums.now (long-part _ _ c.in_ok-refuse_short.ensures sums) in
    admission-sized _ _ _ _ _ _ c.in_ok-sizes.ensures _ _ _ _ _ _ _ _ refl _ (grind (arith, common_steps))
