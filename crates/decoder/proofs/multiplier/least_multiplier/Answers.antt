-- `least_multiplier` meets its contract: b meets V's inequality all the time, and falls. Assumes nothing.
use mathlib.Core.Path.{◌≡◌, sym, ◌∙◌, ap, subst}
use mathlib.Core.List.{List}
use Prim.Native.Nat.{ℕ, ◌≤◌}
use native.Mathlib.Omega.{arith}
use lib.IntN.{ℤ, pos, nat_abs, ◌-ℤ◌}
use mir.Syntax.{w32}
use mir.Val.{SFits}
use mir.Facts.{to_z-of_z}
use Rattle.rules.specs.Limits.{step_limit}
use Rattle.multiplier_search.specs.Lifted.{sum_at, first_step, Rising, reach}
use Rattle.multiplier_search.specs.Sums.{AllNarrow, first_sums}
use Rattle.multiplier_search.proofs.LiftedLaws.{next-step, least-found}
use Rattle.multiplier_search.proofs.StartLaws.{first-met, first-most, start-most, start_under}
use Rattle.multiplier_search.proofs.ClimbLaws.{first-narrow, fall-narrow}
use Rattle.spin.proofs.DividedParts.{wrap}
use Rattle.decoder.proofs.multiplier.least_multiplier.Goals as goal

-- where the search starts
first-is : (hs : List ℤ) (top : ℤ) (b : ℕ) → SFits w32 top → b ≡ first_step hs (wrap top) → b ≡ first_step hs top
first-is hs top b f e = e ∙ ap (first_step hs) (to_z-of_z f)

-- b is at most the step that lifts the greatest alone
from_first : (hs : List ℤ) (top : ℤ) (first b : ℕ) → SFits w32 top → first ≡ first_step hs (wrap top) → b ≤ first → b ≤ nat_abs (pos reach -ℤ top)
from_first hs top first b f e h = omega (arith, h, first-is hs top first f e, first-most hs top)

pub first_step-b-requires : goal.first_step-b-requires
first_step-b-requires c =
    let hs = c.args.heights.now in
    subst (λ t. Rising hs t × AllNarrow (first_sums hs t)) (sym (to_z-of_z c.ranges.top)) (c.requires, first-narrow hs c.args.top c.requires)

pub loop-top-init : goal.loop-top-init
loop-top-init c =
    let hs = c.args.heights.now in
    (omega arith, subst (λ b. reach ≤ sum_at hs b) (sym (first-is hs c.args.top _ c.ranges.top c.first_step-b.ensures)) (first-met hs c.args.top c.requires))

pub fall-d-requires : goal.fall-d-requires
fall-d-requires c =
    let hs = c.args.heights.now in
    let l = c.loop-top in
    let most = from_first hs c.args.top _ l.b c.ranges.top c.first_step-b.ensures l.invariant.0 in (
      c.requires.few,
      start_under hs c.args.top l.b c.requires.most c.requires.high most,
      l.invariant.1,
      fall-narrow hs c.args.top c.requires l.b most,
    )

pub returns-then-d-eq0 : goal.returns-then-d-eq0
returns-then-d-eq0 c =
    let a = c.args in
    let l = c.loop-top in
    let most : l.b ≤ nat_abs (pos reach -ℤ a.top) = from_first a.heights.now _ _ _ c.ranges.top c.first_step-b.ensures l.invariant.0 in
    let bounded : l.b ≤ step_limit = omega (arith, most, start-most a.top c.requires.low c.requires.high) in
    least-found a.heights.now l.b c.fall-d.result l.invariant.1 bounded c.fall-d.ensures (omega arith)

pub overflow_sub-b : goal.overflow_sub-b
overflow_sub-b c =
    let l = c.loop-top in
    omega (arith, (next-step c.args.heights.now l.b c.fall-d.result l.invariant.1 c.requires.short c.fall-d.ensures).0)

pub loop-top-preserved : goal.loop-top-preserved
loop-top-preserved c =
    (omega arith, (next-step _ _ _ c.loop-top.invariant.1 c.requires.short c.fall-d.ensures).1)
