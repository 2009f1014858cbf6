-- `fall` meets its contract: where the sum has reached 2U, a member is above 0. Assumes nothing.
use mathlib.Core.Path.{sym, ap₂, subst}
use Prim.Native.Nat.{◌-◌, ◌/◌, ◌<◌}
use Rattle.multiplier_search.specs.Lifted.{fall_at, reach}
use Rattle.multiplier_search.specs.Sums.{slope_sums}
use Rattle.multiplier_search.proofs.LiftedLaws.{count-some}
use Rattle.multiplier_search.proofs.SumsLaws.{front}
use Rattle.decoder.proofs.multiplier.fall.Goals as goal

pub nonzero_div-result : goal.nonzero_div-result
nonzero_div-result c = subst (λ n. 0 < n) (sym c.slope_at-slope.ensures.1) (count-some c.args.heights.now c.args.b c.requires.2)

pub returns : goal.returns
unfolding fall_at
returns c = ap₂ (λ s n. (s - reach) / n) c.slope_at-slope.ensures.0 c.slope_at-slope.ensures.1

pub slope_at-slope-requires : goal.slope_at-slope-requires
slope_at-slope-requires c =
    let a = c.args in
    (c.requires.0, c.requires.1, front (slope_sums a.heights.now a.b) _ c.requires.3)
