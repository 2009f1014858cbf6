-- `divided` meets its contract: the quotient toward zero and what it lacks. Assumes nothing.
use mir.Syntax.{w32}
use Rattle.integers.specs.Machine.{fit}
use Rattle.spin.proofs.DividedParts.{remainder, raised-narrow, result-fits, result-right}
use Rattle.spin.proofs.divided.Goals as goal

pub half_above-requires : goal.half_above-requires
half_above-requires c = remainder _ _ c.ranges.total c.ranges.d c.requires

pub overflow_add-result : goal.overflow_add-result
overflow_add-result c =
    let a = c.half_above in
    raised-narrow _ _ c.ranges.total c.ranges.d c.requires _ (fit w32 a.result a.type_inv) a.ensures

pub half_below-requires : goal.half_below-requires
half_below-requires c = remainder _ _ c.ranges.total c.ranges.d c.requires

pub overflow_sub-result : goal.overflow_sub-result
overflow_sub-result c =
    let a = c.half_above in
    let b = c.half_below in
    result-fits _ _ c.ranges.total c.ranges.d c.requires _ _ (fit w32 a.result a.type_inv) (fit w32 b.result b.type_inv) a.ensures b.ensures

pub returns : goal.returns
returns c =
    let a = c.half_above in
    let b = c.half_below in
    result-right _ _ c.ranges.total c.ranges.d c.requires _ _ (fit w32 a.result a.type_inv) (fit w32 b.result b.type_inv) a.ensures b.ensures
