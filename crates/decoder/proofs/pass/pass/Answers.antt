-- `pass` meets its contract: j checks are done, and the lists of the others are as they came. Assumes nothing.
use mathlib.Core.Path.{refl, ap}
use native.Mathlib.Omega.{arith}
use Rattle.rules.specs.Table.{checks_of}
use Rattle.decoder.proofs.PassLoopLaws.{one_more, passing-first, passing-last, one-fits, passing-next}
use Rattle.decoder.proofs.pass.pass.Goals as goal

pub loop-j-init : goal.loop-j-init
loop-j-init c = passing-first c.table.invariant c.table.view_is c.requires

pub bounds-starts-j : goal.bounds-starts-j
bounds-starts-j c = omega (arith, one_more c.table.invariant c.table.view_is c.requires, ap checks_of c.table.view_is, c.requires.masks_long)

pub bounds-starts-j-in-loop-j : goal.bounds-starts-j-in-loop-j
bounds-starts-j-in-loop-j c = omega (arith, one_more c.table.invariant c.table.view_is c.requires, ap checks_of c.table.view_is, c.requires.masks_long)

pub pass_one-requires : goal.pass_one-requires
pass_one-requires c =
    let g = c.loop-j.invariant in
    one-fits c.table.invariant c.table.view_is c.requires g (omega (arith, ap checks_of c.table.view_is, c.requires.masks_long)) refl

pub loop-j-preserved : goal.loop-j-preserved
loop-j-preserved c =
    let g = c.loop-j.invariant in
    passing-next c.table.invariant c.table.view_is c.requires g (omega (arith, ap checks_of c.table.view_is, c.requires.masks_long)) refl c.pass_one.ensures

pub returns : goal.returns
returns c = passing-last c.table.invariant c.table.view_is c.requires c.loop-j.invariant (omega (arith, c.requires.masks_long))
