-- `gather` meets its contract: the first k values are the members' spins. Assumes nothing.
use mathlib.Core.Path.{◌∙◌, ap}
use native.Mathlib.Omega.{arith}
use lib.ListN.{length}
use mir.Syntax.{w32}
use mir.Facts.{to_z-of_z}
use Rattle.integers.specs.Machine.{fit}
use Rattle.rules.specs.Table.{at}
use Rattle.rules.proofs.Duality.{below_at}
use Rattle.cut.proofs.GatherLaws.{gather-more}
use Rattle.cut.proofs.check.gather.Goals as goal

pub bounds-spins-from : goal.bounds-spins-from
bounds-spins-from c =
    omega (arith, c.from.ensures, below_at (length c.args.spins.now) c.args.members.now c.loop-k.k c.loop-k-test.true c.requires.1)

pub loop-k-preserved : goal.loop-k-preserved
loop-k-preserved c =
    let args = c.args in
    let loop = c.loop-k in
    let read = to_z-of_z (fit w32 (at args.spins.now c.from.result) (search)) in
    gather-more (at args.spins.now) args.members.now args.values.now loop.values loop.k _ c.loop-k-test.true c.requires.0 loop.invariant
    (read ∙ ap (at args.spins.now) c.from.ensures)
