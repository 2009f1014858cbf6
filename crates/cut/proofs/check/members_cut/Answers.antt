-- `members_cut` meets its contract: no refusal is met, and the cut is that of the members' spins. Assumes nothing.
use mathlib.Core.Path.{sym, ◌∙◌, ap, subst}
use native.Mathlib.Omega.{arith}
use Rattle.rules.specs.Limits.{unit}
use Rattle.rules.specs.Table.{at}
use Rattle.rules.specs.Step.{clips}
use Rattle.cut.specs.CutMask.{CutIs}
use Rattle.cut.specs.Reply.{seen_of}
use Rattle.cut.proofs.GatherLaws.{front-is, front_length}
use Rattle.cut.proofs.SeeLaws.{seen-cut, seen-ok}
use Rattle.cut.proofs.check.members_cut.Goals as goal

pub slice_bounds-see-end : goal.slice_bounds-see-end
slice_bounds-see-end c =
    front_length (at c.args.spins.now) c.args.members.now _ _ c.gather.ensures

pub unwrap-requires : goal.unwrap-requires
unwrap-requires c =
    let long = front_length (at c.args.spins.now) c.args.members.now _ _ c.gather.ensures in
    seen-ok _ _ _ _ c.see.ensures (omega (arith, long, c.requires.0)) (omega (arith, long, c.requires.0))

pub returns : goal.returns
returns c =
    let gathered = c.gather.ensures in
    let long = front_length (at c.args.spins.now) c.args.members.now _ _ gathered in
    let sees = ap (λ r. seen_of r c.see.new.heights) (sym c.unwrap.ensures) ∙ c.see.ensures in
    subst (λ l. CutIs (clips unit l) c.unwrap.result.mask c.unwrap.result.depth)
    (front-is (at c.args.spins.now) c.args.members.now _ _ gathered)
    (seen-cut _ _ _ sees (omega (arith, long, c.requires.0)) (omega (arith, long, c.requires.0)))
