-- `point` meets its contract: the spins' test is the definition's. Assumes nothing.
use mathlib.Core.Path.{◌≡◌, sym, ◌∙◌}
use mathlib.Core.Bool.{true, false}
use Rattle.std.proofs.Common.{rules}
use Rattle.rules.specs.Limits.{unit}
use Rattle.rules.specs.Input.{each_within}
use Rattle.inputs.specs.Refusals.{point_refusal}
use Rattle.inputs.proofs.EachLaws.{each_within_is}
use Rattle.inputs.proofs.point.Goals as goal
use Rattle.inputs.proofs.point.Goals.{then-s-n-via-then-s-n, then-s-n-via-else-s-n+then-not-all_between}

pub returns-then-s-n : goal.returns-then-s-n
unfolding point_refusal
returns-then-s-n c = elim c.then-s-n.branch [
  | then-s-n-via-then-s-n w ↦ search rules
  | then-s-n-via-else-s-n+then-not-all_between w ↦
      (let e : each_within unit c.args.s.now ≡ false = sym (w.all_between.ensures ∙ each_within_is unit c.args.s.now) ∙ w.if-not-all_between.true in
      search rules)
]

pub returns : goal.returns
unfolding point_refusal
returns c =
    let e : each_within unit c.args.s.now ≡ true = sym (c.all_between.ensures ∙ each_within_is unit c.args.s.now) ∙ c.if-not-all_between.false in
    search rules
