-- `frame` meets its contract: the numbers' test is the definition's. Assumes nothing.
use mathlib.Core.Path.{◌≡◌, sym, ◌∙◌}
use mathlib.Core.Bool.{true, false}
use Rattle.std.proofs.Common.{rules}
use Rattle.rules.specs.Limits.{frame_limit}
use Rattle.rules.specs.Input.{each_within}
use Rattle.inputs.specs.Refusals.{frame_refusal}
use Rattle.inputs.proofs.EachLaws.{each_within_is}
use Rattle.inputs.proofs.frame.Goals as goal

pub returns-then-not-all_between : goal.returns-then-not-all_between
unfolding frame_refusal
returns-then-not-all_between c =
    let e : each_within frame_limit c.args.l.now ≡ false = sym (c.all_between.ensures ∙ each_within_is frame_limit c.args.l.now) ∙ c.if-not-all_between.true in
    search rules

pub returns : goal.returns
unfolding frame_refusal
returns c =
    let e : each_within frame_limit c.args.l.now ≡ true = sym (c.all_between.ensures ∙ each_within_is frame_limit c.args.l.now) ∙ c.if-not-all_between.false in
    search rules
