-- `entry_refusal` meets its contract: each return has the tests that led there. Assumes nothing.
use mathlib.Core.Path.{sym, ◌∙◌, ap}
use native.Mathlib.Omega.{arith}
use lib.ListN.{length}
use Rattle.judge.proofs.RefusalLaws.{entry-check, entry-multiplier, entry-mask, entry-order, entry-right}
use Rattle.judge.proofs.entries.entry_refusal.Goals as goal

pub returns-then-checks-entry : goal.returns-then-checks-entry
returns-then-checks-entry c = entry-check _ _ _ _ (omega (arith, c.checks.ensures, c.if-checks-entry.true))

pub returns-then-not-in_range : goal.returns-then-not-in_range
returns-then-not-in_range c =
    entry-multiplier _ _ _ _ (omega (arith, c.checks.ensures, c.if-checks-entry.false)) (sym c.in_range.ensures ∙ c.if-not-in_range.true)

pub returns-then-not-mask_right : goal.returns-then-not-mask_right
returns-then-not-mask_right c =
    entry-mask _ _ _ _ (omega (arith, c.checks.ensures, c.if-checks-entry.false)) (sym c.in_range.ensures ∙ c.if-not-in_range.false)
    _ (ap length c.members.ensures.0) (sym c.mask_right.ensures ∙ c.if-not-mask_right.true)

pub returns-then-not-follows : goal.returns-then-not-follows
returns-then-not-follows c =
    entry-order _ _ _ _ (omega (arith, c.checks.ensures, c.if-checks-entry.false)) (sym c.in_range.ensures ∙ c.if-not-in_range.false)
    _ (ap length c.members.ensures.0) (sym c.mask_right.ensures ∙ c.if-not-mask_right.false) (sym c.follows.ensures ∙ c.if-not-follows.true)

pub returns : goal.returns
returns c =
    entry-right _ _ _ _ (omega (arith, c.checks.ensures, c.if-checks-entry.false)) (sym c.in_range.ensures ∙ c.if-not-in_range.false)
    _ (ap length c.members.ensures.0) (sym c.mask_right.ensures ∙ c.if-not-mask_right.false) (sym c.follows.ensures ∙ c.if-not-follows.false)
