-- `jugnayap_judge` meets its contract: each arm has the answer of `judge::judge`. Assumes nothing.
use borrow.Author.Rules.{rules}
use mathlib.Core.Path.{sym, ◌∙◌, ap}
use mir.Syntax.{w64}
use lib.IntN.{pos}
use mir.Val.{SFits}
use mir.Facts.{to_z-of_z}
use Rattle.std.specs.Prelude.{Ok}
use Rattle.integers.specs.Machine.{fit}
use Rattle.rules.specs.Refusal.{reply_of}
use Rattle.rules.specs.Judge.{verdict_values, judge_reply}
use Rattle.judge.specs.Reply.{verdict_of}
use Rattle.jugnayap.specs.Numbers.{verdict_from}
use Rattle.jugnayap.proofs.AnswerLaws.{broken-small, mark-number}
use native.Mathlib.Omega.{arith}
use Rattle.std.proofs.lemmas.Int.{ints}
use Rattle.jugnayap.proofs.jugnayap_judge.Goals as goal

pub overflow_cast-result : goal.overflow_cast-result
overflow_cast-result c =
    let small = broken-small _ _ _ _ _ (ap verdict_of (sym (c.in-Ok-Broken.is ∙ ap Ok c.in-Ok-Broken.field-0-is)) ∙ c.judge.ensures) in search rules

pub returns-in-Err : goal.returns-in-Err
unfolding reply_of judge_reply
returns-in-Err c =
    ap (λ n. record { number = n; kind = 0; value = pos 0; sole = 0 }) (c.from-in-Err.ensures ∙ c.number.ensures)
    ∙ ap (λ a. verdict_from (reply_of verdict_values a)) (ap verdict_of (sym c.in-Err.is) ∙ c.judge.ensures)

pub returns-in-Ok-Broken : goal.returns-in-Ok-Broken
unfolding reply_of judge_reply
returns-in-Ok-Broken c =
    let says = ap verdict_of (sym (c.in-Ok-Broken.is ∙ ap Ok c.in-Ok-Broken.field-0-is)) ∙ c.judge.ensures in
    let small = broken-small _ _ _ _ _ says in
    ap (λ z. record { number = 0; kind = 0; value = z; sole = 0 }) (omega (arith, ints, small))
    ∙ ap (λ a. verdict_from (reply_of verdict_values a)) says

pub returns-in-Ok-Certified : goal.returns-in-Ok-Certified
unfolding reply_of judge_reply
returns-in-Ok-Certified c =
    ap (λ n. record { number = 0; kind = 1; value = pos 0; sole = n }) (c.from.ensures ∙ mark-number c.in-Ok-Certified.sole)
    ∙ ap (λ a. verdict_from (reply_of verdict_values a)) (ap verdict_of (sym (c.in-Ok-Certified.is ∙ ap Ok c.in-Ok-Certified.field-0-is)) ∙ c.judge.ensures)

pub returns-in-Ok-Gap : goal.returns-in-Ok-Gap
unfolding reply_of judge_reply
returns-in-Ok-Gap c =
    let gap-fits : SFits w64 c.in-Ok-Gap.gap = fit w64 c.in-Ok-Gap.gap (search rules) in
    ap (λ z. record { number = 0; kind = 2; value = z; sole = 0 }) (to_z-of_z gap-fits)
    ∙ ap (λ a. verdict_from (reply_of verdict_values a)) (ap verdict_of (sym (c.in-Ok-Gap.is ∙ ap Ok c.in-Ok-Gap.field-0-is)) ∙ c.judge.ensures)
