-- `jugnayap_agreement` meets its contract: each arm has the answer of `judge::agreement`. Assumes nothing.
use borrow.Author.Rules.{rules}
use mathlib.Core.Path.{sym, ◌∙◌, ap}
use mir.Syntax.{w64}
use lib.IntN.{pos}
use mir.Val.{SFits}
use mir.Facts.{to_z-of_z}
use Rattle.integers.specs.Machine.{fit}
use Rattle.rules.specs.Refusal.{reply_of}
use Rattle.rules.specs.Judge.{agreement_values}
use Rattle.judge.specs.Reply.{agreed_of}
use Rattle.jugnayap.specs.Numbers.{agreement_from}
use Rattle.jugnayap.proofs.jugnayap_agreement.Goals as goal

pub returns-in-Ok : goal.returns-in-Ok
unfolding reply_of
returns-in-Ok c =
    let agreed-fits : SFits w64 c.in-Ok.agreement = fit w64 c.in-Ok.agreement (search rules) in
    ap (λ z. record { number = 0; agreement = z }) (to_z-of_z agreed-fits)
    ∙ ap (λ a. agreement_from (reply_of agreement_values a)) (ap agreed_of (sym c.in-Ok.is) ∙ c.agreement.ensures)

pub returns-in-Err : goal.returns-in-Err
unfolding reply_of
returns-in-Err c =
    ap (λ n. record { number = n; agreement = pos 0 }) (c.from.ensures ∙ c.number.ensures)
    ∙ ap (λ a. agreement_from (reply_of agreement_values a)) (ap agreed_of (sym c.in-Err.is) ∙ c.agreement.ensures)
