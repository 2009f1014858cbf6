-- `finish` meets its contract. Only a certified run writes. Assumes nothing.
use mathlib.Core.Path.{◌≡◌, refl, sym, ◌∙◌, ap}
use denote.Enum.Bare.{same_true, same_false}
use Rattle.std.specs.Prelude.{Result, Ok, Err}
use Rattle.std.specs.Result.{IsOk}
use Rattle.limits.specs.Numbers.{refusal_of}
use Rattle.limits.specs.declared.refusals.Refusal.{Refusal}
use Rattle.limits.proofs.NumberLaws.{number-some}
use Rattle.run.specs.contracts.Status.{the_type}
use Rattle.run.specs.declared.Status.TheVariants.{Certified}
use Rattle.run.specs.Reply.{status_of}
use Rattle.run.proofs.ViewLaws.{status-inj}
use Rattle.writing.proofs.WordLaws.{word-whole}
use Rattle.writing.proofs.CertificateLaws.{certificate-whole}
use Rattle.decoder.proofs.PerformLaws.{finish-other, finish-certified}
use Rattle.decoder.proofs.perform.finish.Goals as goal

not-refused : (r : Result Unit Refusal) → refusal_of r ≡ 0 → IsOk r
not-refused (Ok u) e = refl
not-refused (Err k) e = absurd (number-some k e)

pub unwrap-requires : goal.unwrap-requires
unwrap-requires c =
    not-refused _ (ap (λ d. d.number) (c.write_word.ensures ∙ word-whole _ _ c.requires.word))

pub unwrap-requires-then-eq : goal.unwrap-requires-then-eq
unwrap-requires-then-eq c =
    let pre = c.requires in
    not-refused _ (ap (λ d. d.number) (c.write_certificate.ensures ∙ certificate-whole _ _ _ pre.few pre.alike pre.certificate))

pub returns-then-eq : goal.returns-then-eq
returns-then-eq c =
    let pre = c.requires in
    finish-certified _ _ _ _ _ _ _ _ (ap status_of (same_true the_type tt _ Certified (sym c.eq.ensures ∙ c.if-eq.true)))
    (ap (λ d. d.bytes) (c.write_word.ensures ∙ word-whole _ _ pre.word))
    (ap (λ d. d.bytes) (c.write_certificate.ensures ∙ certificate-whole _ _ _ pre.few pre.alike pre.certificate))

pub returns-else-eq : goal.returns-else-eq
returns-else-eq c =
    finish-other _ _ _ _ _ _ (λ e. same_false the_type _ Certified (sym c.eq.ensures ∙ c.if-eq.false) (status-inj _ Certified e))
