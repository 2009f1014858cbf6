-- `called_numbers` meets its contract: the record comes back by its status. Assumes nothing.
use mathlib.Core.Path.{◌∙◌, ap₂}
use Rattle.jugnayap.proofs.StatusLaws.{after-known, after-unknown}
use Rattle.jugnayap.proofs.numbers.called_numbers.Goals as goal

pub returns-then-run-gt-SPENT : goal.returns-then-run-gt-SPENT
returns-then-run-gt-SPENT c = ap₂ (λ n h. record { number = n; run = h }) c.refusal_number-number.ensures (after-unknown _ _ c.if-run-gt-SPENT.true)

pub returns : goal.returns
returns c = ap₂ (λ n h. record { number = n; run = h }) c.refusal_number-number.ensures (c.run_numbers.ensures ∙ after-known _ _ c.if-run-gt-SPENT.false)
