-- `syndrome_table` meets its contract. Assumes nothing.
use mathlib.Core.Path.{sym, ◌∙◌, ap}
use Rattle.limits.proofs.NumberLaws.{handed-on}
use Rattle.inputs.specs.Refusals.{word_refusal}
use Rattle.judge.proofs.StageLaws.{word-long, syndrome-turned, syndrome-found}
use Rattle.judge.proofs.stages.syndrome_table.Goals as goal

pub returns-in_err-word : goal.returns-in_err-word
returns-in_err-word c =
    rw (handed-on _ c.from_residual.ensures) (syndrome-turned _ _ _ (c.in_err-word.ensures ∙ ap (λ n. word_refusal n c.args.word.now) c.bits-bits.ensures.0))

pub first_broken-requires : goal.first_broken-requires
first_broken-requires c = word-long _ _ (sym c.in_ok-word.ensures) ∙ c.bits-bits.ensures.0

pub returns : goal.returns
returns c = syndrome-found _ _ _ (c.in_ok-word.ensures ∙ ap (λ n. word_refusal n c.args.word.now) c.bits-bits.ensures.0) c.first_broken.ensures
