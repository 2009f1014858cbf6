-- `jugnayap_search_cut` meets its contract: each arm has the answer of `cut::search`. Assumes nothing.
use mathlib.Core.Path.{sym, ◌∙◌, ap}
use Rattle.std.specs.Prelude.{Ok}
use Rattle.cut.specs.Reply.{found_of}
use Rattle.jugnayap.proofs.AnswerLaws.{cut-numbers}
use Rattle.jugnayap.proofs.jugnayap_search_cut.Goals as goal

pub returns-in-Ok-Some : goal.returns-in-Ok-Some
returns-in-Ok-Some c = cut-numbers _ _ _ _ (ap found_of (sym (c.in-Ok-Some.is ∙ ap Ok c.in-Ok-Some.field-0-is)) ∙ c.search.ensures)

pub returns-in-Ok-None : goal.returns-in-Ok-None
returns-in-Ok-None c = cut-numbers _ _ _ _ (ap found_of (sym (c.in-Ok-None.is ∙ ap Ok c.in-Ok-None.field-0-is)) ∙ c.search.ensures)

pub returns-in-Err : goal.returns-in-Err
returns-in-Err c =
    ap (λ n. record { number = n; mask = 0; depth = 0 }) (c.from.ensures ∙ c.number.ensures)
    ∙ cut-numbers _ _ _ _ (ap found_of (sym c.in-Err.is) ∙ c.search.ensures)
