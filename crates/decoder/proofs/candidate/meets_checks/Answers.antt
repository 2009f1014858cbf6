-- `meets_checks` meets its contract: the candidate, where there is one, is the word with ones at negative spins. Assumes nothing.
use mathlib.Core.Path.{sym, ◌∙◌}
use Rattle.decoder.proofs.CandidateLaws.{met-none, met_some}
use Rattle.decoder.proofs.candidate.meets_checks.Goals as goal

pub returns-then-all_decided : goal.returns-then-all_decided
returns-then-all_decided c =
    let a = c.args in
    c.all_even.ensures ∙ sym (met_some a.spins.now a.table.now.checks (sym c.all_decided.ensures ∙ c.if-all_decided.true))

pub returns-else-all_decided : goal.returns-else-all_decided
returns-else-all_decided c =
    let a = c.args in
    let none = c.if-all_decided.false in
    none ∙ sym (met-none a.spins.now a.table.now.checks (sym c.all_decided.ensures ∙ none))
