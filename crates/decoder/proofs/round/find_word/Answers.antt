-- `find_word` meets its contract. Assumes nothing.
use mathlib.Core.Path.{sym, ◌∙◌}
use mir.Syntax.{w64}
use mir.Facts.{to_z-of_z}
use Rattle.integers.specs.Machine.{fit}
use Rattle.decoder.proofs.RoundLaws.{none_found, word-found}
use Rattle.decoder.proofs.round.find_word.Goals as goal

pub returns-then-meets_checks : goal.returns-then-meets_checks
returns-then-meets_checks c =
    let gap = to_z-of_z (fit w64 c.gap_of.result c.gap_of.type_inv) ∙ c.gap_of.ensures in
    word-found _ _ _ _ _ _ (sym c.meets_checks.ensures ∙ c.if-meets_checks.true) gap

pub returns-else-meets_checks : goal.returns-else-meets_checks
returns-else-meets_checks c = none_found _ _ _ _ _ (sym c.meets_checks.ensures ∙ c.if-meets_checks.false)
