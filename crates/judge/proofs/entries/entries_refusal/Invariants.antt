-- `entries_refusal` meets its contract: the entries from k on decide. Assumes nothing.
use mathlib.Core.Path.{◌≡◌}
use mathlib.Core.Option.{none}
use Rattle.rules.specs.Table.{checks_of}
use Rattle.rules.specs.Certificate.{items_of}
use Rattle.judge.specs.Refusals.{degrees_of, items_refusal}
use Rattle.judge.specs.Items.{item_before}
use Rattle.judge.specs.Rows.{items_from}
use Rattle.judge.proofs.entries.entries_refusal.Given as goal

abbrev pub invariant-loop-k : goal.invariant-loop-k
invariant-loop-k l =
    items_refusal (checks_of l.table) (degrees_of l.table) none (items_of l.certificate)
    ≡ items_refusal (checks_of l.table) (degrees_of l.table) (item_before l.before) (items_from l.certificate l.k)
