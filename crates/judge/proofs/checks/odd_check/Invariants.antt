-- `odd_check` meets its contract: the sum so far and the members from k on decide. Assumes nothing.
use mathlib.Core.Path.{◌≡◌}
use lib.ListN.{drop}
use Rattle.rules.specs.Table.{bits_at}
use Rattle.rules.specs.Parity.{◌⊕◌, odd}
use Rattle.rules.specs.Input.{bits_of}
use Rattle.judge.proofs.checks.odd_check.Given as goal

abbrev pub invariant-loop-i : goal.invariant-loop-i
invariant-loop-i l = l.sum ⊕ odd (bits_at (bits_of l.word) (drop l.i-index l.members)) ≡ odd (bits_at (bits_of l.word) l.members)
