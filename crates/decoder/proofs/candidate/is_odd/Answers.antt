-- `is_odd` meets its contract: the first six members of a check of degree 6 are all, and so are the first eight of one of degree 8. Assumes nothing.
use mathlib.Core.Path.{◌∙◌, ap}
use native.Mathlib.Omega.{arith}
use Rattle.rules.specs.Table.{bits_at}
use Rattle.rules.specs.Parity.{odd}
use Rattle.rules.specs.Cut.{negatives}
use Rattle.rules.proofs.BufferLaws.{take_exact}
use Rattle.decoder.proofs.candidate.is_odd.Goals as goal

pub returns-in-8 : goal.returns-in-8
returns-in-8 c =
    c.is_odd_of-in-8.ensures ∙ ap (λ ms. odd (bits_at (negatives c.args.spins.now) ms)) (take_exact 8 c.args.members.now (omega arith))
