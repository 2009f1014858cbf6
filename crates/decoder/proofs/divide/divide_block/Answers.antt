-- `divide_block` meets its contract: the first sixteen of sixteen are all. Assumes nothing.
use mathlib.Core.Path.{sym, ◌∙◌, ap, ap₂}
use native.Mathlib.Omega.{arith}
use lib.ListN.{length}
use Rattle.rules.proofs.BufferLaws.{take_exact}
use Rattle.decoder.specs.Spins.{quotients_over}
use Rattle.decoder.proofs.PartLaws.{none_after}
use Rattle.decoder.proofs.divide.divide_block.Goals as goal

pub divide_part-requires : goal.divide_part-requires
divide_part-requires c =
    let ds = c.args.degrees.now in
    let ts = c.args.totals.now in
    ap length (take_exact 16 ts (omega arith)) ∙ c.requires ∙ sym (ap length (take_exact 16 ds (omega (arith, c.requires))))

pub returns-then-totals-eq-BLOCK : goal.returns-then-totals-eq-BLOCK
returns-then-totals-eq-BLOCK c =
    let ds = c.args.degrees.now in
    let ts = c.args.totals.now in
    none_after 16 _ ts (omega arith) ∙ c.divide_part.ensures
    ∙ ap₂ quotients_over (take_exact 16 ds (omega (arith, c.requires))) (take_exact 16 ts (omega arith))
