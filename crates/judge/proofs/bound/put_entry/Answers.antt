-- `put_entry` meets its contract: the members are those of the entry's check. Assumes nothing.
use mathlib.Core.Path.{◌∙◌, subst}
use Prim.Native.Nat.{◌≤◌}
use lib.ListN.{length}
use mir.Syntax.{w64}
use mir.Facts.{to_z-of_z}
use Rattle.integers.specs.Machine.{fit}
use Rattle.rules.specs.Limits.{max_degree}
use Rattle.rules.proofs.BoundLaws.{row_put, row-adds}
use Rattle.judge.proofs.RowLaws.{row_with}
use Rattle.judge.proofs.bound.put_entry.Goals as goal

pub returns : goal.returns
returns c =
    let entry = c.args.entry in
    let members = c.members-members in
    let price = c.entry_price in (
      row_with entry.multiplier entry.mask members.ensures.0
          (row_put members.result.now entry.multiplier entry.mask c.put_on.ensures (to_z-of_z (fit w64 price.result price.type_inv) ∙ price.ensures)),
      row-adds _ _ _ (subst (λ l. length l ≤ max_degree) members.ensures.0 members.ensures.1) c.requires.0.multiplier,
    )
