-- `Room::load` meets its contract: there is room for every table. Assumes nothing.
use mathlib.Core.Path.{refl, ◌∙◌}
use native.Mathlib.Omega.{arith}
use Rattle.table.proofs.LayoutLaws.{roomy-whole}
use Rattle.table.proofs.loaded.Room.load.Goals as goal

pub returns : goal.returns
returns c = c.load.ensures ∙ roomy-whole _ _ _ (omega arith) (omega arith) _ refl
