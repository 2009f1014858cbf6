-- `u32_at` meets its contract. Assumes nothing.
use mathlib.Core.Path.{◌∙◌}
use Rattle.rules.proofs.ByteLaws.{u32-bytes}
use Rattle.judge.proofs.numbers.u32_at.Goals as goal

pub returns : goal.returns
returns c = c.u32_of.ensures ∙ u32-bytes _ _
