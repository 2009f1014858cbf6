-- `quotient_of` meets its contract. Assumes nothing.
use mathlib.Core.Path.{sym, ◌∙◌, ap}
use Rattle.rules.specs.Round.{divided}
use Rattle.rules.proofs.DividedLaws.{divided-none}
use Rattle.spin.proofs.quotient_of.Goals as goal

pub returns-then-degree-eq0 : goal.returns-then-degree-eq0
returns-then-degree-eq0 c = sym (ap (divided c.args.total) c.if-degree-eq0.true ∙ divided-none c.args.total)
