-- `common_degree` meets its contract. Assumes nothing.
use Rattle.std.proofs.Common.{rules}
use Rattle.spin.specs.Totals.{common_degree}
use Rattle.spin.proofs.totals.common_degree.Goals as goal

pub returns-in-Some : goal.returns-in-Some
unfolding common_degree
returns-in-Some c = search rules

pub returns-in_default : goal.returns-in_default
unfolding common_degree
returns-in_default c = search rules

pub returns-in_default-2 : goal.returns-in_default-2
unfolding common_degree
returns-in_default-2 c = search rules
