-- `checks` meets its contract: there is a start more than checks. Assumes nothing.
use mathlib.Core.Path.{ap}
use native.Mathlib.Omega.{arith}
use Rattle.rules.specs.Table.{checks_of}
use Rattle.table.proofs.LayoutLaws.{starts-long}
use Rattle.table.proofs.loaded.Loaded.checks.Goals as goal

pub overflow_sub-result : goal.overflow_sub-result
overflow_sub-result c = omega (arith, starts-long _ _ _ c.self.invariant)

pub returns : goal.returns
returns c = omega (arith, starts-long _ _ _ c.self.invariant, ap checks_of c.self.view_is)
