-- `degrees_right` meets its contract: `all` says whether the degrees before bit i are right, and the others decide. Assumes nothing.
use mathlib.Core.Path.{◌≡◌}
use mathlib.Core.Bool.{◌&&◌}
use Prim.Native.Nat.{◌-◌}
use lib.ListN.{get_or}
use Rattle.rules.specs.CodeFile.{bits_right}
use Rattle.table.proofs.degrees.degrees_right.Given as goal

abbrev pub invariant-loop-degree : goal.invariant-loop-degree
invariant-loop-degree l = (bits_right (λ k. get_or l.degrees k 0) 0 l.n ≡ (l.all && bits_right (λ k. get_or l.degrees k 0) l.degree-index (l.n - l.degree-index)))
