-- `scale_frame` meets its contract: the first i numbers are scaled. Assumes nothing.
use Prim.Native.Nat.{ℕ, ◌<◌}
use Rattle.rules.specs.Table.{at}
use Rattle.rules.specs.Scatter.{Scaled}
use Rattle.judge.proofs.bound.scale_frame.Given as goal

abbrev pub invariant-loop-i : goal.invariant-loop-i
invariant-loop-i l = (j : ℕ) → j < l.i → Scaled l.scale l.frame j (at l.reduced j)
