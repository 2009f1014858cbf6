-- `all_are` meets its contract: whether all degrees so far are d. Assumes nothing.
use Rattle.std.proofs.Common.{◌≡◌, take}
use Rattle.spin.specs.Totals.{all_are}
use Rattle.spin.proofs.totals.all_are.Given as goal

abbrev pub invariant-loop-degree : goal.invariant-loop-degree
invariant-loop-degree l = l.all ≡ all_are l.d (take l.degree-index l.degrees)
