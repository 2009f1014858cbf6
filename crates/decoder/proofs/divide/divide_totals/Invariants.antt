-- `divide_totals` meets its contract: the totals of the first k blocks are divided, and the others still as they came. Assumes nothing.
use mathlib.Core.Path.{◌≡◌}
use Prim.Native.Nat.{◌*◌, min}
use lib.ListN.{length}
use Rattle.rules.proofs.FillLaws.{fill}
use Rattle.decoder.specs.Spins.{quotients_over}
use Rattle.decoder.proofs.divide.divide_totals.Given as goal

abbrev pub invariant-loop-k : goal.invariant-loop-k
invariant-loop-k l =
    let ts = l.initial.totals in
    l.totals ≡ fill (min (length ts) (16 * l.k)) (quotients_over l.degrees ts) ts
