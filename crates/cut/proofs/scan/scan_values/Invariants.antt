-- `scan_values` meets its contract: the pass has the first i values, and their heights lie over the first i places. Assumes nothing.
use mathlib.Core.Path.{◌≡◌}
use lib.ListN.{take}
use Rattle.rules.specs.Buffers.{over}
use Rattle.cut.specs.Scan.{sights, Scanned}
use Rattle.cut.proofs.scan.scan_values.Given as goal

abbrev pub invariant-loop-i : goal.invariant-loop-i
invariant-loop-i l = Scanned (take l.i l.v) l.s × (l.heights ≡ over (sights (take l.i l.v)) l.initial.heights)
