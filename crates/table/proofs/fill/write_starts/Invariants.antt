-- `write_starts` meets its contract: what is written, the starts from j on and what is kept make the slice. Assumes nothing.
use mathlib.Core.Path.{◌≡◌}
use mathlib.Core.List.{◌++◌}
use Prim.Native.Nat.{◌+◌}
use lib.ListN.{take}
use Rattle.rules.specs.CodeFile.{total_count}
use Rattle.table.specs.Entries.{entries_of, bodies_of}
use Rattle.table.specs.Starts.{starts_of}
use Rattle.table.proofs.ContentsLaws.{contents_from}
use Rattle.table.proofs.FillLaws.{starts_left}
use Rattle.table.proofs.fill.write_starts.Given as goal

abbrev pub invariant-loop-j : goal.invariant-loop-j
invariant-loop-j l =
    (l.at + total_count (contents_from l.entries.code.now l.entries.checks l.j) ≡ total_count (entries_of l.entries))
    × (take l.j l.start-items ++ starts_left l.entries.code.now l.entries.checks l.j l.at ≡ starts_of 0 (bodies_of l.entries))
