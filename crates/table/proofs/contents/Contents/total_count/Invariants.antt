-- `total_count` meets its contract: what is added and the counts from j on make the sum. Assumes nothing.
use mathlib.Core.Path.{◌≡◌}
use Prim.Native.Nat.{◌+◌, ◌*◌, ◌≤◌}
use Rattle.rules.specs.CodeFile.{total_count}
use Rattle.table.specs.Entries.{entries_of}
use Rattle.table.proofs.ContentsLaws.{contents_from}
use Rattle.table.proofs.contents.Contents.total_count.Given as goal

abbrev pub invariant-loop-j : goal.invariant-loop-j
invariant-loop-j l = (l.e ≤ 65535 * l.j) × (total_count (entries_of l.self) ≡ l.e + total_count (contents_from l.self.code.now l.self.checks l.j))
