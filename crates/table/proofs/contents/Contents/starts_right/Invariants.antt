-- `starts_right` meets its contract: the starts from j on decide, `at` being what the next one must be, and E where none is left. Assumes nothing.
use mathlib.Core.Path.{◌≡◌}
use Prim.Native.Nat.{◌+◌, ◌*◌, ◌≤◌}
use Rattle.rules.specs.CodeFile.{starts_right, total_count}
use Rattle.table.specs.Entries.{entries_of}
use Rattle.table.proofs.ContentsLaws.{contents_from}
use Rattle.table.proofs.contents.Contents.starts_right.Given as goal

abbrev pub invariant-loop-j : goal.invariant-loop-j
invariant-loop-j l =
    (l.at ≤ 65535 * l.j) × (l.at + total_count (contents_from l.self.code.now l.self.checks l.j) ≡ total_count (entries_of l.self))
    × (starts_right 0 (entries_of l.self) ≡ starts_right l.at (contents_from l.self.code.now l.self.checks l.j))
