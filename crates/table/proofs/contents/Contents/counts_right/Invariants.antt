-- `counts_right` meets its contract: the counts from j on decide. Assumes nothing.
use mathlib.Core.Path.{◌≡◌}
use Rattle.rules.specs.CodeFile.{counts_right}
use Rattle.table.specs.Entries.{entries_of}
use Rattle.table.proofs.ContentsLaws.{contents_from}
use Rattle.table.proofs.contents.Contents.counts_right.Given as goal

abbrev pub invariant-loop-j : goal.invariant-loop-j
invariant-loop-j l = (counts_right (entries_of l.self) ≡ counts_right (contents_from l.self.code.now l.self.checks l.j))
