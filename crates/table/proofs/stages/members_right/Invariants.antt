-- `members_right` meets its contract: the bodies from check j on decide, and reach to the end of the file. Assumes nothing.
use mathlib.Core.Path.{◌≡◌}
use Prim.Native.Nat.{◌+◌, ◌*◌}
use lib.ListN.{length}
use Rattle.rules.specs.CodeFile.{total_count, members_right}
use Rattle.table.specs.Entries.{bodies_of}
use Rattle.table.proofs.ContentsLaws.{contents_from}
use Rattle.table.proofs.BodiesLaws.{bodies_from}
use Rattle.table.proofs.stages.members_right.Given as goal

abbrev pub invariant-loop-j : goal.invariant-loop-j
invariant-loop-j l =
    (l.at + 2 * total_count (contents_from l.entries.code.now l.entries.checks l.j) ≡ length l.entries.code.now)
    × (members_right l.n (bodies_of l.entries) ≡ members_right l.n (bodies_from l.entries.code.now l.entries.checks l.j l.at))
