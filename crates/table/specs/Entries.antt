-- What the code reads of a file through its structs: the contents with the bodies after them, and numbers in a row. Definitions only.
-- Assumes nothing.
use Rattle.std.specs.Prelude.{List, ℕ}
use Rattle.rules.specs.Limits.{contents_end}
use Rattle.rules.specs.CodeFile.{Content, contents, numbers_at, bodies}
use Rattle.table.specs.declared.contents.Contents.{Contents}
use Rattle.table.specs.declared.bodies.Members.{Members}

abbrev pub entries_of : Contents → List Content
entries_of c = contents c.code.now 0 c.checks

abbrev pub bodies_of : Contents → List (List ℕ)
bodies_of c = bodies c.code.now (contents_end c.checks) (entries_of c)

abbrev pub members_of : Members → List ℕ
members_of x = numbers_at x.code.now x.at x.count
