-- The tests of rules' `file_of`, those from the counts on, and those from the members on: what the code's three stages answer. Definitions only.
-- Assumes nothing.
use Rattle.std.specs.Prelude.{◌&&◌, List, ℕ, leb, eqb, length}
use Rattle.rules.specs.Limits.{max_bits, max_checks, max_edges, contents_end, file_length}
use Rattle.rules.specs.Refusal.{Answer, gives, must, header_short, size_range, count_range, start_wrong, length_wrong, member_wrong, bit_degree}
use Rattle.rules.specs.Table.{Table, edges, degree_of}
use Rattle.rules.specs.CodeFile.{in_range, contents, counts_right, starts_right, total_count, members_right, bits_right, table_at}

abbrev pub bodies_stage : List ℕ → ℕ → ℕ → Answer Table
bodies_stage file n m =
    must (members_right n (table_at file n m).checks) member_wrong
    (must (bits_right (λ i. degree_of i (edges (table_at file n m).checks)) 0 n) bit_degree
    (gives (table_at file n m)))

abbrev pub contents_stage : List ℕ → ℕ → ℕ → Answer Table
contents_stage file n m =
    must (counts_right (contents file 0 m)) count_range
    (must (starts_right 0 (contents file 0 m) && leb (total_count (contents file 0 m)) max_edges) start_wrong
    (must (eqb (length file) (file_length m (total_count (contents file 0 m)))) length_wrong
    (bodies_stage file n m)))

abbrev pub header_stage : List ℕ → ℕ → ℕ → Answer Table
header_stage file n m =
    must (leb 4 (length file)) header_short
    (must (in_range 1 max_bits n && in_range 1 max_checks m) size_range
    (must (leb (contents_end m) (length file)) length_wrong
    (contents_stage file n m)))
