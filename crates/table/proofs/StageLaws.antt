-- The code file's answer in the code's own numbers: n, m, E and where the bodies begin, as they were read. Assumes nothing.
use mathlib.Core.Path.{◌≡◌, refl, sym, ◌∙◌, ap, ap₂}
use mathlib.Core.Bool.{true, false, ◌&&◌}
use mathlib.Core.List.{List, [], ◌∷◌}
use Prim.Native.Nat.{ℕ, ◌≤◌, ◌<◌}
use lib.Dec.{leb}
use lib.IntN.{pos}
use lib.ListN.{length}
use borrow.Author.Tests.{leb-true, le-leb, lt-leb}
use Rattle.rules.specs.Limits.{max_bits, max_checks, max_edges, contents_end}
use Rattle.rules.specs.Refusal.{must, gives, reply_of, header_short, size_range, length_wrong}
use Rattle.rules.specs.Bytes.{u16_at}
use Rattle.rules.specs.Table.{edges, degree_of}
use Rattle.rules.specs.CodeFile.{Content, in_range, contents, starts_right, total_count, numbers_at, bits_right, table_at, file_of, code_file, table_values, code_file_reply}
use Rattle.table.specs.Stages.{header_stage, contents_stage}
use Rattle.table.proofs.AnswerLaws.{and-fails, and-holds, must-fails, must-holds}
use Rattle.rules.proofs.Basics.{and_both}
use Rattle.rules.proofs.AnswerLaws.{range-both}
use Rattle.rules.proofs.FileLaws.{bodies-length, edges-bodies, edges-length}

-- ---- what the tests say
pub sizes-most : (n m : ℕ) → in_range 1 max_bits n && in_range 1 max_checks m ≡ true → (n ≤ max_bits) × (m ≤ max_checks)
sizes-most n m h =
    let p = and_both (in_range 1 max_bits n) (in_range 1 max_checks m) h in
    ((range-both 1 max_bits n p.0).1, (range-both 1 max_checks m p.1).1)

pub starts-few : (es : List Content) → starts_right 0 es && leb (total_count es) max_edges ≡ true → total_count es ≤ max_edges
starts-few es h = leb-true (total_count es) max_edges (and_both (starts_right 0 es) (leb (total_count es) max_edges) h).1

-- ---- the answer
pub first-stage : (file : List ℕ) (n m : ℕ) → n ≡ u16_at file 0 → m ≡ u16_at file 2 → code_file_reply file ≡ reply_of table_values (header_stage file n m)
unfolding code_file_reply code_file file_of
first-stage file n m hn hm = ap₂ (λ x y. reply_of table_values (file_of file x y)) (sym hn) (sym hm)

module _ (file : List ℕ) where
  pub code-short : length file < 4 → code_file_reply file ≡ record { number = header_short; values = [] }
  code-short h = first-stage file _ _ refl refl ∙ must-fails table_values _ header_short _ (lt-leb 4 (length file) h)

  -- n and m are read
  module _ (long : 4 ≤ length file) (n m : ℕ) (hn : n ≡ u16_at file 0) (hm : m ≡ u16_at file 2) where
    sizes-read : code_file_reply file
        ≡ reply_of table_values (must (in_range 1 max_bits n && in_range 1 max_checks m) size_range (must (leb (contents_end m) (length file)) length_wrong (contents_stage file n m)))
    sizes-read = first-stage file n m hn hm ∙ must-holds table_values _ header_short _ (le-leb 4 (length file) long)

    pub bits-out : in_range 1 max_bits n ≡ false → code_file_reply file ≡ record { number = size_range; values = [] }
    bits-out h = sizes-read ∙ must-fails table_values _ size_range _ (and-fails (in_range 1 max_bits n) (in_range 1 max_checks m) h)

    module _ (bits : in_range 1 max_bits n ≡ true) where
      pub checks-out : in_range 1 max_checks m ≡ false → code_file_reply file ≡ record { number = size_range; values = [] }
      checks-out h = sizes-read ∙ must-fails table_values _ size_range _ (and-holds (in_range 1 max_bits n) (in_range 1 max_checks m) bits ∙ h)

      module _ (checks : in_range 1 max_checks m ≡ true) where
        length-stage : code_file_reply file ≡ reply_of table_values (must (leb (contents_end m) (length file)) length_wrong (contents_stage file n m))
        length-stage = sizes-read ∙ must-holds table_values _ size_range _ (and-holds (in_range 1 max_bits n) (in_range 1 max_checks m) bits ∙ checks)

        pub contents-out : length file < contents_end m → code_file_reply file ≡ record { number = length_wrong; values = [] }
        contents-out h = length-stage ∙ must-fails table_values _ length_wrong _ (lt-leb (contents_end m) (length file) h)

        pub contents-in : contents_end m ≤ length file → code_file_reply file ≡ reply_of table_values (contents_stage file n m)
        contents-in h = length-stage ∙ must-holds table_values _ length_wrong _ (le-leb (contents_end m) (length file) h)

pub ruleset check_steps = (code-short, bits-out, checks-out, contents-out, contents-in, range-both)

module _ (file : List ℕ) (n m e : ℕ) (he : e ≡ total_count (contents file 0 m)) where
  -- the bits' degrees, counted over the bodies in one piece
  pub bits-edges : (a : ℕ) → a ≡ contents_end m
      → bits_right (λ i. degree_of i (edges (table_at file n m).checks)) 0 n ≡ bits_right (λ i. degree_of i (numbers_at file a e)) 0 n
  bits-edges a ha =
      ap (λ ms. bits_right (λ i. degree_of i ms) 0 n) (edges-bodies file (contents_end m) (contents file 0 m) ∙ ap₂ (numbers_at file) (sym ha) (sym he))

  pub table-reply : record { number = 0; values = pos n ∷ pos m ∷ pos e ∷ [] } ≡ reply_of table_values (gives (table_at file n m))
  unfolding reply_of
  table-reply =
      ap₂ (λ x y. record { number = 0; values = pos n ∷ pos x ∷ pos y ∷ [] })
      (sym (bodies-length file (contents_end m) m)) (he ∙ sym (edges-length file (contents_end m) (contents file 0 m)))

pub ruleset bodies_steps = (must-fails, must-holds, bits-edges, table-reply)
