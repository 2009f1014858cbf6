-- The bytes of a code file: its parts one after the other, and the whole written or refused. Assumes nothing.
use mathlib.Core.Path.{◌≡◌, refl, sym, ◌∙◌, ap}
use mathlib.Core.List.{List, [], ◌∷◌, ◌++◌}
use Prim.Native.Nat.{ℕ, ◌+◌, ◌≤◌}
use native.Mathlib.Omega.{arith}
use lib.ListN.{length}
use lib.Seq.{sets}
use Rattle.std.proofs.lemmas.Bool.Decides.{nat_tests}
use Rattle.rules.specs.Limits.{max_checks, max_edges, contents_end, file_length}
use Rattle.rules.specs.Refusal.{gives, must}
use Rattle.rules.specs.Bytes.{le16}
use Rattle.rules.specs.Buffers.{over}
use Rattle.rules.specs.FileBytes.{bytes16, content_numbers, file_from}
use Rattle.rules.proofs.FileBytesLaws.{bytes-length, content-length, file-length}
use Rattle.rules.proofs.StoreLaws.{sets-next, sets_over}
use Rattle.code_writer.specs.Written.{file_written}

-- ---- the parts, written one after the other
bytes-append : (xs ys : List ℕ) → bytes16 (xs ++ ys) ≡ bytes16 xs ++ bytes16 ys
bytes-append [] ys = refl
bytes-append (x ∷ xs) ys = ap (λ l. le16 x ++ l) (bytes-append xs ys)

module _ (n : ℕ) (ds ms c : List ℕ) (room : file_length (length ds) (length ms) ≤ length c) where
  module _ (c1 c2 : List ℕ) (e1 : c1 ≡ sets c 0 (le16 n)) (e2 : c2 ≡ sets c1 2 (le16 (length ds))) where
    pub file-all : (c3 c4 : List ℕ) → c3 ≡ sets c2 4 (bytes16 (content_numbers 0 ds)) → c4 ≡ sets c3 (contents_end (length ds)) (bytes16 ms) → c4 ≡ over (file_from n ds ms) c
    file-all c3 c4 e3 e4 =
        let head = le16 n ++ le16 (length ds) in
        let body = bytes16 (content_numbers 0 ds) in
        let whole : (head ++ body) ++ bytes16 ms ≡ file_from n ds ms = ap (λ l. head ++ l) (sym (bytes-append (content_numbers 0 ds) ms)) in
        let two : c2 ≡ sets c 0 head = e2 ∙ sets-next c c1 0 2 (le16 n) (le16 (length ds)) e1 refl in
        let three : c3 ≡ sets c 0 (head ++ body) = e3 ∙ sets-next c c2 0 4 head body two refl in
        let stop : contents_end (length ds) ≡ 0 + length (head ++ body) = omega (arith, bytes-length (content_numbers 0 ds), content-length 0 ds) in
        e4 ∙ sets-next c c3 0 (contents_end (length ds)) (head ++ body) (bytes16 ms) three stop ∙ ap (sets c 0) whole
        ∙ sets_over c (file_from n ds ms) (omega (arith, file-length n ds ms))

-- ---- written
module _ (n : ℕ) (ds ms old : List ℕ) (few : length ds ≤ max_checks) (small : length ms ≤ max_edges) where
  pub whole : file_length (length ds) (length ms) ≤ length old → file_written n ds ms old ≡ record { answer = gives (length (file_from n ds ms)); bytes = over (file_from n ds ms) old }
  unfolding file_written must
  whole h = grind (arith, nat_tests)

-- No proof cites these any more, since the check finds what they say.
pub content-put : (l l1 l2 : List ℕ) (i s d : ℕ) → l1 ≡ sets l i (le16 s) → l2 ≡ sets l1 (i + 2) (le16 d) → l2 ≡ sets l i (bytes16 (s ∷ d ∷ []))
content-put l l1 l2 i s d e1 e2 = e2 ∙ sets-next l l1 i (i + 2) (le16 s) (le16 d) e1 refl
