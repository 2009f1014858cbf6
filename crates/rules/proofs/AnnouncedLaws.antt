-- The code file on standard input: reading on to what is announced, three times, reads exactly the file, and a file that ends before its bodies is
-- refused alike whatever follows. Assumes nothing.
use mathlib.Core.Path.{◌≡◌, refl, sym, ◌∙◌, ap, ap₂}
use mathlib.Core.Bool.{Bool, true, false, cond, ◌&&◌, ◌||◌}
use mathlib.Core.List.{List, [], ◌∷◌, ◌++◌}
use Prim.Native.Nat.{ℕ, zero, suc, ◌+◌, ◌*◌, ◌≤◌, ◌<◌}
use native.Mathlib.Omega.{arith}
use lib.Dec.{leb, ltb}
use borrow.Author.Tests.{lt-ltb, le-ltb, le-leb, lt-leb, ltb-false, leb-true, eqb-true}
use lib.ListN.{length, get_or, take, length-append, length-take, get_or-append}
use lib.Seq.{get_or-take, take_at}
use Rattle.rules.specs.Limits.{max_bits, max_checks, max_edges, contents_end, file_length}
use Rattle.rules.specs.Refusal.{Answer, refused, gives, must, header_short, size_range, count_range, start_wrong, length_wrong}
use Rattle.rules.specs.Bytes.{u16_at}
use Rattle.rules.specs.Table.{Table, checks_of}
use Rattle.rules.specs.CodeFile.{Content, in_range, content_at, contents, counts_right, starts_right, total_count, file_of, code_file}
use Rattle.rules.specs.Report.{announced_by, announced, file_in}
use Rattle.rules.proofs.Basics.{and_both}
use Rattle.rules.proofs.AnswerLaws.{range-both, must-true, must-false}
use Rattle.rules.proofs.FileLaws.{bodies-length}
use Rattle.rules.proofs.Tables.{passed}

-- ---- bytes and contents that are the same
-- the same first n bytes
Same : ℕ → List ℕ → List ℕ → Type 0
Same n bs cs = (a : ℕ) → a < n → get_or bs a 0 ≡ get_or cs a 0

u16-same : (n : ℕ) (bs cs : List ℕ) (a : ℕ) → Same n bs cs → a + 1 < n → u16_at bs a ≡ u16_at cs a
unfolding u16_at Same
u16-same n bs cs a s h = ap₂ (λ x y. x + 256 * y) (s a (omega arith)) (s (a + 1) h)

-- the contents are the same as far as these bytes go
contents-same : (n : ℕ) (bs cs : List ℕ) (j k : ℕ) → Same n bs cs → contents_end (j + k) ≤ n → contents bs j k ≡ contents cs j k
unfolding contents
contents-same n bs cs j zero s h = refl
contents-same n bs cs j (suc k) s h = ap₂ ◌∷◌ here (contents-same n bs cs (j + 1) k s (past j k n h))
  where
    inside : (j k n b : ℕ) → contents_end (j + suc k) ≤ n → b ≤ 6 → b + 4 * j + 1 < n
    inside j k n b h e = omega arith

    past : (j k n : ℕ) → contents_end (j + suc k) ≤ n → contents_end (j + 1 + k) ≤ n
    past j k n h = omega arith

    here : content_at bs j ≡ content_at cs j
    here = ap₂ (λ x y. record { start = x; count = y }) (u16-same n bs cs (4 + 4 * j) s (inside j k n 4 h (omega arith))) (u16-same n bs cs (6 + 4 * j) s (inside j k n 6 h (omega arith)))

-- ---- the four cases of what is announced
by-head : (k m e : ℕ) → 4 ≤ k → m ≤ max_checks → k < contents_end m → announced_by k m e ≡ contents_end m
by-head k m e h l c = simp (le-ltb k 4 h, le-ltb max_checks m l, lt-ltb k (contents_end m) c)

by-contents : (k m e : ℕ) → m ≤ max_checks → contents_end m ≤ k → e ≤ max_edges → announced_by k m e ≡ file_length m e
by-contents k m e l c f =
    let h : 4 ≤ k = omega arith in
    simp (le-ltb k 4 h, le-ltb max_checks m l, le-ltb k (contents_end m) c, le-ltb max_edges e f)

-- the longest code file is the most
pub announced-most : (bs : List ℕ) → announced bs ≤ file_length max_checks max_edges
unfolding announced
announced-most bs = go (ltb (length bs) 4) (ltb max_checks m) refl (ltb (length bs) (contents_end m)) (ltb max_edges e) refl
  where
    m : ℕ
    m = u16_at bs 2

    e : ℕ
    e = total_count (contents bs 0 (u16_at bs 2))

    go : (a b : Bool) → ltb max_checks m ≡ b → (c d : Bool) → ltb max_edges e ≡ d → cond (a || b) 4 (cond (c || d) (contents_end m) (file_length m e)) ≤ file_length max_checks max_edges
    go true b p c d q = omega arith
    go false true p c d q = omega arith
    go false false p true d q = omega (arith, ltb-false max_checks m p)
    go false false p false true q = omega (arith, ltb-false max_checks m p)
    go false false p false false q = omega (arith, ltb-false max_checks m p, ltb-false max_edges e q)

-- ---- an accepted file, with anything behind it
record Told (f : List ℕ) (t : Table) : Type 0 where
  few : u16_at f 2 ≤ max_checks
  some : 1 ≤ u16_at f 2
  edges : total_count (contents f 0 (u16_at f 2)) ≤ max_edges
  size : length f ≡ file_length (u16_at f 2) (total_count (contents f 0 (u16_at f 2)))
  checks : u16_at f 2 ≡ checks_of t

told : (f : List ℕ) (t : Table) → code_file f ≡ gives t → Told f t
told f t is_file =
    let p = passed f t is_file in
    let es = contents f 0 (u16_at f 2) in
    let range = range-both 1 max_checks (u16_at f 2) (and_both (in_range 1 max_bits (u16_at f 0)) (in_range 1 max_checks (u16_at f 2)) p.0.ranges).1 in
    record {
      few = range.1;
      some = range.0;
      edges = leb-true (total_count es) max_edges (and_both (starts_right 0 es) (leb (total_count es) max_edges) p.0.starts).1;
      size = eqb-true (length f) (file_length (u16_at f 2) (total_count es)) p.0.size;
      checks = sym (ap checks_of (sym p.1) ∙ bodies-length f (contents_end (u16_at f 2)) (u16_at f 2));
    }

-- the first four bytes tell m, and the contents tell E
from-head : (f : List ℕ) (t : Table) → Told f t → (bs : List ℕ) → Same 4 bs f → length bs ≡ 4 → announced bs ≡ contents_end (u16_at f 2)
unfolding announced
from-head f t h bs s e =
    ap (λ x. announced_by (length bs) x (total_count (contents bs 0 x))) (u16-same 4 bs f 2 s (omega arith))
    ∙ by-head (length bs) (u16_at f 2) (total_count (contents bs 0 (u16_at f 2))) (omega arith) h.few (omega (arith, h.some))

from-contents : (f : List ℕ) (t : Table) → Told f t → (n : ℕ) (bs : List ℕ) → Same n bs f → contents_end (u16_at f 2) ≤ n → n ≤ length bs → announced bs ≡ length f
unfolding announced
from-contents f t h n bs s k l =
    let m = u16_at f 2 in
    ap (λ x. announced_by (length bs) x (total_count (contents bs 0 x))) (u16-same n bs f 2 s (omega (arith, h.some)))
    ∙ ap (λ es. announced_by (length bs) m (total_count es)) (contents-same n bs f 0 m s (omega arith))
    ∙ by-contents (length bs) m (total_count (contents f 0 m)) h.few (omega arith) h.edges
    ∙ sym h.size

module _ (f rest : List ℕ) (t : Table) (is_file : code_file f ≡ gives t) where
  same-part : (n : ℕ) → n ≤ length f → Same n (take n (f ++ rest)) f
  unfolding Same
  same-part n k a h = get_or-take n (f ++ rest) a 0 h ∙ get_or-append f rest 0 a (omega arith)

  part_length : (n : ℕ) → n ≤ length f → length (take n (f ++ rest)) ≡ n
  part_length n k = omega (arith, length-take n (f ++ rest), length-append f rest)

  pub announced-file : announced (f ++ rest) ≡ length f
  unfolding Same
  announced-file =
      let h = told f t is_file in
      from-contents f t h (length f) (f ++ rest) (λ a k. get_or-append f rest 0 a k) (omega (arith, h.size)) (omega (arith, length-append f rest))

  pub announced-head : announced (take 4 (f ++ rest)) ≡ contents_end (checks_of t)
  announced-head =
      let h = told f t is_file in
      let k : 4 ≤ length f = omega (arith, h.size) in
      from-head f t h (take 4 (f ++ rest)) (same-part 4 k) (part_length 4 k) ∙ ap contents_end h.checks

  pub announced-contents : announced (take (contents_end (checks_of t)) (f ++ rest)) ≡ length f
  announced-contents =
      let h = told f t is_file in
      let n = contents_end (checks_of t) in
      let k : n ≤ length f = omega (arith, h.size, h.checks) in
      from-contents f t h n (take n (f ++ rest)) (same-part n k) (omega (arith, h.checks)) (omega (arith, part_length n k))

  none_read : announced [] ≡ 4
  unfolding announced u16_at contents total_count
  none_read = refl

  -- "The code file is as long as its contents say"
  pub file-in : file_in (f ++ rest) ≡ f
  file-in =
      let at : ℕ → List ℕ = λ n. take n (f ++ rest) in
      ap (λ n. at (announced (at (announced (at n))))) none_read
      ∙ ap (λ n. at (announced (at n))) announced-head
      ∙ ap at announced-contents
      ∙ take_at f rest (length f) refl

-- ---- a file that ends before its bodies is refused alike, whatever follows
and_no : (a b : Bool) → b ≡ false → a && b ≡ false
and_no true b e = e
and_no false b e = refl

-- n and m, and the contents, decide
abbrev early : ℕ → ℕ → List Content → Answer Table
early n m es = must (in_range 1 max_bits n && in_range 1 max_checks m) size_range (must (counts_right es) count_range (refused start_wrong))

file-checks : (f : List ℕ) (n m : ℕ) → 4 ≤ length f → max_checks < m → file_of f n m ≡ refused size_range
unfolding file_of in_range
file-checks f n m h k =
    must-true (leb 4 (length f)) header_short _ (le-leb 4 (length f) h)
    ∙ must-false (in_range 1 max_bits n && in_range 1 max_checks m) size_range _
    (and_no (in_range 1 max_bits n) (in_range 1 max_checks m) (and_no (leb 1 m) (leb m max_checks) (lt-leb m max_checks k)))

file-edges : (f : List ℕ) (n m : ℕ) → contents_end m ≤ length f → max_edges < total_count (contents f 0 m) → file_of f n m ≡ early n m (contents f 0 m)
unfolding file_of
file-edges f n m h k =
    let es = contents f 0 m in
    must-true (leb 4 (length f)) header_short _ (le-leb 4 (length f) (omega arith))
    ∙ ap (must (in_range 1 max_bits n && in_range 1 max_checks m) size_range)
    (must-true (leb (contents_end m) (length f)) length_wrong _ (le-leb (contents_end m) (length f) h)
    ∙ ap (must (counts_right es) count_range)
    (must-false (starts_right 0 es && leb (total_count es) max_edges) start_wrong _ (and_no (starts_right 0 es) (leb (total_count es) max_edges) (lt-leb (total_count es) max_edges k))))

module _ (bs rest : List ℕ) where
  same-front : Same (length bs) (bs ++ rest) bs
  unfolding Same
  same-front a h = get_or-append bs rest 0 a h

  front : (a : ℕ) → a + 1 < length bs → u16_at (bs ++ rest) a ≡ u16_at bs a
  front a h = u16-same (length bs) (bs ++ rest) bs a same-front h

  pub many-checks : 4 ≤ length bs → max_checks < u16_at bs 2 → code_file (bs ++ rest) ≡ refused size_range
  unfolding code_file
  many-checks h k = file-checks (bs ++ rest) (u16_at (bs ++ rest) 0) (u16_at (bs ++ rest) 2) (omega (arith, length-append bs rest)) (omega (arith, front 2 (omega arith)))

  pub many-edges : contents_end (u16_at bs 2) ≤ length bs → max_edges < total_count (contents bs 0 (u16_at bs 2)) → code_file (bs ++ rest) ≡ code_file bs
  unfolding code_file
  many-edges h k =
      let n = u16_at bs 0 in
      let m = u16_at bs 2 in
      let es : contents (bs ++ rest) 0 m ≡ contents bs 0 m = contents-same (length bs) (bs ++ rest) bs 0 m same-front (omega arith) in
      ap₂ (file_of (bs ++ rest)) (front 0 (omega arith)) (front 2 (omega arith))
      ∙ file-edges (bs ++ rest) n m (omega (arith, length-append bs rest)) (omega (arith, ap total_count es))
      ∙ ap (early n m) es
      ∙ sym (file-edges bs n m h k)
