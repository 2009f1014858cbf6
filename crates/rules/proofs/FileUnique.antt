-- An accepted code file is the one that its table has: no two files of bytes are one table. Assumes nothing.
use mathlib.Core.Path.{◌≡◌, refl, sym, ◌∙◌, ap, ap₂, subst}
use mathlib.Core.Bool.{true}
use mathlib.Core.List.{List, [], ◌∷◌, ◌++◌}
use Prim.Native.Nat.{ℕ, zero, suc, ◌+◌, ◌*◌, ◌/◌, ◌%◌, ◌<◌}
use native.Mathlib.Omega.{arith}
use lib.Dec.{leb, eqb}
use lib.ListN.{length, drop}
use lib.Seq.{drop-drop}
use borrow.Author.Tests.{eqb-true}
use Rattle.rules.specs.Limits.{max_edges, contents_end, file_length}
use Rattle.rules.specs.Refusal.{gives}
use Rattle.rules.specs.Bytes.{u16_of, u16_at, le16}
use Rattle.rules.specs.Table.{Table}
use Rattle.rules.specs.CodeFile.{contents, starts_right, total_count, numbers_at, bodies, code_file}
use Rattle.rules.specs.FileBytes.{bytes16, content_numbers, counts, file_bytes}
use Rattle.rules.specs.Sound.{Below}
use Rattle.rules.proofs.Basics.{and_both}
use Rattle.rules.proofs.ByteLaws.{reads16}
use Rattle.rules.proofs.FileLaws.{count_at_lem, next-entry, numbers-length, numbers-append, bodies-length, edges-bodies}
use Rattle.rules.proofs.Tables.{passed}
use Rattle.rules.proofs.FileBytesLaws.{twice, counts-length}

-- ---- bytes are those of the numbers that they make
le16-back : (x y : ℕ) → x < 256 → y < 256 → le16 (u16_of x y) ≡ x ∷ y ∷ []
le16-back x y h k =
    let low : (x + 256 * y) % 256 ≡ x = omega arith in
    let over : (x + 256 * y) / 256 ≡ y = omega arith in
    let small : y % 256 ≡ y = omega arith in
    let high : (x + 256 * y) / 256 % 256 ≡ y = ap (λ z. z % 256) over ∙ small in
    ap₂ (λ a b. a ∷ b ∷ []) low high

uneven : (k : ℕ) → 1 ≡ 2 * suc k → ⊥
uneven k e = omega arith

none : (k : ℕ) → 0 ≡ 2 * suc k → ⊥
none k e = omega arith

halved : (n k : ℕ) → suc (suc n) ≡ 2 * suc k → n ≡ 2 * k
halved n k e = omega arith

empty : (l : List ℕ) → length l ≡ 2 * 0 → l ≡ []
empty [] e = refl
empty (x ∷ l) e = absurd (omega arith)

abbrev Back : List ℕ → ℕ → ℕ → Type 0
Back f a k = Below 256 (drop a f) → length (drop a f) ≡ 2 * k → drop a f ≡ bytes16 (numbers_at f a k)

bytes_back : (f : List ℕ) (a k : ℕ) → Back f a k
unfolding numbers_at u16_at
bytes_back f a zero b e = empty (drop a f) e
bytes_back f a (suc k) b e = go (drop a f) refl b e (bytes_back f (a + 2) k)
  where
    go : (l : List ℕ) → drop a f ≡ l → Below 256 l → length l ≡ 2 * suc k → Back f (a + 2) k → l ≡ bytes16 (u16_at f a ∷ numbers_at f (a + 2) k)
    go [] p b e on = absurd (none k e)
    go (x ∷ []) p b e on = absurd (uneven k e)
    go (x ∷ y ∷ l) p b e on =
        let next : drop (a + 2) f ≡ l = sym (drop-drop 2 a f) ∙ ap (drop 2) p in
        let first : le16 (u16_at f a) ≡ x ∷ y ∷ [] = ap le16 (reads16 f a ∙ ap (λ z. u16_at z 0) p) ∙ le16-back x y b.0 b.1.0 in
        ap₂ (λ h t. h ++ t) (sym first) (sym next ∙ on (subst (Below 256) (sym next) b.1.1) (ap length next ∙ halved (length l) k e))

-- ---- the contents are those of the counts
contents-back : (f : List ℕ) (j k s a : ℕ) → starts_right s (contents f j k) ≡ true → numbers_at f (contents_end j) (2 * k) ≡ content_numbers s (counts (bodies f a (contents f j k)))
unfolding contents starts_right numbers_at bodies
contents-back f j zero s a h = refl
contents-back f j (suc k) s a h =
    let d = u16_at f (6 + 4 * j) in
    let p = and_both (eqb (u16_at f (contents_end j)) s) (starts_right (s + d) (contents f (j + 1) k)) h in
    let long = numbers-length f a d in
    let on = contents-back f (j + 1) k (s + d) (a + 2 * d) p.1 in
    ap (numbers_at f (contents_end j)) (sym (twice k))
    ∙ ap₂ (λ x l. x ∷ l) (eqb-true (u16_at f (contents_end j)) s p.0)
    (ap₂ (λ x l. x ∷ l) (ap (u16_at f) (count_at_lem j) ∙ sym long)
    (ap (λ b. numbers_at f b (2 * k)) (next-entry j) ∙ on ∙ ap (λ n. content_numbers (s + n) (counts (bodies f (a + 2 * d) (contents f (j + 1) k)))) (sym long)))

-- ---- so the file is that of its table
pub file-unique : (f : List ℕ) (t : Table) → Below 256 f → code_file f ≡ gives t → f ≡ file_bytes t
unfolding numbers_at
file-unique f t b h =
    let p = passed f t h in
    let n = u16_at f 0 in
    let m = u16_at f 2 in
    let es = contents f 0 m in
    let e = total_count es in
    let cs = bodies f (contents_end m) es in
    let size = eqb-true (length f) (file_length m e) p.0.size in
    let starts = (and_both (starts_right 0 es) (leb e max_edges) p.0.starts).0 in
    let heads = contents-back f 0 m 0 (contents_end m) starts in
    let tails = ap (λ k. numbers_at f k e) (past m) ∙ sym (edges-bodies f (contents_end m) es) in
    let many : m ≡ length (counts cs) = sym (counts-length cs ∙ bodies-length f (contents_end m) m) in
    bytes_back f 0 (suc (suc (2 * m + e))) b (whole (length f) m e size)
    ∙ ap₂ (λ k l. bytes16 (n ∷ k ∷ l)) many (numbers-append f 4 (2 * m) e ∙ ap₂ ◌++◌ heads tails)
    ∙ ap file_bytes p.1
  where
    past : (m : ℕ) → 4 + 2 * (2 * m) ≡ contents_end m
    past m = omega arith

    whole : (l m e : ℕ) → l ≡ file_length m e → l ≡ 2 * suc (suc (2 * m + e))
    whole l m e h = omega arith
