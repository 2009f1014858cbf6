-- What holds of the table of an accepted code file (document 01, "Code file"). Assumes nothing.
use mathlib.Core.Path.{◌≡◌, refl, sym, subst}
use mathlib.Core.Bool.{Bool, true, false, ◌&&◌}
use mathlib.Core.List.{List, [], ◌∷◌}
use Prim.Native.Nat.{ℕ, zero, suc, ◌+◌, ◌*◌, ◌≤◌, ◌<◌}
use native.Mathlib.Omega.{arith}
use native.Mathlib.Nat.{le_of_suc-le-suc, not-suc-le-zero}
use lib.Dec.{leb, ltb, eqb}
use lib.ListN.{length, get_or}
use borrow.Author.Tests.{ltb-true, leb-true, eqb-true, eqb-false}
use Rattle.integers.specs.Count.{none_left, after_first, before-end}
use Rattle.rules.specs.Limits.{max_bits, max_checks, max_degree, max_edges, max_bit_degree, contents_end, file_length}
use Rattle.rules.specs.Refusal.{gives, header_short, size_range, count_range, start_wrong, length_wrong, member_wrong, bit_degree}
use Rattle.rules.specs.Bytes.{u16_at}
use Rattle.rules.specs.Table.{Table, edges, degree_of}
use Rattle.rules.specs.CodeFile.{Content, in_range, contents, counts_right, starts_right, total_count, bodies, ascends, members_right, bits_right, table_at, file_of, code_file}
use Rattle.rules.specs.Sound.{Below, AllBelow, Ascending, AllAscending, Degrees, Sound}
use Rattle.rules.proofs.Basics.{and_both}
use Rattle.rules.proofs.AnswerLaws.{gives-inj, must-gives, range-both}
use Rattle.rules.proofs.FileLaws.{numbers-length, bodies-length, edges-length}

pub degree-at : (cs : List (List ℕ)) (j : ℕ) → j < length cs → Degrees cs → length (get_or cs j []) ≤ max_degree
degree-at [] j h d = absurd (not-suc-le-zero h)
degree-at (ms ∷ cs) zero h d = d.0
degree-at (ms ∷ cs) (suc j) h d = degree-at cs j (le_of_suc-le-suc h) d.1

-- ---- every test of an accepted file
pub record Passed (file : List ℕ) (n m : ℕ) : Type 0 where
  pub ranges : in_range 1 max_bits n && in_range 1 max_checks m ≡ true
  pub counts : counts_right (contents file 0 m) ≡ true
  pub starts : starts_right 0 (contents file 0 m) && leb (total_count (contents file 0 m)) max_edges ≡ true
  pub size : eqb (length file) (file_length m (total_count (contents file 0 m))) ≡ true
  pub members : members_right n (table_at file n m).checks ≡ true
  pub standing : bits_right (λ i. degree_of i (edges (table_at file n m).checks)) 0 n ≡ true

file-passes : (file : List ℕ) (n m : ℕ) (t : Table) → file_of file n m ≡ gives t → Passed file n m × (table_at file n m ≡ t)
unfolding file_of
file-passes file n m t h =
    let p1 = must-gives (leb 4 (length file)) header_short _ t h in
    let p2 = must-gives (in_range 1 max_bits n && in_range 1 max_checks m) size_range _ t p1.1 in
    let p3 = must-gives (leb (contents_end m) (length file)) length_wrong _ t p2.1 in
    let p4 = must-gives (counts_right (contents file 0 m)) count_range _ t p3.1 in
    let p5 = must-gives (starts_right 0 (contents file 0 m) && leb (total_count (contents file 0 m)) max_edges) start_wrong _ t p4.1 in
    let p6 = must-gives (eqb (length file) (file_length m (total_count (contents file 0 m)))) length_wrong _ t p5.1 in
    let p7 = must-gives (members_right n (table_at file n m).checks) member_wrong _ t p6.1 in
    let p8 = must-gives (bits_right (λ i. degree_of i (edges (table_at file n m).checks)) 0 n) bit_degree (gives (table_at file n m)) t p7.1 in (
      record { ranges = p2.0; counts = p4.0; starts = p5.0; size = p6.0; members = p7.0; standing = p8.0 },
      gives-inj (table_at file n m) t p8.1,
    )

pub passed : (file : List ℕ) (t : Table) → code_file file ≡ gives t → Passed file (u16_at file 0) (u16_at file 2) × (table_at file (u16_at file 0) (u16_at file 2) ≡ t)
unfolding code_file
passed file t h = file-passes file (u16_at file 0) (u16_at file 2) t h

-- ---- what the tests say
ascends-right : (n least : ℕ) (ms : List ℕ) → ascends n least ms ≡ true → Below n ms × Ascending least ms
unfolding ascends
ascends-right n least [] h = (tt, tt)
ascends-right n least (x ∷ xs) h =
    let p = and_both (leb least x && ltb x n) (ascends n (x + 1) xs) h in
    let q = and_both (leb least x) (ltb x n) p.0 in
    let r = ascends-right n (x + 1) xs p.1 in
    ((ltb-true x n q.1, r.0), (leb-true least x q.0, r.1))

members-right : (n : ℕ) (cs : List (List ℕ)) → members_right n cs ≡ true → AllBelow n cs × AllAscending cs
unfolding members_right
members-right n [] h = (tt, tt)
members-right n (ms ∷ cs) h =
    let p = and_both (ascends n 0 ms) (members_right n cs) h in
    let q = ascends-right n 0 ms p.0 in
    let r = members-right n cs p.1 in
    ((q.0, r.0), (q.1, r.1))

counts-degrees : (file : List ℕ) (a : ℕ) (es : List Content) → counts_right es ≡ true → Degrees (bodies file a es)
unfolding counts_right bodies
counts-degrees file a [] h = tt
counts-degrees file a (e ∷ es) h =
    let p = and_both (leb e.count max_degree) (counts_right es) h in
    (subst (λ k. k ≤ max_degree) (sym (numbers-length file a e.count)) (leb-true e.count max_degree p.0), counts-degrees file (a + 2 * e.count) es p.1)

pub bits-at : (f : ℕ → ℕ) (i k : ℕ) → bits_right f i k ≡ true → (j : ℕ) → i ≤ j → j < i + k → (1 ≤ f j) × (f j ≤ max_bit_degree)
unfolding bits_right
bits-at f i zero h j p q = absurd (none_left i j p q)
bits-at f i (suc k) h j p q =
    let r = and_both (in_range 1 max_bit_degree (f i)) (bits_right f (i + 1) k) h in
    go (eqb i j) refl (range-both 1 max_bit_degree (f i) r.0) (λ s. bits-at f (i + 1) k r.1 j s (before-end i j k q))
  where
    go : (b : Bool) → eqb i j ≡ b → (1 ≤ f i) × (f i ≤ max_bit_degree) → (i + 1 ≤ j → (1 ≤ f j) × (f j ≤ max_bit_degree)) → (1 ≤ f j) × (f j ≤ max_bit_degree)
    go true e here rest = subst (λ (x : ℕ). (1 ≤ f x) × (f x ≤ max_bit_degree)) (eqb-true i j e) here
    go false e here rest = rest (after_first i j p (eqb-false i j e))

-- ---- the law
table-sound : (file : List ℕ) (n m : ℕ) → Passed file n m → Sound (table_at file n m)
table-sound file n m p =
    let es = contents file 0 m in
    let ranges = and_both (in_range 1 max_bits n) (in_range 1 max_checks m) p.ranges in
    let checks = range-both 1 max_checks m ranges.1 in
    let many : length (bodies file (contents_end m) es) ≡ m = bodies-length file (contents_end m) m in
    let all : length (edges (bodies file (contents_end m) es)) ≡ total_count es = edges-length file (contents_end m) es in
    let e : total_count es ≤ max_edges = leb-true (total_count es) max_edges (and_both (starts_right 0 es) (leb (total_count es) max_edges) p.starts).1 in
    let members = members-right n (bodies file (contents_end m) es) p.members in
    record {
      bits = range-both 1 max_bits n ranges.0;
      checks = (omega arith, omega arith);
      below = members.0;
      ascending = members.1;
      degrees = counts-degrees file (contents_end m) es p.counts;
      few = omega arith;
      standing = λ i h. bits-at (λ k. degree_of k (edges (bodies file (contents_end m) es))) 0 n p.standing i (omega arith) (omega arith);
    }

pub file-sound : (file : List ℕ) (t : Table) → code_file file ≡ gives t → Sound t
file-sound file t h =
    let p = passed file t h in
    subst Sound p.1 (table-sound file (u16_at file 0) (u16_at file 2) p.0)
