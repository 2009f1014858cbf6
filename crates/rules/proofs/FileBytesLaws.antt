-- The code file of a table within document 01's limits is accepted, and is that table. Assumes nothing.
use mathlib.Core.Path.{◌≡◌, refl, sym, ◌∙◌, ap, ap₂, subst}
use mathlib.Core.Bool.{true, ◌&&◌}
use mathlib.Core.List.{List, [], ◌∷◌, ◌++◌}
use Prim.Native.Nat.{ℕ, zero, suc, ◌+◌, ◌*◌, ◌≤◌, ◌<◌}
use native.Mathlib.Omega.{arith}
use native.Mathlib.Nat.{add-zero, zero-add}
use lib.Dec.{leb, eqb}
use lib.ListN.{length, drop, length-append}
use lib.Seq.{drop-drop}
use Rattle.integers.specs.Count.{one_on}
use borrow.Author.Tests.{lt-ltb, le-leb, eq-eqb}
use Rattle.rules.specs.Limits.{max_bits, max_checks, max_degree, max_edges, max_bit_degree, contents_end, file_length}
use Rattle.rules.specs.Refusal.{gives, header_short, size_range, count_range, start_wrong, length_wrong, member_wrong, bit_degree}
use Rattle.rules.specs.Bytes.{u16_limit, u16_at}
use Rattle.rules.specs.Table.{Table, edges, edges_of, degree_of}
use Rattle.rules.specs.CodeFile.{Content, in_range, content_at, contents, counts_right, starts_right, total_count, numbers_at, bodies, ascends, members_right, bits_right, table_at, file_of, code_file}
use Rattle.rules.specs.FileBytes.{bytes16, content_numbers, counts, file_bytes}
use Rattle.rules.specs.Sound.{Below, AllBelow, Ascending, AllAscending, Degrees, Sound}
use Rattle.rules.proofs.AnswerLaws.{must-true}
use Rattle.rules.proofs.ByteLaws.{back16, reads16}
use Rattle.rules.proofs.FileLaws.{count_at_lem, next-entry, past-none, past_one}
use Rattle.rules.proofs.Duality.{below_more}

-- ---- how long it is
pub twice : (n : ℕ) → suc (suc (2 * n)) ≡ 2 * suc n
twice n = omega arith

pub bytes-length : (xs : List ℕ) → length (bytes16 xs) ≡ 2 * length xs
bytes-length [] = refl
bytes-length (x ∷ xs) = ap (λ n. suc (suc n)) (bytes-length xs) ∙ twice (length xs)

pub content-length : (s : ℕ) (ds : List ℕ) → length (content_numbers s ds) ≡ 2 * length ds
content-length s [] = refl
content-length s (d ∷ ds) = ap (λ n. suc (suc n)) (content-length (s + d) ds) ∙ twice (length ds)

pub counts-length : (cs : List (List ℕ)) → length (counts cs) ≡ length cs
counts-length [] = refl
counts-length (ms ∷ cs) = ap suc (counts-length cs)

pub file-length : (n : ℕ) (ds ms : List ℕ) → length (bytes16 (n ∷ length ds ∷ content_numbers 0 ds ++ ms)) ≡ file_length (length ds) (length ms)
file-length n ds ms = omega (arith, bytes-length (content_numbers 0 ds ++ ms), length-append (content_numbers 0 ds) ms, content-length 0 ds)

-- ---- numbers read where they stand: from byte a on, the file has these
Holds : List ℕ → ℕ → List ℕ → Type 0
Holds f a xs = drop a f ≡ bytes16 xs

module _ (f : List ℕ) (a x : ℕ) (xs : List ℕ) (h : Holds f a (x ∷ xs)) where
  here16 : x < u16_limit → u16_at f a ≡ x
  unfolding Holds u16_at
  here16 k = reads16 f a ∙ ap (λ l. u16_at l 0) h ∙ back16 x k

  next16 : Holds f (a + 2) xs
  unfolding Holds
  next16 = sym (drop-drop 2 a f) ∙ ap (drop 2) h

move : (f : List ℕ) (a b : ℕ) (xs : List ℕ) → a ≡ b → Holds f a xs → Holds f b xs
move f a b xs e h = subst (λ k. Holds f k xs) e h

-- ---- the contents
abbrev contents_of : ℕ → List ℕ → List Content
contents_of s [] = []
contents_of s (d ∷ ds) = record { start = s; count = d } ∷ contents_of (s + d) ds

abbrev total_of : List ℕ → ℕ
total_of [] = 0
total_of (d ∷ ds) = d + total_of ds

-- the contents from entry j on are read, and then the rest
abbrev ContentsRead : List ℕ → ℕ → ℕ → List ℕ → List ℕ → Type 0
ContentsRead f j s ds rest = (contents f j (length ds) ≡ contents_of s ds) × Holds f (contents_end (j + length ds)) rest

contents-read : (f : List ℕ) (j s : ℕ) (ds rest : List ℕ) → Holds f (contents_end j) (content_numbers s ds ++ rest) → s + total_of ds < u16_limit → ContentsRead f j s ds rest
unfolding contents
contents-read f j s [] rest h k = (refl, move f (contents_end j) (contents_end (j + 0)) rest (ap contents_end (sym (add-zero j))) h)
contents-read f j s (d ∷ ds) rest h k =
    let count = next16 f (contents_end j) s (d ∷ content_numbers (s + d) ds ++ rest) h in
    let past = next16 f (contents_end j + 2) d (content_numbers (s + d) ds ++ rest) count in
    let on = contents-read f (j + 1) (s + d) ds rest (move f (contents_end j + 2 + 2) (contents_end (j + 1)) (content_numbers (s + d) ds ++ rest) (next-entry j) past) (later s d (total_of ds) k) in
    let first = here16 f (contents_end j) s (d ∷ content_numbers (s + d) ds ++ rest) h (start s d (total_of ds) k) in
    let second = ap (u16_at f) (sym (count_at_lem j)) ∙ here16 f (contents_end j + 2) d (content_numbers (s + d) ds ++ rest) count (inner s d (total_of ds) k) in
    let entry : content_at f j ≡ record { start = s; count = d } = ap₂ (λ x y. record { start = x; count = y }) first second in
    (ap₂ ◌∷◌ entry on.0, move f (contents_end (j + 1 + length ds)) (contents_end (j + suc (length ds))) rest (ap contents_end (one_on j (length ds))) on.1)
  where
    start : (s d t : ℕ) → s + (d + t) < u16_limit → s < u16_limit
    start s d t h = omega arith

    inner : (s d t : ℕ) → s + (d + t) < u16_limit → d < u16_limit
    inner s d t h = omega arith

    later : (s d t : ℕ) → s + (d + t) < u16_limit → s + d + t < u16_limit
    later s d t h = omega arith

-- ---- the bodies
numbers-read : (f : List ℕ) (a : ℕ) (ms rest : List ℕ) → Holds f a (ms ++ rest) → Below u16_limit ms → (numbers_at f a (length ms) ≡ ms) × Holds f (a + 2 * length ms) rest
unfolding numbers_at
numbers-read f a [] rest h k = (refl, move f a (a + 2 * 0) rest (past-none a) h)
numbers-read f a (x ∷ xs) rest h k =
    let on = numbers-read f (a + 2) xs rest (next16 f a x (xs ++ rest) h) k.1 in
    (ap₂ ◌∷◌ (here16 f a x (xs ++ rest) h k.0) on.0, move f (a + 2 + 2 * length xs) (a + 2 * suc (length xs)) rest (past_one a (length xs)) on.1)

bodies-read : (f : List ℕ) (a s : ℕ) (cs : List (List ℕ)) → Holds f a (edges cs) → AllBelow u16_limit cs → bodies f a (contents_of s (counts cs)) ≡ cs
unfolding bodies
bodies-read f a s [] h k = refl
bodies-read f a s (ms ∷ cs) h k =
    let one = numbers-read f a ms (edges cs) h k.0 in
    ap₂ ◌∷◌ one.0 (bodies-read f (a + 2 * length ms) (s + length ms) cs one.1 k.1)

-- ---- each test of the file is passed
range-pass : (lo hi x : ℕ) → (lo ≤ x) × (x ≤ hi) → in_range lo hi x ≡ true
unfolding in_range
range-pass lo hi x h = ap₂ ◌&&◌ (le-leb lo x h.0) (le-leb x hi h.1)

counts-pass : (s : ℕ) (cs : List (List ℕ)) → Degrees cs → counts_right (contents_of s (counts cs)) ≡ true
unfolding counts_right
counts-pass s [] h = refl
counts-pass s (ms ∷ cs) h = ap₂ ◌&&◌ (le-leb (length ms) max_degree h.0) (counts-pass (s + length ms) cs h.1)

starts-pass : (s : ℕ) (ds : List ℕ) → starts_right s (contents_of s ds) ≡ true
unfolding starts_right
starts-pass s [] = refl
starts-pass s (d ∷ ds) = ap₂ ◌&&◌ (eq-eqb s s refl) (starts-pass (s + d) ds)

total-is : (s : ℕ) (cs : List (List ℕ)) → total_count (contents_of s (counts cs)) ≡ length (edges cs)
unfolding total_count
total-is s [] = refl
total-is s (ms ∷ cs) = ap (λ n. length ms + n) (total-is (s + length ms) cs) ∙ sym (length-append ms (edges cs))

total-of : (cs : List (List ℕ)) → total_of (counts cs) ≡ length (edges cs)
total-of [] = refl
total-of (ms ∷ cs) = ap (λ n. length ms + n) (total-of cs) ∙ sym (length-append ms (edges cs))

ascends-pass : (n least : ℕ) (ms : List ℕ) → Below n ms → Ascending least ms → ascends n least ms ≡ true
unfolding ascends
ascends-pass n least [] h k = refl
ascends-pass n least (x ∷ xs) h k = ap₂ ◌&&◌ (ap₂ ◌&&◌ (le-leb least x k.0) (lt-ltb x n h.0)) (ascends-pass n (x + 1) xs h.1 k.1)

members-pass : (n : ℕ) (cs : List (List ℕ)) → AllBelow n cs → AllAscending cs → members_right n cs ≡ true
unfolding members_right
members-pass n [] h k = refl
members-pass n (ms ∷ cs) h k = ap₂ ◌&&◌ (ascends-pass n 0 ms h.0 k.0) (members-pass n cs h.1 k.1)

bits-pass : (f : ℕ → ℕ) (i k : ℕ) → ((j : ℕ) → j < i + k → (1 ≤ f j) × (f j ≤ max_bit_degree)) → bits_right f i k ≡ true
unfolding bits_right
bits-pass f i zero h = refl
bits-pass f i (suc k) h = ap₂ ◌&&◌ (range-pass 1 max_bit_degree (f i) (h i (first i k))) (bits-pass f (i + 1) k (λ j p. h j (inside i k j p)))
  where
    first : (i k : ℕ) → i < i + suc k
    first i k = omega arith

    inside : (i k j : ℕ) → j < i + 1 + k → j < i + suc k
    inside i k j h = omega arith

all-wider : (n : ℕ) (cs : List (List ℕ)) → n ≤ u16_limit → AllBelow n cs → AllBelow u16_limit cs
all-wider n [] h k = tt
all-wider n (ms ∷ cs) h k = (below_more n u16_limit ms h k.0, all-wider n cs h k.1)

-- ---- so the file is accepted, and is the table
module _ (t : Table) (sound : Sound t) where
  abbrev n : ℕ
  n = t.bits

  abbrev cs : List (List ℕ)
  cs = t.checks

  abbrev m : ℕ
  m = length (counts cs)

  abbrev f : List ℕ
  f = file_bytes t

  few : 0 + total_of (counts cs) < u16_limit
  few = omega (arith, sound.few, total-of cs)

  all : Holds f 0 (n ∷ m ∷ content_numbers 0 (counts cs) ++ edges cs)
  unfolding Holds
  all = refl

  from-checks : Holds f 2 (m ∷ content_numbers 0 (counts cs) ++ edges cs)
  from-checks = next16 f 0 n (m ∷ content_numbers 0 (counts cs) ++ edges cs) all

  bits_are : u16_at f 0 ≡ n
  bits_are = here16 f 0 n (m ∷ content_numbers 0 (counts cs) ++ edges cs) all (omega (arith, sound.bits.1))

  checks-are : u16_at f 2 ≡ m
  checks-are = here16 f 2 m (content_numbers 0 (counts cs) ++ edges cs) from-checks (omega (arith, sound.checks.1, counts-length cs))

  read : (contents f 0 m ≡ contents_of 0 (counts cs)) × Holds f (contents_end (0 + m)) (edges cs)
  read = contents-read f 0 0 (counts cs) (edges cs) (next16 f 2 m (content_numbers 0 (counts cs) ++ edges cs) from-checks) few

  bodies-are : (table_at f n m).checks ≡ cs
  bodies-are = ap (bodies f (contents_end m)) read.0
      ∙ bodies-read f (contents_end m) 0 cs (move f (contents_end (0 + m)) (contents_end m) (edges cs) (ap contents_end (zero-add m)) read.1)
      (all-wider n cs (omega (arith, sound.bits.1)) sound.below)

  edges_are : total_count (contents f 0 m) ≡ edges_of t
  edges_are = ap total_count read.0 ∙ total-is 0 cs

  long : length f ≡ file_length m (edges_of t)
  long = file-length n (counts cs) (edges cs)

  pub file-accepted : code_file f ≡ gives t
  unfolding code_file file_of
  file-accepted =
      let many : (1 ≤ m) × (m ≤ max_checks) = (omega (arith, sound.checks.0, counts-length cs), omega (arith, sound.checks.1, counts-length cs)) in
      let ranges = ap₂ ◌&&◌ (range-pass 1 max_bits n sound.bits) (range-pass 1 max_checks m many) in
      let starts = ap (starts_right 0) read.0 ∙ starts-pass 0 (counts cs) in
      let edges_few : total_count (contents f 0 m) ≤ max_edges = omega (arith, edges_are, sound.few) in
      let standing = bits-pass (λ i. degree_of i (edges cs)) 0 n (λ j h. sound.standing j (omega arith)) in
      ap₂ (file_of f) bits_are checks-are
      ∙ must-true (leb 4 (length f)) header_short _ (le-leb 4 (length f) (omega (arith, long)))
      ∙ must-true (in_range 1 max_bits n && in_range 1 max_checks m) size_range _ ranges
      ∙ must-true (leb (contents_end m) (length f)) length_wrong _ (le-leb (contents_end m) (length f) (omega (arith, long)))
      ∙ must-true (counts_right (contents f 0 m)) count_range _ (ap counts_right read.0 ∙ counts-pass 0 cs sound.degrees)
      ∙ must-true (starts_right 0 (contents f 0 m) && leb (total_count (contents f 0 m)) max_edges) start_wrong _ (ap₂ ◌&&◌ starts (le-leb (total_count (contents f 0 m)) max_edges edges_few))
      ∙ must-true (eqb (length f) (file_length m (total_count (contents f 0 m)))) length_wrong _ (eq-eqb (length f) (file_length m (total_count (contents f 0 m))) (omega (arith, long, edges_are)))
      ∙ must-true (members_right n (table_at f n m).checks) member_wrong _ (ap (members_right n) bodies-are ∙ members-pass n cs sound.below sound.ascending)
      ∙ must-true (bits_right (λ i. degree_of i (edges (table_at f n m).checks)) 0 n) bit_degree _ (ap (λ c. bits_right (λ i. degree_of i (edges c)) 0 n) bodies-are ∙ standing)
      ∙ ap (λ c. gives (record { bits = n; checks = c })) bodies-are
