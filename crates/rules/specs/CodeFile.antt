-- The code file: contents, then bodies (document 01, "Code file"), and its refusals 1 to 7 in the stated order. Definitions only. Assumes nothing.
use Rattle.std.specs.Prelude.{Bool, true, ◌&&◌, List, [], ◌∷◌, ℕ, zero, suc, ◌+◌, ◌*◌, leb, ltb, eqb, length, ℤ, pos}
use Rattle.rules.specs.Limits.{max_bits, max_checks, max_degree, max_edges, max_bit_degree, contents_end, file_length}
use Rattle.rules.specs.Refusal.{Answer, gives, must, Reply, reply_of, header_short, size_range, count_range, start_wrong, length_wrong, member_wrong, bit_degree}
use Rattle.rules.specs.Bytes.{u16_at}
use Rattle.rules.specs.Table.{Table, edges, edges_of, checks_of, degree_of}

unfoldable pub in_range : ℕ → ℕ → ℕ → Bool
in_range lo hi x = leb lo x && leb x hi

-- "the contents: m entries of start and count": k of them, from entry j on
pub record Content : Type 0 where
  pub start : ℕ
  pub count : ℕ

abbrev pub content_at : List ℕ → ℕ → Content
content_at file j = record { start = u16_at file (4 + 4 * j); count = u16_at file (6 + 4 * j) }

unfoldable pub contents : List ℕ → ℕ → ℕ → List Content
contents file j zero = []
contents file j (suc k) = content_at file j ∷ contents file (j + 1) k

-- "A count of 0 is now accepted and refusal 3 is for counts above 32 only" (document 02, #106)
unfoldable pub counts_right : List Content → Bool
counts_right [] = true
counts_right (e ∷ es) = leb e.count max_degree && counts_right es

-- "start of check 0 is 0; each later start is the previous start plus count"
unfoldable pub starts_right : ℕ → List Content → Bool
starts_right s [] = true
starts_right s (e ∷ es) = eqb e.start s && starts_right (s + e.count) es

-- "E is the sum of counts"
unfoldable pub total_count : List Content → ℕ
total_count [] = 0
total_count (e ∷ es) = e.count + total_count es

-- "the bodies: bit numbers, 16 bits each": k of them from byte a on, and so the members of each check
unfoldable pub numbers_at : List ℕ → ℕ → ℕ → List ℕ
numbers_at file a zero = []
numbers_at file a (suc k) = u16_at file a ∷ numbers_at file (a + 2) k

unfoldable pub bodies : List ℕ → ℕ → List Content → List (List ℕ)
bodies file a [] = []
bodies file a (e ∷ es) = numbers_at file a e.count ∷ bodies file (a + 2 * e.count) es

-- "strictly ascending within a check", from a least number on, and below n
unfoldable pub ascends : ℕ → ℕ → List ℕ → Bool
ascends n least [] = true
ascends n least (x ∷ xs) = (leb least x && ltb x n) && ascends n (x + 1) xs

unfoldable pub members_right : ℕ → List (List ℕ) → Bool
members_right n [] = true
members_right n (ms ∷ cs) = ascends n 0 ms && members_right n cs

-- "each bit stands in 1 to 32 checks": k bits from bit i on, f the number of checks that each stands in
unfoldable pub bits_right : (ℕ → ℕ) → ℕ → ℕ → Bool
bits_right f i zero = true
bits_right f i (suc k) = in_range 1 max_bit_degree (f i) && bits_right f (i + 1) k

abbrev pub table_at : List ℕ → ℕ → ℕ → Table
table_at file n m = record { bits = n; checks = bodies file (contents_end m) (contents file 0 m) }

-- "Order: 1, 2, 5 if the contents don't fit, 3, 4, 5, 6, 7"
unfoldable pub file_of : List ℕ → ℕ → ℕ → Answer Table
file_of file n m =
    must (leb 4 (length file)) header_short
    (must (in_range 1 max_bits n && in_range 1 max_checks m) size_range
    (must (leb (contents_end m) (length file)) length_wrong
    (must (counts_right (contents file 0 m)) count_range
    (must (starts_right 0 (contents file 0 m) && leb (total_count (contents file 0 m)) max_edges) start_wrong
    (must (eqb (length file) (file_length m (total_count (contents file 0 m)))) length_wrong
    (must (members_right n (table_at file n m).checks) member_wrong
    (must (bits_right (λ i. degree_of i (edges (table_at file n m).checks)) 0 n) bit_degree
    (gives (table_at file n m)))))))))

-- "n and m (16 bits each: bits, checks)" stand in front
unfoldable pub code_file : List ℕ → Answer Table
code_file file = file_of file (u16_at file 0) (u16_at file 2)

-- the values of the answer: n, m and E
abbrev pub table_values : Table → List ℤ
table_values t = pos t.bits ∷ pos (checks_of t) ∷ pos (edges_of t) ∷ []

unfoldable pub code_file_reply : List ℕ → Reply
code_file_reply file = reply_of table_values (code_file file)
