-- The contents and the bodies of a code file: where their numbers stand, how many there are, and the bodies in one piece, the edges. Assumes nothing.
use mathlib.Core.Path.{◌≡◌, refl, sym, ◌∙◌, ap, ap₂}
use mathlib.Core.List.{List, [], ◌∷◌, ◌++◌}
use Prim.Native.Nat.{ℕ, zero, suc, ◌+◌, ◌*◌}
use native.Mathlib.Omega.{arith}
use native.Mathlib.Nat.{zero-add, suc-add}
use lib.ListN.{length}
use Rattle.rules.specs.Limits.{contents_end}
use Rattle.rules.specs.Bytes.{u16_at}
use Rattle.rules.specs.Table.{edges}
use Rattle.rules.specs.CodeFile.{Content, contents, total_count, numbers_at, bodies}

-- ---- where numbers stand: an entry's count, and the next entry; past no numbers from a on, and past one more
pub count_at_lem : (j : ℕ) → contents_end j + 2 ≡ 6 + 4 * j
count_at_lem j = omega arith

pub next-entry : (j : ℕ) → contents_end j + 2 + 2 ≡ contents_end (j + 1)
next-entry j = omega arith

pub past-none : (a : ℕ) → a ≡ a + 2 * 0
past-none a = omega arith

pub past_one : (a n : ℕ) → a + 2 + 2 * n ≡ a + 2 * suc n
past_one a n = omega arith

-- ---- how many there are, and the bodies in one piece
pub contents-length : (file : List ℕ) (j k : ℕ) → length (contents file j k) ≡ k
unfolding contents
contents-length file j zero = refl
contents-length file j (suc k) = ap suc (contents-length file (j + 1) k)

pub numbers-length : (file : List ℕ) (a k : ℕ) → length (numbers_at file a k) ≡ k
unfolding numbers_at
numbers-length file a zero = refl
numbers-length file a (suc k) = ap suc (numbers-length file (a + 2) k)

pub numbers-append : (file : List ℕ) (a d k : ℕ) → numbers_at file a (d + k) ≡ numbers_at file a d ++ numbers_at file (a + 2 * d) k
unfolding numbers_at
numbers-append file a zero k = ap₂ (numbers_at file) (past-none a) (zero-add k)
numbers-append file a (suc d) k =
    ap (numbers_at file a) (suc-add d k)
    ∙ ap (λ l. u16_at file a ∷ l) (numbers-append file (a + 2) d k ∙ ap (λ b. numbers_at file (a + 2) d ++ numbers_at file b k) (past_one a d))

bodies-each : (file : List ℕ) (a : ℕ) (es : List Content) → length (bodies file a es) ≡ length es
unfolding bodies
bodies-each file a [] = refl
bodies-each file a (e ∷ es) = ap suc (bodies-each file (a + 2 * e.count) es)

pub bodies-length : (file : List ℕ) (a m : ℕ) → length (bodies file a (contents file 0 m)) ≡ m
bodies-length file a m = bodies-each file a (contents file 0 m) ∙ contents-length file 0 m

pub edges-bodies : (file : List ℕ) (a : ℕ) (es : List Content) → edges (bodies file a es) ≡ numbers_at file a (total_count es)
unfolding bodies total_count numbers_at
edges-bodies file a [] = refl
edges-bodies file a (e ∷ es) = ap (λ l. numbers_at file a e.count ++ l) (edges-bodies file (a + 2 * e.count) es) ∙ sym (numbers-append file a e.count (total_count es))

pub edges-length : (file : List ℕ) (a : ℕ) (es : List Content) → length (edges (bodies file a es)) ≡ total_count es
edges-length file a es = ap length (edges-bodies file a es) ∙ numbers-length file a (total_count es)
