-- What the code's n, m and E say of the file that it accepted. Assumes nothing.
use mathlib.Core.Path.{◌≡◌, refl, sym, ◌∙◌, ap, ap₂}
use mathlib.Core.List.{List, [], ◌∷◌}
use Prim.Native.Nat.{ℕ, ◌≤◌}
use native.Mathlib.Omega.{arith}
use lib.IntN.{pos}
use lib.ListN.{length}
use borrow.Author.Tests.{eqb-true}
use Rattle.rules.specs.Limits.{max_checks, max_edges, contents_end, file_length}
use Rattle.rules.specs.Refusal.{Answer, refused, gives, reply_of}
use Rattle.rules.specs.Bytes.{u16_at}
use Rattle.rules.specs.Table.{Table, edges_of, checks_of}
use Rattle.rules.specs.CodeFile.{contents, total_count, table_at, code_file, table_values, code_file_reply}
use Rattle.rules.proofs.FileLaws.{bodies-length, edges-length}
use Rattle.rules.proofs.Tables.{passed}
use Rattle.std.specs.Prelude.{Result, Ok}
use Rattle.limits.specs.declared.refusals.Refusal.{Refusal}
use Rattle.table.specs.declared.Sizes.{Sizes}
use Rattle.table.specs.Reply.{numbered}
use Rattle.table.proofs.StageLaws.{sizes-most, starts-few}

-- ---- from the code's n, m and E back to the file
pub record Readable (file : List ℕ) (n m e : ℕ) : Type 0 where
  pub table : code_file file ≡ gives (table_at file n m)
  pub size : length file ≡ file_length m e
  pub sum : e ≡ total_count (contents file 0 m)
  pub many : m ≤ max_checks
  pub few : e ≤ max_edges

pub readable-table : (file : List ℕ) (n m e : ℕ) (t : Table) → code_file file ≡ gives t → n ≡ t.bits → m ≡ checks_of t → e ≡ edges_of t → Readable file n m e
readable-table file n m e t p hn hm he =
    let q = passed file t p in
    let n₀ = u16_at file 0 in
    let m₀ = u16_at file 2 in
    let es = contents file 0 m₀ in
    let bits : n ≡ n₀ = hn ∙ ap (λ x. x.bits) (sym q.1) in
    let checks : m ≡ m₀ = hm ∙ ap checks_of (sym q.1) ∙ bodies-length file (contents_end m₀) m₀ in
    let sum : e ≡ total_count es = he ∙ ap edges_of (sym q.1) ∙ edges-length file (contents_end m₀) es in
    let most = sizes-most n₀ m₀ q.0.ranges in
    let few : total_count es ≤ max_edges = starts-few es q.0.starts in
    let size : length file ≡ file_length m₀ (total_count es) = eqb-true (length file) (file_length m₀ (total_count es)) q.0.size in
    record {
      table = p ∙ ap gives (sym q.1 ∙ ap₂ (table_at file) (sym bits) (sym checks));
      size = omega arith;
      sum = sum ∙ ap (λ x. total_count (contents file 0 x)) (sym checks);
      many = omega arith;
      few = omega arith;
    }

-- the reply that the code gave tells the file's answer: only a refusal has no values
values-table : (file : List ℕ) (n m e : ℕ) (a : Answer Table) → code_file file ≡ a → pos n ∷ pos m ∷ pos e ∷ [] ≡ (reply_of table_values a).values → Readable file n m e
unfolding reply_of
values-table file n m e (refused k) p v = absurd (let z : ◌≡◌ {A = ℕ} 0 1 = cc in omega arith)
values-table file n m e (gives t) p v = readable-table file n m e t p (cc) (cc) (cc)

pub no-values : (k : ℕ) (a : Answer Table) → k ≡ (reply_of table_values a).number → [] ≡ (reply_of table_values a).values → a ≡ refused k
unfolding reply_of
no-values k (refused x) h v = ap refused (sym h)
no-values k (gives t) h v = absurd (let z : ◌≡◌ {A = ℕ} 0 1 = cc in omega arith)

pub readable : (file : List ℕ) (n m e : ℕ) → record { number = 0; values = pos n ∷ pos m ∷ pos e ∷ [] } ≡ code_file_reply file → Readable file n m e
unfolding code_file_reply
readable file n m e h = values-table file n m e (code_file file) refl (ap (λ r. r.values) h)

-- the same of an answer that is known to accept
pub accepted : (file : List ℕ) {r : Result Sizes Refusal} {s : Sizes} → r ≡ Ok s → numbered r ≡ code_file_reply file → Readable file s.bits s.checks s.edges
accepted file h k = readable file _ _ _ (ap numbered (sym h) ∙ k)

pub refused-is : (file : List ℕ) (k : ℕ) → record { number = k; values = [] } ≡ code_file_reply file → code_file file ≡ refused k
unfolding code_file_reply
refused-is file k h = no-values k (code_file file) (ap (λ r. r.number) h) (ap (λ r. r.values) h)
