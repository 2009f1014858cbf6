-- What a load answers and leaves, in each of its cases. Assumes nothing.
use mathlib.Core.Path.{◌≡◌, refl, sym, ◌∙◌, ap, ap₂}
use mathlib.Core.Bool.{true, false, ◌&&◌}
use mathlib.Core.List.{List, ◌++◌}
use Prim.Native.Nat.{ℕ, ◌+◌, ◌≤◌, ◌<◌}
use native.Mathlib.Omega.{arith}
use lib.Dec.{leb, ltb}
use lib.ListN.{length, drop}
use borrow.Author.Tests.{lt-ltb, le-ltb, le-leb, lt-leb}
use Rattle.rules.specs.Limits.{contents_end}
use Rattle.rules.specs.Refusal.{Answer, refused, gives, must, then, reply_of, buffer_short}
use Rattle.rules.specs.Table.{Table, edges, edges_of, checks_of}
use Rattle.rules.specs.CodeFile.{contents, numbers_at, table_at, code_file, table_values}
use Rattle.rules.specs.Buffers.{over}
use Rattle.table.specs.Starts.{starts_of}
use Rattle.table.specs.Loaded.{with_room, not_loaded, with_table, laid, loaded}
use Rattle.table.proofs.AnswerLaws.{and-fails, and-holds}
use Rattle.rules.proofs.FileLaws.{bodies-length, edges-bodies, edges-length}
use Rattle.table.proofs.StartsLaws.{starts-length}
use Rattle.table.proofs.StageLaws.{table-reply}
use Rattle.table.proofs.AcceptedLaws.{Readable}

pub laid-reply : (a : Answer Table) (s ms : List ℕ) → (laid a s ms).reply ≡ reply_of table_values a
unfolding laid
laid-reply (refused k) s ms = refl
laid-reply (gives t) s ms = refl

module _ (file s ms : List ℕ) where
  pub loaded-refused : (k : ℕ) → code_file file ≡ refused k → not_loaded k s ms ≡ loaded file s ms
  unfolding loaded laid then reply_of
  loaded-refused k h = ap (λ a. laid (then a (with_room s ms)) s ms) (sym h)

  module _ (t : Table) (h : code_file file ≡ gives t) where
    pub loaded-short : ltb (checks_of t) (length s) && leb (edges_of t) (length ms) ≡ false → not_loaded buffer_short s ms ≡ loaded file s ms
    unfolding loaded laid then with_room must reply_of
    loaded-short e = ap (λ b. laid (must b buffer_short (gives t)) s ms) (sym e) ∙ ap (λ a. laid (then a (with_room s ms)) s ms) (sym h)

    pub loaded-gives : ltb (checks_of t) (length s) && leb (edges_of t) (length ms) ≡ true → laid (gives t) s ms ≡ loaded file s ms
    unfolding loaded then with_room must
    loaded-gives e = ap (λ b. laid (must b buffer_short (gives t)) s ms) (sym e) ∙ ap (λ a. laid (then a (with_room s ms)) s ms) (sym h)

-- ---- the same in the code's numbers
module _ (file : List ℕ) (n m e : ℕ) (r : Readable file n m e) where
  pub checks-are : checks_of (table_at file n m) ≡ m
  checks-are = bodies-length file (contents_end m) m

  pub edges_are : edges_of (table_at file n m) ≡ e
  edges_are = edges-length file (contents_end m) (contents file 0 m) ∙ sym r.sum

module _ (file s ms : List ℕ) (n m e : ℕ) (r : Readable file n m e) where
  room-is : ltb (checks_of (table_at file n m)) (length s) && leb (edges_of (table_at file n m)) (length ms) ≡ (ltb m (length s) && leb e (length ms))
  room-is = ap₂ (λ x y. ltb x (length s) && leb y (length ms)) (checks-are file n m e r) (edges_are file n m e r)

  pub loaded-few-starts : length s ≤ m → not_loaded buffer_short s ms ≡ loaded file s ms
  loaded-few-starts h = loaded-short file s ms (table_at file n m) r.table (room-is ∙ and-fails (ltb m (length s)) (leb e (length ms)) (le-ltb m (length s) h))

  pub loaded-few-members : m < length s → length ms < e → not_loaded buffer_short s ms ≡ loaded file s ms
  loaded-few-members g h =
      loaded-short file s ms (table_at file n m) r.table
      (room-is ∙ and-holds (ltb m (length s)) (leb e (length ms)) (lt-ltb m (length s) g) ∙ lt-leb e (length ms) h)

  -- the bodies begin at byte a, and there is room
  module _ (a : ℕ) (ha : a ≡ contents_end m) (g : m < length s) (h : e ≤ length ms) where
    pub loaded-table : (s' ms' : List ℕ) → s' ≡ starts_of 0 (table_at file n m).checks ++ drop (m + 1) s → ms' ≡ numbers_at file a e ++ drop e ms
        → with_table n m e s' ms' ≡ loaded file s ms
    unfolding laid
    loaded-table s' ms' p q =
        let t = table_at file n m in
        let front : m + 1 ≡ length (starts_of 0 t.checks) = omega (arith, starts-length 0 t.checks, checks-are file n m e r) in
        let members : numbers_at file a e ≡ edges t.checks = ap₂ (numbers_at file) ha r.sum ∙ sym (edges-bodies file (contents_end m) (contents file 0 m)) in
        ap₂ (with_table n m e)
        (p ∙ ap (λ k. starts_of 0 t.checks ++ drop k s) front) (q ∙ ap₂ (λ l k. l ++ drop k ms) members (sym (edges_are file n m e r)))
        ∙ ap (λ x. record { reply = x; starts = over (starts_of 0 t.checks) s; members = over (edges t.checks) ms }) (table-reply file n m e r.sum)
        ∙ loaded-gives file s ms t r.table (room-is ∙ and-holds (ltb m (length s)) (leb e (length ms)) (lt-ltb m (length s) g) ∙ le-leb e (length ms) h)
