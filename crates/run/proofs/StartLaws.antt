-- What a start answers and leaves, in each of its cases. Assumes nothing.
use mathlib.Core.Path.{◌≡◌, refl, sym, ◌∙◌, ap, ap₂}
use mathlib.Core.Bool.{Bool, true, false, ◌&&◌}
use mathlib.Core.List.{List}
use Prim.Native.Nat.{ℕ, ◌≤◌}
use lib.Dec.{leb}
use lib.ListN.{length}
use lib.IntN.{ℤ}
use borrow.Author.Tests.{le-leb, leb-true}
use Rattle.rules.specs.Refusal.{refused, gives, must, then, buffer_short}
use Rattle.rules.specs.CodeFile.{table_at, code_file}
use Rattle.rules.specs.Buffers.{lengths_of, over, zeros, start_lent, fits_start}
use Rattle.rules.specs.Run.{Progress, Started, start_by, start, fresh}
use Rattle.table.proofs.AcceptedLaws.{Readable}
use Rattle.table.proofs.LoadedLaws.{edges_are}
use Rattle.run.specs.Started.{started_as}

module _ (file : List ℕ) (z y x : List ℤ) where
  pub start-refused : (k : ℕ) → code_file file ≡ refused k → started_as (refused k) z y x ≡ start file (start_lent z y x)
  unfolding start then
  start-refused k h = ap (λ a. start_by (start_lent z y x) (then a (λ t. must (fits_start t (lengths_of (start_lent z y x))) buffer_short (gives t)))) (sym h)

  module _ (n m e : ℕ) (r : Readable file n m e) where
    -- with room for copies, offsets and sums or without
    start_if : Bool → Bool → Bool → Started
    start_if a b c = start_by (start_lent z y x) (must (a && (b && (c && true))) buffer_short (gives (table_at file n m)))

    tested : (a b c : Bool) → leb e (length z) ≡ a → leb e (length y) ≡ b → leb n (length x) ≡ c → start_if a b c ≡ start file (start_lent z y x)
    unfolding start then fits_start start_if
    tested a b c p q s = ap₂ (λ i j. start_if i j c) (sym p) (sym q) ∙ ap (start_if (leb e (length z)) (leb e (length y))) (sym s)
        ∙ ap (λ k. start_if (leb k (length z)) (leb k (length y)) (leb n (length x))) (sym (edges_are file n m e r))
        ∙ ap (λ a. start_by (start_lent z y x) (then a (λ t. must (fits_start t (lengths_of (start_lent z y x))) buffer_short (gives t)))) (sym r.table)

    -- not all three have room
    pub start-short : (e ≤ length z → e ≤ length y → n ≤ length x → ⊥) → started_as (refused buffer_short) z y x ≡ start file (start_lent z y x)
    unfolding must start_if
    start-short h = go _ _ _ refl refl refl
      where
        go : (a b c : Bool) → leb e (length z) ≡ a → leb e (length y) ≡ b → leb n (length x) ≡ c → started_as (refused buffer_short) z y x ≡ start file (start_lent z y x)
        go false b c p q s = tested false b c p q s
        go true false c p q s = tested true false c p q s
        go true true false p q s = tested true true false p q s
        go true true true p q s = absurd (h (leb-true _ _ p) (leb-true _ _ q) (leb-true _ _ s))

    pub start-fresh : e ≤ length z → e ≤ length y → n ≤ length x → (p : Progress) (z' y' x' : List ℤ)
        → p ≡ fresh → z' ≡ over (zeros e) z → y' ≡ over (zeros e) y → x' ≡ over (zeros n) x
        → started_as (gives p) z' y' x' ≡ start file (start_lent z y x)
    unfolding must start_if
    start-fresh g h i p z' y' x' k a b c = ap₂ (λ q u. started_as (gives q) u y' x') k a ∙ ap₂ (started_as (gives fresh) (over (zeros e) z)) b c
        ∙ ap (λ k. started_as (gives fresh) (over (zeros k) z) (over (zeros k) y) (over (zeros n) x)) (sym (edges_are file n m e r))
        ∙ tested true true true (le-leb e (length z) g) (le-leb e (length y) h) (le-leb n (length x) i)
