-- A certificate's rows, entry by entry. Assumes nothing.
use mathlib.Core.Path.{◌≡◌, sym, ◌∙◌, ap, ap₂, subst}
use mathlib.Core.List.{List, [], ◌∷◌}
use Prim.Native.Nat.{ℕ, ◌+◌, ◌≤◌, ◌<◌}
use native.Mathlib.Omega.{arith}
use native.Mathlib.Nat.{sub-eq-zero_of_le}
use lib.ListN.{length, get_or}
use lib.IntN.{ℤ}
use Rattle.integers.specs.Count.{left-more}
use Rattle.rules.specs.Table.{Table, at}
use Rattle.rules.specs.Bound.{Row, reduced}
use Rattle.rules.specs.Scatter.{row_of, Reduces, Put}
use Rattle.rules.specs.Certificate.{item_at, items_at, entries_of, row_at, rows_at}
use Rattle.rules.specs.Sole.{none_zero, sole}
use Rattle.rules.proofs.SoleLaws.{none-zero-same}
use Rattle.judge.specs.Rows.{rows_from, rows_in, rows_left}
use Rattle.table.specs.Layout.{Part}

module _ (t : Table) (bs : List ℕ) where
  pub rows_next : (k : ℕ) → k < entries_of bs → rows_from t bs k ≡ row_at t (item_at bs (entries_of bs) k) ∷ rows_from t bs (k + 1)
  unfolding items_at
  rows_next k h = ap (λ c. rows_at t (items_at bs (entries_of bs) k c)) (left-more k (entries_of bs) h)

  pub rows-past : (k : ℕ) → entries_of bs ≤ k → rows_from t bs k ≡ []
  unfolding items_at
  rows-past k h = ap (λ c. rows_at t (items_at bs (entries_of bs) k c)) (sub-eq-zero_of_le h)

-- a row by its members
pub row_with : (b mask : ℕ) {ms ms' : List ℕ} {ls new : List ℤ} {x : ℤ} → ms ≡ ms' → Put (row_of ms b mask ∷ []) ls new x → Put (row_of ms' b mask ∷ []) ls new x
row_with b mask {ls = ls} {new = new} {x = x} = subst (λ l. Put (row_of l b mask ∷ []) ls new x)

-- the mark of numbers that are the reduced ones
pub sole-found : {n s : ℕ} {l : List ℤ} {rs : List Row} {r : List ℤ} → Reduces s l rs r → length r ≡ n → length l ≡ n → none_zero (length r) (at r) ≡ sole n s l rs
unfolding sole
sole-found {n} {s} {l} {rs} {r} h e f = ap (λ k. none_zero k (at r)) e ∙ none-zero-same n (at r) (reduced s l rs) (λ i b. h.number i (omega (arith, f)))

-- No proof cites this any more, since the code reads its entries as one value.
pub rows_all : (starts members bs : List ℕ) (q : ℕ) → rows_in starts members (items_at bs q 0 q) ≡ rows_left starts members bs q 0
rows_all starts members bs q = ap (λ c. rows_in starts members (items_at bs q 0 c)) (omega arith)

-- No proof cites these any more, since the check finds what they say.
-- a check's part, between the two starts that were read
module _ {n : ℕ} {starts members : List ℕ} {j check a e : ℕ} (p : Part n starts members j) (hj : check ≡ j) (ha : a ≡ get_or starts check 0) (he : e ≡ get_or starts (check + 1) 0) where
  last : e ≡ get_or starts (j + 1) 0
  last = he ∙ ap (λ k. get_or starts (k + 1) 0) hj

  pub part_end : e ≤ length members
  part_end = omega (arith, last, p.end)

-- a row in the numbers that the code has read
module _ {ms ms' : List ℕ} {b b' mask mask' : ℕ} (hm : ms' ≡ ms) (hb : b ≡ b') (hk : mask ≡ mask') where
  pub row_read : {ls new : List ℤ} {x : ℤ} → Put (row_of ms b mask ∷ []) ls new x → Put (row_of ms' b' mask' ∷ []) ls new x
  row_read {ls} {new} {x} = subst (λ r. Put (r ∷ []) ls new x) (ap (λ l. row_of l b mask) (sym hm) ∙ ap₂ (row_of ms') hb hk)
