-- A loop that writes a slice from some place on: what is left to write is stored by `sets`, so that one store more changes nothing of the whole. General
-- in the element. Assumes nothing.
use mathlib.Core.Path.{◌≡◌, sym, ◌∙◌, ap, ap₂}
use mathlib.Core.List.{List, [], ◌∷◌, ◌++◌, append-nil}
use Prim.Native.Nat.{ℕ, suc, ◌+◌, ◌≤◌, ◌<◌}
use native.Mathlib.Nat.{add-zero, add-suc, suc-add}
use native.Mathlib.Omega.{arith}
use native.Mathlib.Numerals.{add-one}
use lib.ListN.{length, get_or, drop, set, drop_of_length-le}
use lib.Seq.{drop-cons, sets, sets-eq}
use Rattle.rules.specs.Buffers.{over}

module _ {A : Type 0} where
  -- what is left at k, in the code's `k + 1`
  pub drop-next : (l : List A) (k : ℕ) (d : A) → k < length l → drop k l ≡ get_or l k d ∷ drop (k + 1) l
  drop-next l k d h = drop-cons l k d h ∙ ap (λ n. get_or l k d ∷ drop n l) (sym (add-one k))

  sets-append : (l : List A) (i : ℕ) (xs ys : List A) → sets l i (xs ++ ys) ≡ sets (sets l i xs) (i + length xs) ys
  sets-append l i [] ys = ap (λ k. sets l k ys) (sym (add-zero i))
  sets-append l i (x ∷ xs) ys = sets-append (set l i x) (suc i) xs ys ∙ ap (λ k. sets (sets (set l i x) (suc i) xs) k ys) (suc-add i (length xs) ∙ sym (add-suc i (length xs)))

  -- ys written after xs
  pub sets-next : (old new : List A) (i k : ℕ) (xs ys : List A) → new ≡ sets old i xs → k ≡ i + length xs → sets new k ys ≡ sets old i (xs ++ ys)
  sets-next old new i k xs ys e g = ap₂ (λ l n. sets l n ys) e g ∙ sym (sets-append old i xs ys)

  -- an elementwise loop that fills in ts: x is what ts has at i
  pub sets_more : (l ts : List A) (i : ℕ) (d x : A) → i < length ts → x ≡ get_or ts i d → sets (set l i x) (i + 1) (drop (i + 1) ts) ≡ sets l i (drop i ts)
  sets_more l ts i d x h e = ap₂ (λ k y. sets (set l i y) k (drop (i + 1) ts)) (add-one i) e ∙ ap (sets l i) (sym (drop-next ts i d h))

  pub sets_end : (l ts : List A) (i : ℕ) → length ts ≤ i → sets l i (drop i ts) ≡ l
  sets_end l ts i h = ap (sets l i) (drop_of_length-le ts h)

  pub sets_over : (l ts : List A) → length ts ≤ length l → sets l 0 ts ≡ over ts l
  sets_over l ts h =
      let e : 0 + length ts ≡ length ts = omega arith in
      sets-eq ts l 0 (omega arith) ∙ ap (λ k. ts ++ drop k l) e

  -- the whole slice is written
  pub sets-all : (l ts : List A) → length ts ≡ length l → sets l 0 ts ≡ ts
  sets-all l ts h = sets_over l ts (omega arith) ∙ ap (λ z. ts ++ z) (drop_of_length-le l {i = length ts} (omega arith)) ∙ append-nil ts
