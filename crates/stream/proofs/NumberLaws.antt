-- The numbers that a loop lays over a list one after the other. Assumes nothing.
use mathlib.Core.Path.{◌≡◌, refl, sym, ◌∙◌, ap, ap₂}
use mathlib.Core.List.{List, [], ◌∷◌, ◌++◌}
use Prim.Native.Nat.{ℕ, zero, suc, ◌+◌, ◌*◌, ◌/◌, ◌<◌}
use native.Mathlib.Omega.{arith}
use native.Mathlib.Nat.{le_of_suc-le-suc}
use native.Mathlib.Numerals.{add-one}
use lib.ListN.{length, drop, set, length-append}
use lib.IntN.{ℤ}
use mir.Syntax.{w16}
use mir.Val.{to_z}
use Rattle.rules.specs.Bytes.{u16_at}
use Rattle.rules.specs.Buffers.{over}
use Rattle.rules.proofs.BufferLaws.{past-over}
use Rattle.stream.specs.Numbers.{numbers_of, ReadNumbers, ReadFront}

pub numbers-length : (bs : List ℕ) (k : ℕ) → length (numbers_of bs k) ≡ k
unfolding numbers_of
numbers-length bs zero = refl
numbers-length bs (suc k) = length-append (numbers_of bs k) (to_z w16 (u16_at bs (2 * k)) ∷ []) ∙ ap (λ n. n + 1) (numbers-length bs k) ∙ add-one k

-- one more number at the end of what is laid over
over-snoc : {A : Type 0} (xs old : List A) (v : A) → length xs < length old → set (over xs old) (length xs) v ≡ over (xs ++ v ∷ []) old
over-snoc [] [] v h = absurd (omega arith)
over-snoc [] (y ∷ old) v h = refl
over-snoc (x ∷ xs) [] v h = absurd (omega arith)
over-snoc (x ∷ xs) (y ∷ old) v h = ap (λ l. x ∷ l) (over-snoc xs old v (le_of_suc-le-suc h))

pub numbers_more : (bs : List ℕ) (i : ℕ) (now old : List ℤ) (v : ℤ) → i < length old → now ≡ over (numbers_of bs i) old → v ≡ to_z w16 (u16_at bs (2 * i))
    → set now i v ≡ over (numbers_of bs (i + 1)) old
unfolding numbers_of
numbers_more bs i now old v h p e =
    let n : length (numbers_of bs i) ≡ i = numbers-length bs i in
    ap₂ (λ l x. set l i x) p e
    ∙ ap (λ k. set (over (numbers_of bs i) old) k (to_z w16 (u16_at bs (2 * i)))) (sym n)
    ∙ over-snoc (numbers_of bs i) old (to_z w16 (u16_at bs (2 * i))) (omega arith)
    ∙ ap (λ k. over (numbers_of bs k) old) (sym (add-one i))

-- numbers laid over a list: those past them stay
pub numbers-rest : (r : ℕ) (bs : List ℕ) (new old : List ℤ) → ReadNumbers r bs new old → ReadFront r new old
numbers-rest r bs new old h = record {
  few = h.few;
  rest = ap (drop (r / 2)) h.numbers ∙ (past-over (r / 2) (numbers_of bs (r / 2)) old (omega (arith, numbers-length bs (r / 2))) (omega (arith, h.few))).rest;
}
