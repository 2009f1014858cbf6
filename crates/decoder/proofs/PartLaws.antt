-- Loops over parts of a slice: what a part has at a place, and the list with one part more done. Assumes nothing.
use mathlib.Core.Path.{◌≡◌, sym, ◌∙◌, ap, ap₂}
use mathlib.Core.List.{List, ◌++◌, append_assoc, append-nil}
use Prim.Native.Nat.{ℕ, ◌+◌, ◌-◌, ◌≤◌, ◌<◌}
use native.Mathlib.Omega.{arith}
use lib.ListN.{length, get_or, take, drop, length-drop, drop_of_length-le}
use lib.Seq.{length-take-le, take-add, drop-drop, take_at, drop_at, get_or-take, get_or-drop}
use Rattle.rules.proofs.FillLaws.{fill, fill_is, fill-rest}
use Rattle.decoder.specs.Parts.{part, splice}

-- nothing comes after the first n of n
pub none_after : {A : Type 0} (n : ℕ) (u l : List A) → length l ≡ n → u ++ drop n l ≡ u
none_after n u l h = ap (λ r. u ++ r) (drop_of_length-le l {i = n} (omega arith)) ∙ append-nil u

pub part_length : {A : Type 0} (a e : ℕ) (l : List A) → e ≤ length l → length (part a e l) ≡ e - a
unfolding part
part_length a e l h = length-take-le (e - a) (drop a l) (omega (arith, length-drop a l))

pub part_at : {A : Type 0} (a e : ℕ) (l : List A) (i : ℕ) (d : A) → i < e - a → get_or (part a e l) i d ≡ get_or l (a + i) d
unfolding part
part_at a e l i d h = get_or-take (e - a) (drop a l) i d h ∙ get_or-drop a l i d

-- what the loop is at is still what came in
pub fill-coming : {A : Type 0} (a e : ℕ) (ts xs : List A) → part a e (fill a ts xs) ≡ part a e xs
unfolding part
fill-coming a e ts xs = ap (take (e - a)) (fill-rest a ts xs)

-- the part from a to e, which is what ts has there
pub fill-part : {A : Type 0} (a e : ℕ) (ts xs now p : List A) → length ts ≡ length xs → a ≤ e → e ≤ length xs
    → p ≡ part a e ts → now ≡ fill a ts xs → splice a e p now ≡ fill e ts xs
unfolding part splice
fill-part a e ts xs now p same h k w q =
    let front : length (take a ts) ≡ a = length-take-le a ts (omega arith) in
    let back : a + (e - a) ≡ e = omega arith in
    ap (λ x. take a x ++ (p ++ drop (e - a) (drop a x))) (q ∙ fill_is a ts xs (omega arith) (omega arith))
    ∙ ap₂ (λ x r. x ++ (p ++ drop (e - a) r)) (take_at (take a ts) (drop a xs) a front) (drop_at (take a ts) (drop a xs) a front)
    ∙ sym (append_assoc (take a ts) p (drop (e - a) (drop a xs)))
    ∙ ap₂ ◌++◌ (ap (λ x. take a ts ++ x) w ∙ sym (take-add a (e - a) ts) ∙ ap (λ n. take n ts) back) (drop-drop (e - a) a xs ∙ ap (λ n. drop n xs) back)
    ∙ sym (fill_is e ts xs (omega arith) k)
