-- Laws of lent buffers: a part that is long enough is as good as the whole, and what is past the stated lengths stays. Assumes nothing.
use mathlib.Core.Path.{◌≡◌, refl, sym, ◌∙◌, ap, subst, fun_ext}
use mathlib.Core.Bool.{Bool, true}
use mathlib.Core.Option.{Option, some, none}
use mathlib.Core.List.{List, [], ◌∷◌, ◌++◌, append-nil}
use Prim.Native.Nat.{ℕ, zero, suc, ◌+◌, ◌-◌, ◌≤◌}
use native.Mathlib.Omega.{arith}
use native.Mathlib.Nat.{le_of_suc-le-suc, le_refl, le_trans, add-sub_of_le}
use lib.Dec.{leb}
use borrow.Author.Tests.{leb-true, le-leb}
use lib.ListN.{length, take, drop, replicate, length-drop, length-append, take-append-drop, drop_of_length-le}
use lib.Seq.{length-take-le, take_all, take_at, drop-drop, drop-length}
use Rattle.rules.specs.Buffers.{Buffer, by_name, Elem, Buffers, the, each, every, Lengths, lengths_of, Part, fits, part_of, over, over_all, Writes, over_by, write}
use Rattle.rules.proofs.Basics.{and_first, and-rest}

-- ---- one list
-- a part given back unchanged
over-part : {A : Type 0} (k : ℕ) (l : List A) → over (take k l) l ≡ l
over-part zero l = refl
over-part (suc k) [] = refl
over-part (suc k) (x ∷ l) = ap (λ z. x ∷ z) (over-part k l)

-- zeros, or any one number: a part of them
pub take-replicate : {A : Type 0} (n k : ℕ) (a : A) → n ≤ k → take n (replicate k a) ≡ replicate n a
take-replicate zero k a h = refl
take-replicate (suc n) zero a h = absurd (omega arith)
take-replicate (suc n) (suc k) a h = ap (λ l. a ∷ l) (take-replicate n k a (le_of_suc-le-suc h))

-- what is written is read back
pub take-over : {A : Type 0} (k : ℕ) (new old : List A) → length new ≡ k → take k (over new old) ≡ new
take-over k new old e = take_at new (drop (length new) old) k e

pub over-length : {A : Type 0} (new old : List A) → length new ≤ length old → length (over new old) ≡ length old
over-length new old h = length-append new (drop (length new) old) ∙ ap (λ n. length new + n) (length-drop (length new) old) ∙ add-sub_of_le h

-- as long as what was there
pub over-exact : {A : Type 0} (new old : List A) → length new ≡ length old → over new old ≡ new
over-exact new old e = ap (λ n. new ++ drop n old) e ∙ ap (λ l. new ++ l) (drop-length old) ∙ append-nil new

pub take_exact : {A : Type 0} (n : ℕ) (l : List A) → length l ≡ n → take n l ≡ l
take_exact n l e = take_all n l (omega arith)

-- writing to a part is the part of writing to the whole
pub over-take : {A : Type 0} (n : ℕ) (new old : List A) → length new ≤ n → over new (take n old) ≡ take n (over new old)
over-take n [] old h = refl
over-take zero (x ∷ new) old h = absurd (omega arith)
over-take (suc n) (x ∷ new) [] h = ap (λ z. x ∷ z) (append-nil new ∙ sym (take_all n new (le_of_suc-le-suc h)) ∙ ap (take n) (sym (append-nil new)))
over-take (suc n) (x ∷ new) (y ∷ old) h = ap (λ z. x ∷ z) (over-take n new old (le_of_suc-le-suc h))

-- a write to a first part, given back, is the write to the whole
pub over-lent : {A : Type 0} (n : ℕ) (new old : List A) → length new ≤ n → over (over new (take n old)) old ≡ over new old
over-lent n [] old h = over-part n old
over-lent zero (x ∷ new) old h = absurd (omega arith)
over-lent (suc n) (x ∷ new) [] h = ap (λ z. x ∷ z) (append-nil (new ++ []))
over-lent (suc n) (x ∷ new) (y ∷ old) h = ap (λ z. x ∷ z) (over-lent n new old (le_of_suc-le-suc h))

-- what is past a write stays
over-drop : {A : Type 0} (n : ℕ) (new old : List A) → length new ≤ n → drop n (over new old) ≡ drop n old
over-drop n [] old h = refl
over-drop zero (x ∷ new) old h = absurd (omega arith)
over-drop (suc n) (x ∷ new) [] h = ap (drop n) (append-nil new) ∙ drop_of_length-le new (le_of_suc-le-suc h)
over-drop (suc n) (x ∷ new) (y ∷ old) h = over-drop n new old (le_of_suc-le-suc h)

-- the same length, and the same past n
pub record Past {A : Type 0} (n : ℕ) (xs ys : List A) : Type 0 where
  pub size : length xs ≡ length ys
  pub rest : drop n xs ≡ drop n ys

pub past-refl : {A : Type 0} (n : ℕ) (xs : List A) → Past n xs xs
past-refl n xs = record { size = refl; rest = refl }

pub past-trans : {A : Type 0} {n : ℕ} {xs ys zs : List A} → Past n xs ys → Past n ys zs → Past n xs zs
past-trans p q = record { size = p.size ∙ q.size; rest = p.rest ∙ q.rest }

pub past-over : {A : Type 0} (n : ℕ) (new old : List A) → length new ≤ n → n ≤ length old → Past n (over new old) old
past-over n new old h k = record { size = over-length new old (le_trans h k); rest = over-drop n new old h }

-- past a smaller number, past a larger one
pub past-wider : {A : Type 0} (m n : ℕ) (xs ys : List A) → m ≤ n → Past m xs ys → Past n xs ys
past-wider m n xs ys h p = record { size = p.size; rest = split xs ∙ ap (drop (n - m)) p.rest ∙ sym (split ys) }
  where
    split : {A : Type 0} (l : List A) → drop n l ≡ drop (n - m) (drop m l)
    split l = ap (λ k. drop k l) (sym (add-sub_of_le h)) ∙ sym (drop-drop (n - m) m l)

-- a part given back makes the whole, if nothing has changed past it
over-past : {A : Type 0} (n : ℕ) (xs ys : List A) → n ≤ length ys → Past n xs ys → over (take n xs) ys ≡ xs
over-past n xs ys h p = ap (λ k. take n xs ++ drop k ys) (length-take-le n xs (subst (λ k. n ≤ k) (sym p.size) h)) ∙ ap (λ l. take n xs ++ l) (sym p.rest) ∙ take-append-drop n xs

-- ---- all buffers, each by its name
pub the-each : (f : (x : Buffer) → List (Elem x)) (x : Buffer) → the x (each f) ≡ f x
the-each f = by_name (search)

pub buffers-eq : {a b : Buffers} → ((x : Buffer) → the x a ≡ the x b) → a ≡ b
buffers-eq h = λ i. each (λ x. h x i)

pub every_true : (p : Buffer → Bool) → every p ≡ true → (x : Buffer) → p x ≡ true
every_true p e = by_name (search (and_first, and-rest) depth 8)

pub true-every : (p : Buffer → Bool) → ((x : Buffer) → p x ≡ true) → every p ≡ true
true-every p h = λ i. every (λ x. h x i)

-- ---- lengths
pub part-refl : (a : Lengths) → Part a a
part-refl a x = le_refl (a x)

pub part-trans : (a b c : Lengths) → Part a b → Part b c → Part a c
part-trans a b c h k x = le_trans (h x) (k x)

pub fits-part : (a b : Lengths) → fits a b ≡ true → Part a b
unfolding fits
fits-part a b e x = leb-true (a x) (b x) (every_true (λ x. leb (a x) (b x)) e x)

pub part-fits : (a b : Lengths) → Part a b → fits a b ≡ true
unfolding fits
part-fits a b h = true-every (λ x. leb (a x) (b x)) (λ x. le-leb (a x) (b x) (h x))

pub lengths-part : (n : Lengths) (b : Buffers) → Part n (lengths_of b) → lengths_of (part_of n b) ≡ n
lengths-part n b h = fun_ext (λ x. ap length (the-each (λ x. take (n x) (the x b)) x) ∙ length-take-le (n x) (the x b) (h x))

-- ---- parts handed back
-- what is past a part is the whole's
the-back : (a b : Buffers) (n : Lengths) (x : Buffer) → the x (over_all (part_of n a) b) ≡ over (take (n x) (the x a)) (the x b)
the-back a b n x = the-each (λ x. over (the x (part_of n a)) (the x b)) x ∙ ap (λ l. over l (the x b)) (the-each (λ x. take (n x) (the x a)) x)

-- as they were
pub over-same : (n : Lengths) (b : Buffers) → over_all (part_of n b) b ≡ b
over-same n b = buffers-eq (λ x. the-back b b n x ∙ over-part (n x) (the x b))

-- "Bytes past the stated lengths never change"
abbrev pub AllPast : Lengths → Buffers → Buffers → Type 0
AllPast n a b = (x : Buffer) → Past (n x) (the x a) (the x b)

pub all-past-refl : (n : Lengths) (b : Buffers) → AllPast n b b
all-past-refl n b x = past-refl (n x) (the x b)

pub all-past-trans : (n : Lengths) (a b c : Buffers) → AllPast n a b → AllPast n b c → AllPast n a c
all-past-trans n a b c p q x = past-trans (p x) (q x)

pub past-lengths : (n : Lengths) (a b : Buffers) → AllPast n a b → lengths_of a ≡ lengths_of b
past-lengths n a b p = fun_ext (λ x. (p x).size)

-- parts handed back make the whole, if nothing has changed past a smaller part m
pub over-parts : (m n : Lengths) (a b : Buffers) → Part m n → Part n (lengths_of b) → AllPast m a b → over_all (part_of n a) b ≡ a
over-parts m n a b h k p = buffers-eq (λ x. the-back a b n x ∙ over-past (n x) (the x a) (the x b) (k x) (past-wider (m x) (n x) (the x a) (the x b) (h x) (p x)))

-- ---- writing
-- what is written fits these lengths
abbrev pub Small : Lengths → Writes → Type 0
Small n w = (x : Buffer) (new : List (Elem x)) → w x ≡ some new → length new ≤ n x

the-write : (w : Writes) (b : Buffers) (x : Buffer) → the x (write w b) ≡ over_by (w x) (the x b)
the-write w b x = the-each (λ x. over_by (w x) (the x b)) x

past_by : {A : Type 0} (n : ℕ) (o : Option (List A)) (old : List A) → ((new : List A) → o ≡ some new → length new ≤ n) → n ≤ length old → Past n (over_by o old) old
past_by n none old h k = past-refl n old
past_by n (some new) old h k = past-over n new old (h new refl) k

pub write-past : (n : Lengths) (w : Writes) (b : Buffers) → Small n w → Part n (lengths_of b) → AllPast n (write w b) b
write-past n w b h k x = subst (λ l. Past (n x) l (the x b)) (sym (the-write w b x)) (past_by (n x) (w x) (the x b) (h x) (k x))

by-take : {A : Type 0} (n : ℕ) (o : Option (List A)) (old : List A) → ((new : List A) → o ≡ some new → length new ≤ n) → over_by o (take n old) ≡ take n (over_by o old)
by-take n none old h = refl
by-take n (some new) old h = over-take n new old (h new refl)

-- writing to the parts is the parts of writing to the whole
pub write-part : (n : Lengths) (w : Writes) (b : Buffers) → Small n w → write w (part_of n b) ≡ part_of n (write w b)
write-part n w b h = buffers-eq (λ x. the-write w (part_of n b) x ∙ ap (over_by (w x)) (the-each (λ x. take (n x) (the x b)) x) ∙ by-take (n x) (w x) (the x b) (h x)
    ∙ sym (the-each (λ x. take (n x) (the x (write w b))) x ∙ ap (take (n x)) (the-write w b x)))

by-lent : {A : Type 0} (n : ℕ) (o : Option (List A)) (old : List A) → ((new : List A) → o ≡ some new → length new ≤ n) → over (over_by o (take n old)) old ≡ over_by o old
by-lent n none old h = over-part n old
by-lent n (some new) old h = over-lent n new old (h new refl)

-- a write to the parts, given back, is the write to the whole
pub write-lent : (n : Lengths) (w : Writes) (b : Buffers) → Small n w → over_all (write w (part_of n b)) b ≡ write w b
write-lent n w b h = buffers-eq (λ x. the-each (λ x. over (the x (write w (part_of n b))) (the x b)) x
    ∙ ap (λ l. over l (the x b)) (the-write w (part_of n b) x ∙ ap (over_by (w x)) (the-each (λ x. take (n x) (the x b)) x))
    ∙ by-lent (n x) (w x) (the x b) (h x) ∙ sym (the-write w b x))
