-- An answer has passed every test in front of it. Assumes nothing.
use mathlib.Core.Path.{◌≡◌, refl, ap}
use mathlib.Core.Bool.{Bool, true, false}
use Prim.Native.Nat.{ℕ, ◌≤◌}
use native.Mathlib.Omega.{arith}
use lib.Dec.{leb}
use borrow.Author.Tests.{leb-true}
use Rattle.rules.specs.Refusal.{Answer, refused, gives, must, then}
use Rattle.rules.specs.CodeFile.{in_range}
use Rattle.rules.proofs.Basics.{and_both}

pub refused≢gives : {A : Type 0} {k : ℕ} {a : A} → refused k ≡ gives a → ⊥
refused≢gives {k = k} {a = a} e = let z : ◌≡◌ {A = ℕ} 0 1 = cc in omega arith

pub gives-inj : {A : Type 0} (a b : A) → gives a ≡ gives b → a ≡ b
gives-inj a b e = cc

pub must-gives : {A : Type 0} (b : Bool) (k : ℕ) (a : Answer A) (t : A) → must b k a ≡ gives t → (b ≡ true) × (a ≡ gives t)
unfolding must
must-gives true k a t h = (refl, h)
must-gives false k a t h = absurd (refused≢gives h)

pub must-true : {A : Type 0} (b : Bool) (k : ℕ) (a : Answer A) → b ≡ true → must b k a ≡ a
unfolding must
must-true b k a e = ap (λ x. must x k a) e

pub must-false : {A : Type 0} (b : Bool) (k : ℕ) (a : Answer A) → b ≡ false → must b k a ≡ refused k
unfolding must
must-false b k a e = ap (λ x. must x k a) e

-- an answer that follows another: the first was no refusal
pub record Followed {A B : Type 0} (a : Answer A) (f : A → Answer B) (b : B) : Type 0 where
  pub value : A
  pub first : a ≡ gives value
  pub second : f value ≡ gives b

pub then-gives : {A B : Type 0} (a : Answer A) (f : A → Answer B) (b : B) → then a f ≡ gives b → Followed a f b
unfolding then
then-gives (refused k) f b e = absurd (refused≢gives e)
then-gives (gives x) f b e = record { value = x; first = refl; second = e }

pub then-of : {A B : Type 0} (a : Answer A) (x : A) (f : A → Answer B) → a ≡ gives x → then a f ≡ f x
unfolding then
then-of a x f e = ap (λ z. then z f) e

pub range-both : (lo hi x : ℕ) → in_range lo hi x ≡ true → (lo ≤ x) × (x ≤ hi)
unfolding in_range
range-both lo hi x h =
    let p = and_both (leb lo x) (leb x hi) h in
    (leb-true lo x p.0, leb-true x hi p.1)
