-- A refusal's number, 0 for none: which of two comes first, and what it is in front of an answer. Assumes nothing.
use mathlib.Core.Path.{◌≡◌, refl, sym, ap, ap₂}
use mathlib.Core.Bool.{Bool, true, false, cond, ◌&&◌}
use Prim.Native.Nat.{ℕ, zero, suc}
use native.Mathlib.Nat.{suc-ne-zero}
use Rattle.rules.specs.Refusal.{Answer, refused, must}
use Rattle.inputs.specs.Refusals.{or_else, turned_down}

-- ---- of two
pub else-refused : (j k : ℕ) → (j ≡ 0 → ⊥) → or_else j k ≡ j
else-refused zero k f = absurd (f refl)
else-refused (suc j) k f = refl

pub else-next : (j k : ℕ) → j ≡ 0 → or_else j k ≡ k
else-next j k e = ap (λ x. or_else x k) e

pub else-none : (j k : ℕ) → or_else j k ≡ 0 → (j ≡ 0) × (k ≡ 0)
else-none zero k e = (refl, e)
else-none (suc j) k e = absurd (suc-ne-zero j e)

-- ---- of a test
pub test-holds : (b : Bool) (j k : ℕ) → b ≡ true → j ≡ cond b j k
test-holds b j k e = ap (λ x. cond x j k) (sym e)

pub test-fails : (b : Bool) (j k : ℕ) → b ≡ false → k ≡ cond b j k
test-fails b j k e = ap (λ x. cond x j k) (sym e)

pub cond-none : (b : Bool) (j k : ℕ) → cond b j (suc k) ≡ 0 → (b ≡ true) × (j ≡ 0)
cond-none true j k e = (refl, e)
cond-none false j k e = absurd (suc-ne-zero k e)

-- ---- in front of an answer
module _ {A : Type 0} where
  pub test-number : (b : Bool) (k r : ℕ) (a : Answer A) → must b (suc k) (turned_down r a) ≡ turned_down (cond b r (suc k)) a
  unfolding must turned_down
  test-number true k r a = refl
  test-number false k r a = refl

  pub turned-else : (j k : ℕ) (a : Answer A) → turned_down j (turned_down k a) ≡ turned_down (or_else j k) a
  unfolding turned_down
  turned-else zero k a = refl
  turned-else (suc j) k a = refl

  pub turned-refused : (k : ℕ) (a : Answer A) → (k ≡ 0 → ⊥) → refused k ≡ turned_down k a
  unfolding turned_down
  turned-refused zero a h = absurd (h refl)
  turned-refused (suc k) a h = refl

  pub turned_none : (k : ℕ) (a : Answer A) → k ≡ 0 → a ≡ turned_down k a
  unfolding turned_down
  turned_none k a e = ap (λ j. turned_down j a) (sym e)

-- No proof cites these any more, since the check finds what they say.
module _ (a b : Bool) (j k : ℕ) where
  pub both_hold : a ≡ true → b ≡ true → j ≡ cond (a && b) j k
  both_hold e f = ap₂ (λ x y. cond (x && y) j k) (sym e) (sym f)
