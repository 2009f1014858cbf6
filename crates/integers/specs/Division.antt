-- Quotients of sizes with a sign: division toward zero, and to the nearest whole number. Assumes nothing.
use Rattle.std.specs.Prelude.{◌≡◌, refl, ◌↔◌, ℕ, zero, suc, ◌+◌, ◌*◌, ◌/◌, ◌%◌, ◌<◌, ◌≤◌, ℤ, pos, negsuc, neg_ℤ, nat_abs, ◌-ℤ◌, ◌*ℤ◌}
use Rattle.std.proofs.Common.{sym, ◌∙◌, ap, arith, mod-lt, div-lt_iff_lt-mul, mul-le-mul_right}
use Rattle.std.proofs.Math.Nat.{div-zero, div-add-mod, div-eq_of_lt, div-eq_of_lt-le, div-eq_of_eq-mul_right, mul-div-le, lt-mul-div-succ}
use Rattle.std.proofs.Math.IntN.{neg_ℤ-neg_ℤ}
use Rattle.std.specs.Int.Signed.{quot_z}
use Rattle.integers.specs.Linear.{lin, arith_z}
use Rattle.integers.specs.Product.{abs_neg, *ℤ-negℤ}

-- the size n with the sign of z
abbrev pub signed : ℤ → ℕ → ℤ
signed (pos m) n = pos n
signed (negsuc m) n = neg_ℤ (pos n)

-- odd in z, if a size of 0 stays 0
pub signed-neg : (f : ℕ → ℕ) → f 0 ≡ 0 → (z : ℤ) → signed (neg_ℤ z) (f (nat_abs (neg_ℤ z))) ≡ neg_ℤ (signed z (f (nat_abs z)))
signed-neg f e (pos zero) = ap pos e ∙ sym (ap (λ n. neg_ℤ (pos n)) e)
signed-neg f e (pos (suc n)) = refl
signed-neg f e (negsuc n) = sym (neg_ℤ-neg_ℤ (pos (f (suc n))))

pub signed-size : (z : ℤ) (n : ℕ) → nat_abs (signed z n) ≡ n
signed-size (pos m) n = refl
signed-size (negsuc m) n = abs_neg (pos n)

pub signed-times : (d n : ℕ) (z : ℤ) → pos d *ℤ signed z n ≡ signed z (d * n)
signed-times d n (pos m) = refl
signed-times d n (negsuc m) = *ℤ-negℤ (pos d) (pos n)

pub signed-minus : (a b : ℕ) (z : ℤ) → a + b ≡ nat_abs z → z -ℤ signed z a ≡ signed z b
signed-minus a b (pos m) e = simp lin (omega (arith_z, e))
signed-minus a b (negsuc m) e = simp lin (omega (arith_z, e))

-- ---- toward zero, as the machine divides
abbrev pub div_z : ℤ → ℕ → ℤ
div_z z d = signed z (nat_abs z / d)

pub quot_is : (z : ℤ) (d : ℕ) → quot_z z (pos d) ≡ div_z z d
quot_is (pos n) d = refl
quot_is (negsuc n) d = refl

-- what it leaves has the same sign
pub rest-is : (z : ℤ) (d : ℕ) → z -ℤ pos d *ℤ div_z z d ≡ signed z (nat_abs z % d)
rest-is z d = ap (λ y. z -ℤ y) (signed-times d (nat_abs z / d) z) ∙ signed-minus (d * (nat_abs z / d)) (nat_abs z % d) z (div-add-mod (nat_abs z) d)

-- ---- to the nearest: n over d and a half, as doubled numbers since half of an odd one is none. Of two that are nearest it is the greater
abbrev pub nearest : ℕ → ℕ → ℕ
nearest n d = (2 * n + d) / (2 * d)

pub nearest-none : (n : ℕ) → nearest n 0 ≡ 0
nearest-none n = div-zero (2 * n + 0)

module _ (n d : ℕ) (h : 1 ≤ d) where
  -- not more than half of d above n over d, and less than half of it below
  pub nearest-low : 2 * (d * nearest n d) ≤ 2 * n + d
  nearest-low = omega (arith, mul-div-le (2 * n + d) (2 * d))

  pub nearest-high : 2 * n < 2 * (d * nearest n d) + d
  nearest-high = omega (arith, lt-mul-div-succ (2 * n + d) {b = 2 * d} (omega arith))

  pub nearest_zero : (nearest n d ≡ 0) ↔ (2 * n < d)
  nearest_zero = (λ e. omega (arith, nearest-high, ap (λ q. d * q) e), λ k. div-eq_of_lt (omega arith))

  -- a half goes up
  pub nearest-half : (k : ℕ) → 2 * n ≡ d * (2 * k + 1) → nearest n d ≡ k + 1
  nearest-half k e = div-eq_of_eq-mul_right {n = 2 * d} (omega arith) (omega (arith, e))

  pub nearest-le : nearest n d ≤ n
  nearest-le = omega (arith, (div-lt_iff_lt-mul {k = 2 * d} {x = 2 * n + d} {y = n + 1} (omega arith)).1 (omega (arith, mul-le-mul_right n h)))

  -- from quotient and remainder
  pub nearest-up : d ≤ 2 * (n % d) → nearest n d ≡ n / d + 1
  nearest-up k = div-eq_of_lt-le (2 * d) (omega (arith, div-add-mod n d)) (omega (arith, div-add-mod n d, mod-lt n h))

  pub nearest-stays : 2 * (n % d) < d → nearest n d ≡ n / d
  nearest-stays k = div-eq_of_lt-le (2 * d) (omega (arith, div-add-mod n d)) (omega (arith, div-add-mod n d))
