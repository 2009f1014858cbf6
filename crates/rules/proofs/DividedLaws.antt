-- Step 1's division: nearest, halves away from zero, odd in the total, and 0 exactly if the total is less than half the number of edges in size. Assumes nothing.
use mathlib.Core.Path.{◌≡◌, sym, ◌∙◌, ap, subst}
use mathlib.Core.Logic.{◌↔◌}
use Prim.Native.Nat.{ℕ, zero, suc, ◌+◌, ◌*◌, ◌<◌, ◌≤◌}
use native.Mathlib.Omega.{arith}
use lib.IntN.{ℤ, pos, negsuc, neg_ℤ, nat_abs, ◌+ℤ◌, ◌-ℤ◌, ◌*ℤ◌}
use Rattle.integers.specs.Linear.{lin, arith_z, le_out, ◌⩽◌}
use Rattle.integers.specs.Product.{nat_abs-is}
use Rattle.integers.specs.Division.{signed, signed-neg, signed-size, signed-times, nearest, nearest-none, nearest-low, nearest-high, nearest-half, nearest_zero}
use Rattle.rules.specs.Round.{divided}

pub divided-size : (t : ℤ) (d : ℕ) → nat_abs (divided t d) ≡ nearest (nat_abs t) d
unfolding divided
divided-size t d = signed-size t (nearest (nat_abs t) d)

none_over : (d : ℕ) → nearest 0 d ≡ 0
none_over zero = nearest-none 0
none_over (suc d) = (nearest_zero 0 (suc d) (omega arith)).1 (omega arith)

-- odd: all of the division that symmetry needs
pub divided-neg : (t : ℤ) (d : ℕ) → divided (neg_ℤ t) d ≡ neg_ℤ (divided t d)
unfolding divided
divided-neg t d = signed-neg (λ n. nearest n d) (none_over d) t

-- a bit without an edge has quotient 0
pub divided-none : (t : ℤ) → divided t 0 ≡ pos 0
unfolding divided
divided-none (pos n) = ap pos (nearest-none n)
divided-none (negsuc n) = ap (λ k. neg_ℤ (pos k)) (nearest-none (suc n))

module _ (d : ℕ) (h : 1 ≤ d) where
  -- total and degree times quotient are at most half the degree apart
  pub divided-near : (t : ℤ) → 2 * nat_abs (t -ℤ pos d *ℤ divided t d) ≤ d
  unfolding divided
  divided-near t = subst (λ x. 2 * nat_abs (t -ℤ x) ≤ d) (sym (signed-times d (nearest (nat_abs t) d) t))
      (apart t (d * nearest (nat_abs t) d) (nearest-low (nat_abs t) d h) (nearest-high (nat_abs t) d h))
    where
      half : (x : ℤ) → x +ℤ x ⩽ pos d → neg_ℤ (x +ℤ x) ⩽ pos d → 2 * nat_abs x ≤ d
      half (pos n) a b = omega (arith, le_out a)
      half (negsuc n) a b = omega (arith, le_out b)

      apart : (t : ℤ) (b : ℕ) → 2 * b ≤ 2 * nat_abs t + d → 2 * nat_abs t < 2 * b + d → 2 * nat_abs (t -ℤ signed t b) ≤ d
      apart (pos n) b low high = half (pos n -ℤ pos b) (simp lin (omega arith_z)) (simp lin (omega arith_z))
      apart (negsuc n) b low high = half (negsuc n -ℤ neg_ℤ (pos b)) (simp lin (omega arith_z)) (simp lin (omega arith_z))

  -- a half goes away from zero
  pub divided-half : (t : ℤ) (k : ℕ) → 2 * nat_abs t ≡ d * (2 * k + 1) → divided t d ≡ signed t (k + 1)
  unfolding divided
  divided-half t k e = ap (signed t) (nearest-half (nat_abs t) d h k e)

  pub divided-zero : (t : ℤ) → (divided t d ≡ pos 0) ↔ (2 * nat_abs t < d)
  divided-zero t = (λ e. (nearest_zero (nat_abs t) d h).0 (sym (divided-size t d) ∙ ap nat_abs e), λ k. size-zero (divided t d) (divided-size t d ∙ (nearest_zero (nat_abs t) d h).1 k))
    where
      size-zero : (z : ℤ) → nat_abs z ≡ 0 → z ≡ pos 0
      size-zero z e = simp lin (omega (arith_z, nat_abs-is z))
