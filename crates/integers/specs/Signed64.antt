-- Signed 64-bit numbers as the code works them out: negated, multiplied by a size, added up. Assumes nothing.
use Rattle.std.specs.Prelude.{◌≡◌, refl, ℕ, ◌+◌, ◌*◌, ◌^◌, ◌≤◌, ◌<◌, ℤ, pos, neg_ℤ, ◌+ℤ◌, ◌-ℤ◌, ◌*ℤ◌}
use Rattle.std.proofs.Common.{sym, ◌∙◌, ap, ap₂, subst, arith, add-one, SFits, to_z, of_z, to_z-of_z}
use Rattle.std.proofs.Math.IntN.{+ℤ_idl}
use Rattle.std.specs.Int.{w64}
use Rattle.std.proofs.Math.Facts.{to_z_pos}
use Rattle.integers.specs.Linear.{lin, arith_z, Within}
use Rattle.integers.specs.Order.{within-zero}
use Rattle.integers.specs.Product.{abs, nat_abs-≤, within}
use Rattle.integers.specs.Machine.{op_fits, prod-fits}
use Rattle.integers.specs.Sum.{sum_to}

-- ---- an answer and its size
pub sized : {n : ℕ} {r s : ℤ} → r ≡ s → Within n s → (r ≡ s) × Within n r
sized {n} e h = (e, subst (Within n) (sym e) h)

pub abs-within : (n : ℕ) (x : ℤ) → Within n x → Within n (abs x)
abs-within n x h = within n (abs x) (nat_abs-≤ x n h)

pub pos-within : (n k : ℕ) → k ≤ n → Within n (pos k)
pos-within n k h = record { hi = h; lo = omega arith }

-- ---- negated
opposite-fits : (n : ℕ) (x : ℤ) → n < 2 ^ 63 → Within n x → SFits w64 (pos 0 -ℤ x)
opposite-fits n x = simp lin (omega arith_z)

-- y is what the machine reads back from the bits of x
module _ (x y : ℤ) (e : y ≡ x) where
  pub neg-fits : (n : ℕ) → Within n x → n < 2 ^ 63 → SFits w64 (pos 0 -ℤ y)
  neg-fits n w h = subst (λ z. SFits w64 (pos 0 -ℤ z)) (sym e) (opposite-fits n x h w)

  pub neg-reads : SFits w64 (pos 0 -ℤ y) → to_z w64 (of_z w64 (pos 0 -ℤ y)) ≡ neg_ℤ x
  neg-reads g = to_z-of_z g ∙ ap (λ z. pos 0 -ℤ z) e ∙ +ℤ_idl (neg_ℤ x)

-- ---- a size times a number
module _ (m n k : ℕ) (x : ℤ) (f : SFits w64 x) (hk : k ≤ m) (small : m < 2 ^ 63) where
  pub product-fits : m * n < 2 ^ 63 → Within n x → SFits w64 (to_z w64 k *ℤ to_z w64 (of_z w64 x))
  product-fits room w = op_fits w64 ◌*ℤ◌ (to_z_pos w64 (omega arith)) (to_z-of_z f) (prod-fits w64 m n (pos k) x room (pos-within m k hk) w)

  pub product-reads : SFits w64 (to_z w64 k *ℤ to_z w64 (of_z w64 x)) → to_z w64 (of_z w64 (to_z w64 k *ℤ to_z w64 (of_z w64 x))) ≡ pos k *ℤ x
  product-reads g = to_z-of_z g ∙ ap₂ ◌*ℤ◌ (to_z_pos w64 (omega arith)) (to_z-of_z f)

-- ---- two numbers
module _ {x y : ℤ} (f : SFits w64 x) (g : SFits w64 y) where
  module _ {m n : ℕ} (hx : Within m x) (hy : Within n y) (room : m + n < 2 ^ 63) where
    plain : (x y : ℤ) → Within m x → Within n y → SFits w64 (x +ℤ y) × SFits w64 (x -ℤ y)
    plain x y = simp lin (omega arith_z)

    pub plus-fits : SFits w64 (to_z w64 (of_z w64 x) +ℤ to_z w64 (of_z w64 y))
    plus-fits = op_fits w64 ◌+ℤ◌ (to_z-of_z f) (to_z-of_z g) (plain x y hx hy).0

    pub less-fits : SFits w64 (to_z w64 (of_z w64 x) -ℤ to_z w64 (of_z w64 y))
    less-fits = op_fits w64 ◌-ℤ◌ (to_z-of_z f) (to_z-of_z g) (plain x y hx hy).1

  pub plus-reads : SFits w64 (to_z w64 (of_z w64 x) +ℤ to_z w64 (of_z w64 y)) → to_z w64 (of_z w64 (to_z w64 (of_z w64 x) +ℤ to_z w64 (of_z w64 y))) ≡ x +ℤ y
  plus-reads h = to_z-of_z h ∙ ap₂ ◌+ℤ◌ (to_z-of_z f) (to_z-of_z g)

  pub less-reads : SFits w64 (to_z w64 (of_z w64 x) -ℤ to_z w64 (of_z w64 y)) → to_z w64 (of_z w64 (to_z w64 (of_z w64 x) -ℤ to_z w64 (of_z w64 y))) ≡ x -ℤ y
  less-reads h = to_z-of_z h ∙ ap₂ ◌-ℤ◌ (to_z-of_z f) (to_z-of_z g)

-- ---- a sum of k numbers, each between −b and b, in the bits t; and the bits of it with x added
abbrev pub Summed : ℕ → ℕ → ℕ → ℤ → Type 0
Summed b k t s = (to_z w64 t ≡ s) × Within (b * k) (to_z w64 t)

abbrev pub added : ℕ → ℤ → ℕ
added t x = of_z w64 (to_z w64 t +ℤ to_z w64 (of_z w64 x))

add-fits : (b k : ℕ) (t x : ℤ) → b * (k + 1) < 2 ^ 63 → Within (b * k) t → Within b x → SFits w64 (t +ℤ x)
add-fits b k t x = simp lin (omega arith_z)

add-within : (b k : ℕ) (t x : ℤ) → Within (b * k) t → Within b x → Within (b * (k + 1)) (t +ℤ x)
add-within b k t x = simp lin (omega arith_z)

module _ (b k t : ℕ) (x s : ℤ) (f : SFits w64 x) (room : b * (k + 1) < 2 ^ 63) (h : Summed b k t s) (w : Within b x) where
  pub summed-fits : SFits w64 (to_z w64 t +ℤ to_z w64 (of_z w64 x))
  summed-fits = subst (λ z. SFits w64 (to_z w64 t +ℤ z)) (sym (to_z-of_z f)) (add-fits b k (to_z w64 t) x room h.1 w)

  reads : to_z w64 (added t x) ≡ to_z w64 t +ℤ x
  reads = to_z-of_z summed-fits ∙ ap (λ z. to_z w64 t +ℤ z) (to_z-of_z f)

  pub summed-more : (s' : ℤ) → s' ≡ s +ℤ x → Summed b (k + 1) (added t x) s'
  summed-more s' e = (reads ∙ ap (λ z. z +ℤ x) h.0 ∙ sym e, subst (Within (b * (k + 1))) (sym reads) (add-within b k (to_z w64 t) x h.1 w))

-- what is read back from the bits of t with x added
pub added-reads : (t : ℤ) {x : ℤ} → SFits w64 x → SFits w64 (t +ℤ to_z w64 (of_z w64 x)) → to_z w64 (of_z w64 (t +ℤ to_z w64 (of_z w64 x))) ≡ t +ℤ x
added-reads t f g = to_z-of_z g ∙ ap (λ z. t +ℤ z) (to_z-of_z f)

pub summed-none : (b : ℕ) → Summed b 0 0 (pos 0)
summed-none b = (refl, within-zero (b * 0))

pub sum-next : (f : ℕ → ℤ) (k : ℕ) → sum_to (k + 1) f ≡ sum_to k f +ℤ f k
sum-next f k = ap (λ n. sum_to n f) (add-one k)

-- the sum over an index, one number more
pub summed-next : (b k t : ℕ) (x : ℤ) (f : ℕ → ℤ) → SFits w64 x → Summed b k t (sum_to k f) → Within b x → x ≡ f k → b * (k + 1) < 2 ^ 63
    → Summed b (k + 1) (added t x) (sum_to (k + 1) f)
summed-next b k t x f fits h w e room = summed-more b k t x (sum_to k f) fits room h w (sum_to (k + 1) f) (sum-next f k ∙ ap (λ z. sum_to k f +ℤ z) (sym e))
