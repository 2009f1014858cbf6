-- Products on ℤ: the laws of a ring, and how a product stands in the order. Assumes nothing.
--     simp ring (omega arith_z)    as `simp lin`, with products multiplied out: an equation of ℤ's ring whose monomials have at most two unknown factors
use Rattle.std.specs.Prelude.{◌≡◌, refl, ◌↔◌, ◌⊎◌, ℕ, zero, suc, ◌+◌, ◌*◌, ◌≤◌, ℤ, pos, negsuc, neg_ℤ, ◌+ℤ◌, ◌*ℤ◌, nat_abs, ◌≤ℤ◌, ◌<ℤ◌}
use Rattle.std.proofs.Common.{sym, ◌∙◌, ap, inl, inr, arith, mul-le-mul_left, mul-le-mul_right, le_trans}
use Rattle.std.proofs.Math.IntN.{*ℤ_comm}
use Rattle.integers.specs.Linear.{up, dn, up_neg, dn-neg, sum-lin, eq-in, le_in, le_out, lin, arith_z, ◌⩽◌, Within}
use Rattle.integers.specs.Order.{le-or-lt, le_of_eq, le_antisym, pos-le}

pub mul-lin : (x y : ℤ) → up (x *ℤ y) + (up x * dn y + dn x * up y) ≡ dn (x *ℤ y) + (up x * up y + dn x * dn y)
mul-lin (pos a) (pos b) = omega arith
mul-lin (pos a) (negsuc b) = omega (arith, up_neg (pos (a * suc b)), dn-neg (pos (a * suc b)))
mul-lin (negsuc a) (pos b) = omega (arith, up_neg (pos (suc a * b)), dn-neg (pos (suc a * b)))
mul-lin (negsuc a) (negsuc b) = omega arith

-- a multiple of an equation of ℕ
times : (k : ℕ) {m n : ℕ} → m ≡ n → k * m ≡ k * n
times k e = ap (λ t. k * t) e

pub *ℤ-+ℤ : (a b c : ℤ) → a *ℤ (b +ℤ c) ≡ a *ℤ b +ℤ a *ℤ c
*ℤ-+ℤ a b c = eq-in (omega (arith, mul-lin a (b +ℤ c), mul-lin a b, mul-lin a c, sum-lin (a *ℤ b) (a *ℤ c), times (up a) (sum-lin b c), times (dn a) (sum-lin b c)))

pub +ℤ-*ℤ : (a b c : ℤ) → (a +ℤ b) *ℤ c ≡ a *ℤ c +ℤ b *ℤ c
+ℤ-*ℤ a b c = eq-in (omega (arith, mul-lin (a +ℤ b) c, mul-lin a c, mul-lin b c, sum-lin (a *ℤ c) (b *ℤ c), times (up c) (sum-lin a b), times (dn c) (sum-lin a b)))

pub negℤ-*ℤ : (a b : ℤ) → neg_ℤ a *ℤ b ≡ neg_ℤ (a *ℤ b)
negℤ-*ℤ a b =
    eq-in (omega (arith, mul-lin (neg_ℤ a) b, mul-lin a b, up_neg (a *ℤ b), dn-neg (a *ℤ b), times (up b) (up_neg a), times (up b) (dn-neg a), times (dn b) (up_neg a), times (dn b) (dn-neg a)))

pub *ℤ-negℤ : (a b : ℤ) → a *ℤ neg_ℤ b ≡ neg_ℤ (a *ℤ b)
*ℤ-negℤ a b =
    eq-in (omega (arith, mul-lin a (neg_ℤ b), mul-lin a b, up_neg (a *ℤ b), dn-neg (a *ℤ b), times (up a) (up_neg b), times (up a) (dn-neg b), times (dn a) (up_neg b), times (dn a) (dn-neg b)))

pub *ℤ-assoc : (a b c : ℤ) → (a *ℤ b) *ℤ c ≡ a *ℤ (b *ℤ c)
*ℤ-assoc a b c = eq-in (omega (arith, mul-lin (a *ℤ b) c, mul-lin a (b *ℤ c), times (up c) (mul-lin a b), times (dn c) (mul-lin a b), times (up a) (mul-lin b c), times (dn a) (mul-lin b c)))

pub *ℤ-left-comm : (a b c : ℤ) → a *ℤ (b *ℤ c) ≡ b *ℤ (a *ℤ c)
*ℤ-left-comm a b c = sym (*ℤ-assoc a b c) ∙ ap (λ t. t *ℤ c) (*ℤ_comm a b) ∙ *ℤ-assoc b a c

-- a multiple by a literal: commutativity brings the literal to either side
pub up-scale : (k : ℕ) (x : ℤ) → up (pos k *ℤ x) ≡ k * up x
up-scale k (pos n) = refl
up-scale k (negsuc n) = up_neg (pos (k * suc n)) ∙ omega arith

pub dn-scale : (k : ℕ) (x : ℤ) → dn (pos k *ℤ x) ≡ k * dn x
dn-scale k (pos n) = omega arith
dn-scale k (negsuc n) = dn-neg (pos (k * suc n))

pub up-scale' : (k : ℕ) (x : ℤ) → up (x *ℤ pos k) ≡ k * up x
up-scale' k x = ap up (*ℤ_comm x (pos k)) ∙ up-scale k x

pub dn-scale' : (k : ℕ) (x : ℤ) → dn (x *ℤ pos k) ≡ k * dn x
dn-scale' k x = ap dn (*ℤ_comm x (pos k)) ∙ dn-scale k x

pub negsuc-*ℤ : (k : ℕ) (x : ℤ) → negsuc k *ℤ x ≡ neg_ℤ (pos (suc k) *ℤ x)
negsuc-*ℤ k x = negℤ-*ℤ (pos (suc k)) x

pub *ℤ-negsuc' : (k : ℕ) (x : ℤ) → x *ℤ negsuc k ≡ neg_ℤ (pos (suc k) *ℤ x)
*ℤ-negsuc' k x = *ℤ_comm x (negsuc k) ∙ negsuc-*ℤ k x

-- and within a product, where sorting leaves it last
pub up-last : (k : ℕ) (x y : ℤ) → up (x *ℤ (y *ℤ pos k)) ≡ k * up (x *ℤ y)
up-last k x y = ap up (sym (*ℤ-assoc x y (pos k))) ∙ up-scale' k (x *ℤ y)

pub dn-last : (k : ℕ) (x y : ℤ) → dn (x *ℤ (y *ℤ pos k)) ≡ k * dn (x *ℤ y)
dn-last k x y = ap dn (sym (*ℤ-assoc x y (pos k))) ∙ dn-scale' k (x *ℤ y)

pub up-last' : (k : ℕ) (x y z : ℤ) → up (x *ℤ (y *ℤ (z *ℤ pos k))) ≡ k * up (x *ℤ (y *ℤ z))
up-last' k x y z = ap (λ t. up (x *ℤ t)) (sym (*ℤ-assoc y z (pos k))) ∙ up-last k x (y *ℤ z)

pub dn-last' : (k : ℕ) (x y z : ℤ) → dn (x *ℤ (y *ℤ (z *ℤ pos k))) ≡ k * dn (x *ℤ (y *ℤ z))
dn-last' k x y z = ap (λ t. dn (x *ℤ t)) (sym (*ℤ-assoc y z (pos k))) ∙ dn-last k x (y *ℤ z)

-- the product's size
pub nat_abs-is : (x : ℤ) → nat_abs x ≡ up x + dn x
nat_abs-is (pos n) = omega arith
nat_abs-is (negsuc n) = omega arith

-- multiplied out, sorted, and read as `lin` reads
pub ruleset ring = (*ℤ-+ℤ, +ℤ-*ℤ, negℤ-*ℤ, *ℤ-negℤ, *ℤ-assoc, *ℤ_comm, *ℤ-left-comm, negsuc-*ℤ, *ℤ-negsuc', lin, up-scale, dn-scale, up-scale', dn-scale', up-last, dn-last, up-last', dn-last')

pub once : (x : ℤ) → x ≡ pos 1 *ℤ x
once x = simp ring (omega arith_z)

-- ---- order

pub mul_mono : (c a b : ℤ) → pos 0 ⩽ c → a ⩽ b → c *ℤ a ⩽ c *ℤ b
mul_mono (pos k) a b hc h = simp ring (omega (arith_z, mul-le-mul_left k (le_out h)))
mul_mono (negsuc k) a b hc h = absurd hc.le

pub mul-cancel-le : (k : ℕ) (x y : ℤ) → 1 ≤ k → pos k *ℤ x ⩽ pos k *ℤ y → x ⩽ y
mul-cancel-le k x y h e = go (le-or-lt x y)
  where
    next : (x y : ℤ) → y <ℤ x → y +ℤ pos 1 ⩽ x
    next x y = simp lin (omega arith_z)

    spread : (k y : ℤ) → k *ℤ (y +ℤ pos 1) ≡ k *ℤ y +ℤ k
    spread k y = simp ring (omega arith_z)

    over : (a b c : ℤ) (k : ℕ) → 1 ≤ k → a ⩽ b → c ⩽ a → c ≡ b +ℤ pos k → ⊥
    over a b c k = simp lin (omega arith_z)

    go : (x ≤ℤ y) ⊎ (y <ℤ x) → x ⩽ y
    go (inl p) = p
    go (inr p) = absurd (over (pos k *ℤ x) (pos k *ℤ y) (pos k *ℤ (y +ℤ pos 1)) k h e (mul_mono (pos k) (y +ℤ pos 1) x (pos-le 0 k (omega arith)) (next x y p)) (spread (pos k) y))

cancel-pos : (k : ℕ) (x y : ℤ) → pos (suc k) *ℤ x ≡ pos (suc k) *ℤ y → x ≡ y
cancel-pos k x y e = le_antisym x y (mul-cancel-le (suc k) x y (omega arith) (le_of_eq _ _ e)) (mul-cancel-le (suc k) y x (omega arith) (le_of_eq _ _ (sym e)))

neg_inj : (a b : ℤ) → neg_ℤ a ≡ neg_ℤ b → a ≡ b
neg_inj a b = simp lin (omega arith_z)

pub mul-cancel : (r x y : ℤ) → (r ≡ pos 0 → ⊥) → x *ℤ r ≡ y *ℤ r → x ≡ y
mul-cancel (pos zero) x y f e = absurd (f refl)
mul-cancel (pos (suc k)) x y f e = cancel-pos k x y (*ℤ_comm (pos (suc k)) x ∙ e ∙ *ℤ_comm y (pos (suc k)))
mul-cancel (negsuc k) x y f e = cancel-pos k x y (neg_inj (pos (suc k) *ℤ x) (pos (suc k) *ℤ y) (sym (*ℤ-negsuc' k x) ∙ e ∙ *ℤ-negsuc' k y))

-- the size as a whole number
abbrev pub abs : ℤ → ℤ
abs z = pos (nat_abs z)

pub abs-hi : (z : ℤ) → z ⩽ abs z
abs-hi (pos n) = simp lin (omega arith_z)
abs-hi (negsuc n) = simp lin (omega arith_z)

pub abs-lo : (z : ℤ) → neg_ℤ z ⩽ abs z
abs-lo z = le_in (omega (arith, up_neg z, dn-neg z, nat_abs-is z))

pub abs-le : (z b : ℤ) → z ⩽ b → neg_ℤ z ⩽ b → abs z ⩽ b
abs-le (pos n) b h k = h
abs-le (negsuc n) b h k = k

pub abs-le⇔ : (z b : ℤ) → (abs z ≤ℤ b) ↔ ((z ≤ℤ b) × (neg_ℤ z ≤ℤ b))
abs-le⇔ z b = (λ h. (simp lin (omega (arith_z, le_out h, nat_abs-is z)), simp lin (omega (arith_z, le_out h, nat_abs-is z))), λ p. abs-le z b p.0 p.1)

pub abs-add : (a b : ℤ) → abs (a +ℤ b) ⩽ abs a +ℤ abs b
abs-add a b = abs-le (a +ℤ b) (abs a +ℤ abs b) (simp lin (omega (arith_z, nat_abs-is a, nat_abs-is b))) (simp lin (omega (arith_z, nat_abs-is a, nat_abs-is b)))

pub abs_neg : (z : ℤ) → nat_abs (neg_ℤ z) ≡ nat_abs z
abs_neg z = omega (arith, nat_abs-is z, nat_abs-is (neg_ℤ z), up_neg z, dn-neg z)

pub nat_abs-*ℤ : (a b : ℤ) → nat_abs (a *ℤ b) ≡ nat_abs a * nat_abs b
nat_abs-*ℤ (pos a) (pos b) = refl
nat_abs-*ℤ (pos a) (negsuc b) = abs_neg (pos (a * suc b))
nat_abs-*ℤ (negsuc a) (pos b) = abs_neg (pos (suc a * b))
nat_abs-*ℤ (negsuc a) (negsuc b) = refl

-- p between -D and D: p * r is at most D * |r|
pub mul-abs : (D p r : ℤ) → neg_ℤ D ⩽ p → p ⩽ D → p *ℤ r ⩽ D *ℤ abs r
mul-abs D p (pos n) lo hi = simp ring (omega (arith_z, mul-le-mul_left n (le_out hi)))
mul-abs D p (negsuc n) lo hi = simp ring (omega (arith_z, mul-le-mul_left (suc n) (simp lin at lo)))

-- ---- sizes as naturals: the way to bound a product

pub nat_abs-≤ : (z : ℤ) (n : ℕ) → Within n z → nat_abs z ≤ n
nat_abs-≤ (pos m) n h = h.hi
nat_abs-≤ (negsuc m) n h = h.lo

pub within : (n : ℕ) (z : ℤ) → nat_abs z ≤ n → Within n z
within n z h = record { hi = omega (arith, nat_abs-is z); lo = omega (arith, nat_abs-is z) }

pub nat_abs-*-≤ : (a b : ℤ) (m n : ℕ) → nat_abs a ≤ m → nat_abs b ≤ n → nat_abs (a *ℤ b) ≤ m * n
nat_abs-*-≤ a b m n h k = simp nat_abs-*ℤ (le_trans (mul-le-mul_right (nat_abs b) h) (mul-le-mul_left m k))

pub within-* : (m n : ℕ) (a b : ℤ) → Within m a → Within n b → Within (m * n) (a *ℤ b)
within-* m n a b h k = within (m * n) (a *ℤ b) (nat_abs-*-≤ a b m n (nat_abs-≤ a m h) (nat_abs-≤ b n k))

pub abs-pos : (z : ℤ) → pos 0 ⩽ z → abs z ≡ z
abs-pos (pos n) h = refl
abs-pos (negsuc n) h = absurd h.le

pub abs-negative : (z : ℤ) → z ⩽ pos 0 → abs z ≡ neg_ℤ z
abs-negative (pos n) h = eq-in (omega (arith, le_out h, up_neg (pos n), dn-neg (pos n)))
abs-negative (negsuc n) h = refl
