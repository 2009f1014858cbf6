-- What the borrow checker asks of signed code. A signed local holds bits, so its goals speak of what is read back from the bits of a number.
-- Assumes nothing.
use Rattle.std.specs.Prelude.{◌≡◌, ◌⊎◌, ℕ, ◌+◌, ◌*◌, ◌/◌, ◌^◌, ◌<◌, ◌≤◌, T, ltb, ℤ, pos, negsuc, neg_ℤ, nat_abs, ◌*ℤ◌, ◌≤ℤ◌}
use Rattle.std.proofs.Common.{sym, ◌∙◌, ap, ap₂, subst, inl, inr, arith, lt_of_le_of_lt, div-le_self, pow_pos, to_z-of_z}
use Rattle.std.specs.Int.Signed.{mag, non_neg, yes_non_neg, quot_z, rem_z, mag_rem}
use Rattle.std.specs.Int.{Width}
use mir.Val.{SFits, Fits, hbits, bits, to_z, of_z}
use mir.ValLaws.{sfits_le}
use Rattle.std.proofs.Math.Facts.{Fits-nat_abs}
use Rattle.integers.specs.Linear.{up, dn, lin, arith_z, ◌⩽◌, le_out, sfits_up, sfits-dn, back, Within}
use Rattle.integers.specs.Product.{nat_abs-≤, nat_abs-*-≤, abs-pos}
use Rattle.integers.specs.Division.{signed, div_z, quot_is}

-- all that fitting tells, to be listed: `omega (arith_z, known c.ranges.x)`
pub known : {w : Width} {z : ℤ} → SFits w z → (up z < 2 ^ hbits w) × (dn z ≤ 2 ^ hbits w) × (up (to_z w (of_z w z)) + dn z ≡ up z + dn (to_z w (of_z w z)))
known h = (sfits_up h, sfits-dn h, back h)

-- an element that was read out of a slice: `fit w32 (get_or c.args.s.now c.loop-i.i (pos 0)) (omega arith)`
pub fit : (w : Width) (z : ℤ) → mag z < 2 ^ hbits w → SFits w z
fit w z h = record { sfits = h }

-- all that it tells, of an element, a struct's field or a call's result: `omega (arith_z, told w32 c.f.result c.f.type_inv)`
pub told : (w : Width) (z : ℤ) → mag z < 2 ^ hbits w → (up z < 2 ^ hbits w) × (dn z ≤ 2 ^ hbits w) × (up (to_z w (of_z w z)) + dn z ≡ up z + dn (to_z w (of_z w z)))
told w z h = known (fit w z h)

-- what `z as u32` asks of a z that is not negative: `to-unsigned tt c.ranges.z (simp lin (omega arith_z))`
pub to-unsigned : {w w' : Width} {z : ℤ} → T (ltb (hbits w) (bits w')) → SFits w z → pos 0 ≤ℤ z → T (non_neg (to_z w (of_z w z))) × Fits w' (nat_abs (to_z w (of_z w z)))
to-unsigned t f h = rw (to_z-of_z f) (yes_non_neg h, Fits-nat_abs t f)

-- `==` and `!=` compare bits: `eq-lit c.ranges.x c.if-x-eq0.true` at a literal, `eq-bits c.ranges.x c.ranges.y c.if-x-y.true` at two locals
pub eq-lit : {w : Width} {z : ℤ} {n : ℕ} → SFits w z → of_z w z ≡ n → z ≡ to_z w n
eq-lit {w} f e = sym (to_z-of_z f) ∙ ap (to_z w) e

pub eq-bits : {w : Width} {y z : ℤ} → SFits w y → SFits w z → of_z w y ≡ of_z w z → y ≡ z
eq-bits {w} f g e = eq-lit f e ∙ to_z-of_z g

-- where the arms of a branch meet: today's goals are split by an `elim` of the branch itself. The sum comes first, so that `simp` and `omega` know w's type
pub by_arm {ℓ} : {A B : Type 0} {C : Type ℓ} → A ⊎ B → (A → C) → (B → C) → C
by_arm (inl a) f g = f a
by_arm (inr b) f g = g b

-- ---- a long expression. Its value nests bits in bits, which `simp` opens to a threefold at each level: past three levels go by these, a step each.
-- `raw f` is the value of which f says that it fits
-- `reads f e`: what is read back from the bits of a raw value that fits, where e says which number the raw value is
abbrev pub raw : {w : Width} {z : ℤ} → SFits w z → ℤ
raw {z = z} f = z

pub reads : {w : Width} {x clean : ℤ} → SFits w x → x ≡ clean → to_z w (of_z w x) ≡ clean
reads f e = to_z-of_z f ∙ e

pub op_fits : (w : Width) (op : ℤ → ℤ → ℤ) {x y a b : ℤ} → x ≡ a → y ≡ b → SFits w (op a b) → SFits w (op x y)
op_fits w op p q f = subst (SFits w) (sym (ap₂ op p q)) f

-- ---- products, quotients and remainders that fit
pub fits-size : (w : Width) (z : ℤ) → nat_abs z < 2 ^ hbits w → SFits w z
fits-size w (pos n) h = record { sfits = h }
fits-size w (negsuc n) h = record { sfits = omega arith }

pub prod-fits : (w : Width) (m n : ℕ) (a b : ℤ) → m * n < 2 ^ hbits w → Within m a → Within n b → SFits w (a *ℤ b)
prod-fits w m n a b t h k = fits-size w (a *ℤ b) (lt_of_le_of_lt (nat_abs-*-≤ a b m n (nat_abs-≤ a m h) (nat_abs-≤ b n k)) t)

-- what `z / y` asks of i32's where y is at least 1
from_one : (y : ℤ) → pos 1 ⩽ y → pos 0 ⩽ y
from_one y = simp lin (omega arith_z)

pub of_z-pos : (w : Width) (y : ℤ) → pos 1 ⩽ y → 0 < of_z w y
of_z-pos w (pos n) h = omega (arith, le_out h)
of_z-pos w (negsuc n) h = absurd h.le

-- a size no greater, with the same sign
pub signed-fits : (w : Width) (z : ℤ) (n : ℕ) → SFits w z → n ≤ nat_abs z → SFits w (signed z n)
signed-fits w (pos m) n h k = record { sfits = omega (arith, h.sfits) }
signed-fits w (negsuc m) n h k = fits_neg w n (omega (arith, h.sfits))
  where
    fits_neg : (w : Width) (m : ℕ) → m ≤ 2 ^ hbits w → SFits w (neg_ℤ (pos m))
    fits_neg w m h = simp lin (omega (arith_z, pow_pos (hbits w)))

pub quot_fits : (w : Width) (z y : ℤ) → SFits w z → pos 1 ⩽ y → SFits w (quot_z z y)
quot_fits w z y f h = rw (← (abs-pos y (from_one y h))) (rw (quot_is z (nat_abs y)) (signed-fits w z (nat_abs z / nat_abs y) f (div-le_self (nat_abs z) (nat_abs y))))

pub quot-div : (z y : ℤ) → pos 1 ⩽ y → quot_z z y ≡ div_z z (nat_abs y)
quot-div z y h = ap (quot_z z) (sym (abs-pos y (from_one y h))) ∙ quot_is z (nat_abs y)

pub rem-fits : (w : Width) (z d : ℤ) → SFits w z → SFits w (rem_z z d)
rem-fits w z d f = sfits_le {y = rem_z z d} {z = z} (mag_rem z d) f
