-- The nearest quotient from the one toward zero and its remainder, and what the code's comparisons say. Assumes nothing.
use mathlib.Core.Path.{◌≡◌, refl, sym, ◌∙◌, ap, ap₂, subst}
use mathlib.Core.Bool.{Bool, true, false}
use Prim.Native.Nat.{ℕ, suc, ◌*◌, ◌/◌, ◌%◌, ◌≤◌, ◌<◌}
use native.Mathlib.Omega.{arith}
use native.Mathlib.Decide.{dec_le}
use native.Mathlib.Nat.{lt_of_not-le, div-le_self, mod-lt}
use lib.IntN.{ℤ, pos, negsuc, neg_ℤ, nat_abs, ◌+ℤ◌, ◌-ℤ◌, neg_ℤ-neg_ℤ}
use lib.Signed.{◌≤ℤ◌, ◌<ℤ◌, le_z, rem_z}
use mir.Syntax.{Width}
use mir.Val.{SFits, bool_byte}
use Rattle.std.specs.Int.{int_max, int_min}
use Rattle.integers.specs.Linear.{lin, arith_z, le_out, ◌⩽◌, Within, lt-lt_z, le-lt_z, le-le_z, lt-le_z, up_neg, dn-neg}
use Rattle.integers.specs.Clip.{clip_z, clip-low, clip-high, clip-mid, Place, below, above, inside, place}
use Rattle.integers.specs.Order.{le_z-le, nle_z-lt}
use Rattle.integers.specs.Product.{abs-pos, nat_abs-is, within}
use Rattle.integers.specs.Division.{signed, signed-size, div_z, nearest, nearest-le, nearest-up, nearest-stays}
use Rattle.integers.specs.Machine.{signed-fits}
use Rattle.rules.specs.Round.{divided}
use Rattle.spin.specs.Spin.{Degree, lacks}

-- ---- a number of edges
module _ {d : ℤ} (h : Degree d) where
  pub degree-is : d ≡ pos (nat_abs d)
  degree-is = sym (abs-pos d (above-none d h.some))
    where
      above-none : (d : ℤ) → pos 1 ⩽ d → pos 0 ⩽ d
      above-none d = simp lin (omega arith_z)

  pub degree-some : 1 ≤ nat_abs d
  degree-some = omega (arith_z, le_out h.some, nat_abs-is d)

  pub degree-few : nat_abs d ≤ 65535
  degree-few = omega (arith, le_out (subst (λ z. z ≤ℤ pos 65535) degree-is h.few))

-- ---- a number clipped as std clamps it
low : (n : ℕ) (x : ℤ) → x <ℤ neg_ℤ (pos n) → x ≤ℤ pos n
low n x = simp lin (omega (arith_z, up_neg (pos n), dn-neg (pos n)))

pub clamped : (n : ℕ) (x : ℤ) → int_max (neg_ℤ (pos n)) (int_min x (pos n)) ≡ clip_z n x
clamped n x = go (place n x)
  where
    go : Place n x → int_max (neg_ℤ (pos n)) (int_min x (pos n)) ≡ clip_z n x
    go (below h) = rw (le-lt_z (pos n) x (low n x h), lt-lt_z x (neg_ℤ (pos n)) h) (sym (clip-low n x h))
    go (above h) = rw (lt-lt_z (pos n) x h, le-lt_z (pos n) (neg_ℤ (pos n)) (simp lin (omega arith_z))) (sym (clip-high n x h))
    go (inside h) = rw (le-lt_z (pos n) x (simp lin (omega arith_z)), le-lt_z x (neg_ℤ (pos n)) (simp lin (omega arith_z))) (sym (clip-mid n x h))

-- ---- what a quotient lacks
pub lacks-one : (r d : ℤ) → d ≤ℤ (r +ℤ r) → pos 1 ≡ lacks r d
unfolding lacks
lacks-one r d h = rw (le-lt_z (r +ℤ r) d h)

pub lacks-none : (r d : ℤ) → (r +ℤ r) <ℤ d → pos 0 ≡ lacks r d
unfolding lacks
lacks-none r d h = rw (lt-lt_z (r +ℤ r) d h)

-- as the code compares, upward and downward
pub lacks-up : (r d : ℤ) → pos (bool_byte (le_z d (r +ℤ r))) ≡ lacks r d
lacks-up r d = go (le_z d (r +ℤ r)) refl
  where
    go : (b : Bool) → le_z d (r +ℤ r) ≡ b → pos (bool_byte b) ≡ lacks r d
    go true e = lacks-one r d (le_z-le d (r +ℤ r) e)
    go false e = lacks-none r d (nle_z-lt d (r +ℤ r) e)

lacks-turned : (r d : ℤ) → le_z (r +ℤ r) (pos 0 -ℤ d) ≡ le_z d (neg_ℤ r +ℤ neg_ℤ r)
lacks-turned r d = go (le_z d (neg_ℤ r +ℤ neg_ℤ r)) refl
  where
    go : (b : Bool) → le_z d (neg_ℤ r +ℤ neg_ℤ r) ≡ b → le_z (r +ℤ r) (pos 0 -ℤ d) ≡ b
    go true e = le-le_z (r +ℤ r) (pos 0 -ℤ d) (simp lin (omega (arith_z, simp lin at e)))
    go false e = lt-le_z (r +ℤ r) (pos 0 -ℤ d) (simp lin (omega (arith_z, simp lin at e)))

pub lacks-down : (r d : ℤ) → pos (bool_byte (le_z (r +ℤ r) (pos 0 -ℤ d))) ≡ lacks (neg_ℤ r) d
lacks-down r d = ap (λ b. pos (bool_byte b)) (lacks-turned r d) ∙ lacks-up (neg_ℤ r) d

-- ---- the nearest quotient from the one toward zero
nearest-is : (n d : ℕ) → 1 ≤ d → pos (nearest n d) ≡ pos (n / d) +ℤ lacks (pos (n % d)) (pos d)
nearest-is n d h = go (dec_le d (2 * (n % d)))
  where
    twice : (k : ℕ) → d ≤ 2 * k → pos d ⩽ pos k +ℤ pos k
    twice k = simp lin (omega arith_z)

    less : (k : ℕ) → 2 * k < d → (pos k +ℤ pos k) <ℤ pos d
    less k = simp lin (omega arith_z)

    go : Dec (d ≤ 2 * (n % d)) → pos (nearest n d) ≡ pos (n / d) +ℤ lacks (pos (n % d)) (pos d)
    go (yes k) = ap pos (nearest-up n d h k) ∙ ap (λ z. pos (n / d) +ℤ z) (lacks-one (pos (n % d)) (pos d) (twice (n % d) k))
    go (no f) = ap pos (nearest-stays n d h (lt_of_not-le f)) ∙ none-added (pos (n / d)) ∙ ap (λ z. pos (n / d) +ℤ z) (lacks-none (pos (n % d)) (pos d) (less (n % d) (lt_of_not-le f)))
      where
        none-added : (x : ℤ) → x ≡ x +ℤ pos 0
        none-added x = simp lin (omega arith_z)

-- a remainder below 0 lacks nothing upward
below_none : (k d : ℕ) → 1 ≤ d → pos 0 ≡ lacks (neg_ℤ (pos k)) (pos d)
below_none k d h = lacks-none (neg_ℤ (pos k)) (pos d) (less k d h)
  where
    less : (k d : ℕ) → 1 ≤ d → (neg_ℤ (pos k) +ℤ neg_ℤ (pos k)) <ℤ pos d
    less k d = simp lin (omega arith_z)

-- r is what the quotient of t toward zero leaves
abbrev pub left : ℤ → ℕ → ℤ
left t d = signed t (nat_abs t % d)

-- as `%` answers it
pub remainder-is : (t d : ℤ) → rem_z t d ≡ left t (nat_abs d)
remainder-is (pos n) d = refl
remainder-is (negsuc n) d = refl

module _ (d : ℕ) (h : 1 ≤ d) where
  pub rounded : (t : ℤ) → (div_z t d +ℤ lacks (left t d) (pos d)) -ℤ lacks (neg_ℤ (left t d)) (pos d) ≡ divided t d
  unfolding divided
  rounded (pos n) = ap₂ ◌-ℤ◌ (sym (nearest-is n d h)) (sym (below_none (n % d) d h)) ∙ none-less (pos (nearest n d))
    where
      none-less : (x : ℤ) → x -ℤ pos 0 ≡ x
      none-less x = simp lin (omega arith_z)
  rounded (negsuc n) =
      let k = suc n % d in
      ap₂ (λ x y. (neg_ℤ (pos (suc n / d)) +ℤ x) -ℤ y) (sym (below_none k d h)) (ap (λ r. lacks r (pos d)) (neg_ℤ-neg_ℤ (pos k)))
      ∙ turned (pos (suc n / d)) (lacks (pos k) (pos d)) ∙ ap neg_ℤ (sym (nearest-is (suc n) d h))
    where
      turned : (q x : ℤ) → (neg_ℤ q +ℤ pos 0) -ℤ x ≡ neg_ℤ (q +ℤ x)
      turned q x = simp lin (omega arith_z)

  -- on the way it stays within what a total may be
  pub raised-fits : (w : Width) (t : ℤ) → SFits w t → SFits w (div_z t d +ℤ lacks (left t d) (pos d))
  raised-fits w (pos n) f = subst (SFits w) (nearest-is n d h) (signed-fits w (pos n) (nearest n d) f (nearest-le n d h))
  raised-fits w (negsuc n) f = subst (λ x. SFits w (neg_ℤ (pos (suc n / d)) +ℤ x)) (below_none (suc n % d) d h)
      (none-added w (div_z (negsuc n) d) (signed-fits w (negsuc n) (suc n / d) f (div-le_self (suc n) d)))
    where
      none-added : (w : Width) (x : ℤ) → SFits w x → SFits w (x +ℤ pos 0)
      none-added w x = simp lin (omega arith_z)

  pub rounded-fits : (w : Width) (t : ℤ) → SFits w t → SFits w (divided t d)
  unfolding divided
  rounded-fits w t f = signed-fits w t (nearest (nat_abs t) d) f (nearest-le (nat_abs t) d h)

  pub left-small : (m : ℕ) → d ≤ m → (t : ℤ) → Within m (left t d)
  left-small m k t = within m (left t d) (omega (arith, signed-size t (nat_abs t % d), mod-lt (nat_abs t) h))

-- No proof cites these any more, since the check finds what they say.
module _ {x x' y y' : ℤ} (e : x ≡ x') (f : y ≡ y') where
  pub at_most : le_z x y ≡ true → x' ≤ℤ y'
  at_most h = subst (λ z. z ≤ℤ y') e (subst (λ z. x ≤ℤ z) f (le_z-le x y h))
