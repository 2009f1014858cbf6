-- Clipping to -n .. n: it stays inside, leaves what is inside, is odd, and does not fall. Assumes nothing.
use Rattle.std.specs.Prelude.{◌≡◌, refl, Bool, true, false, cond, ◌⊎◌, ◌↔◌, ℕ, ◌≤◌, ℤ, pos, neg_ℤ, nat_abs, ◌≤ℤ◌, ◌<ℤ◌}
use Rattle.std.proofs.Common.{sym, ◌∙◌, ap, subst, inl, inr, arith}
use Rattle.std.proofs.Math.IntN.{neg_ℤ-neg_ℤ}
use Rattle.std.specs.Int.Signed.{lt_z, ≤ℤ_refl}
use Rattle.integers.specs.Linear.{lin, arith_z, ◌⩽◌, Within, lt-lt_z, le-lt_z, up_neg, dn-neg}
use Rattle.integers.specs.Order.{le-or-lt, within-zero, within_low, within-high}

unfoldable pub clip_z : ℕ → ℤ → ℤ
clip_z n z = cond (lt_z z (neg_ℤ (pos n))) (neg_ℤ (pos n)) (cond (lt_z (pos n) z) (pos n) z)

pub clip-low : (n : ℕ) (z : ℤ) → z <ℤ neg_ℤ (pos n) → clip_z n z ≡ neg_ℤ (pos n)
unfolding clip_z
clip-low n z h = rw (lt-lt_z z (neg_ℤ (pos n)) h)

pub clip-high : (n : ℕ) (z : ℤ) → pos n <ℤ z → clip_z n z ≡ pos n
unfolding clip_z
clip-high n z h = rw (le-lt_z z (neg_ℤ (pos n)) (simp lin (omega arith_z)), lt-lt_z (pos n) z h)

pub clip-mid : (n : ℕ) (z : ℤ) → Within n z → clip_z n z ≡ z
unfolding clip_z
clip-mid n z h = rw (le-lt_z z (neg_ℤ (pos n)) (simp lin (omega arith_z)), le-lt_z (pos n) z (simp lin (omega arith_z)))

pub clip-within : (n : ℕ) (z : ℤ) → Within n (clip_z n z)
unfolding clip_z
clip-within n z = go (lt_z z (neg_ℤ (pos n))) (lt_z (pos n) z) refl refl
  where
    go : (s t : Bool) → lt_z z (neg_ℤ (pos n)) ≡ s → lt_z (pos n) z ≡ t → Within n (cond s (neg_ℤ (pos n)) (cond t (pos n) z))
    go true t e f = simp lin (omega arith_z)
    go false true e f = simp lin (omega arith_z)
    go false false e f = simp lin (omega (arith_z, up_neg (pos n), dn-neg (pos n)))

-- the three places where a number can be
pub data Place (n : ℕ) (z : ℤ) : Type 0 where
  below : z <ℤ neg_ℤ (pos n) → Place n z
  above : pos n <ℤ z → Place n z
  inside : Within n z → Place n z

pub in_both : (n : ℕ) (z : ℤ) → neg_ℤ (pos n) ⩽ z → z ⩽ pos n → Within n z
in_both n z = simp lin (omega arith_z)

pub place : (n : ℕ) (z : ℤ) → Place n z
place n z = go (le-or-lt (neg_ℤ (pos n)) z) (le-or-lt z (pos n))
  where
    go : (neg_ℤ (pos n) ≤ℤ z) ⊎ (z <ℤ neg_ℤ (pos n)) → (z ≤ℤ pos n) ⊎ (pos n <ℤ z) → Place n z
    go (inr h) k = below h
    go (inl h) (inr k) = above k
    go (inl h) (inl k) = inside (in_both n z h k)

neg-below : (n : ℕ) (z : ℤ) → z <ℤ neg_ℤ (pos n) → pos n <ℤ neg_ℤ z
neg-below n z = simp lin (omega arith_z)

neg-above : (n : ℕ) (z : ℤ) → pos n <ℤ z → neg_ℤ z <ℤ neg_ℤ (pos n)
neg-above n z = simp lin (omega arith_z)

neg-inside : (n : ℕ) (z : ℤ) → Within n z → Within n (neg_ℤ z)
neg-inside n z = simp lin (omega arith_z)

pub clip-neg : (n : ℕ) (z : ℤ) → clip_z n (neg_ℤ z) ≡ neg_ℤ (clip_z n z)
clip-neg n z = go (place n z)
  where
    go : Place n z → clip_z n (neg_ℤ z) ≡ neg_ℤ (clip_z n z)
    go (below h) = clip-high n (neg_ℤ z) (neg-below n z h) ∙ sym (neg_ℤ-neg_ℤ (pos n)) ∙ ap neg_ℤ (sym (clip-low n z h))
    go (above h) = clip-low n (neg_ℤ z) (neg-above n z h) ∙ ap neg_ℤ (sym (clip-high n z h))
    go (inside h) = clip-mid n (neg_ℤ z) (neg-inside n z h) ∙ ap neg_ℤ (sym (clip-mid n z h))

top-eq : (n : ℕ) (z : ℤ) → pos n ⩽ z → Within n z → z ≡ pos n
top-eq n z = simp lin (omega arith_z)

top-ne : (n : ℕ) (z : ℤ) → pos n ⩽ z → z <ℤ neg_ℤ (pos n) → ⊥
top-ne n z = simp lin (omega arith_z)

pub clip-top : (n : ℕ) (z : ℤ) → pos n ⩽ z → clip_z n z ≡ pos n
clip-top n z h = go (place n z)
  where
    go : Place n z → clip_z n z ≡ pos n
    go (below k) = absurd (top-ne n z h k)
    go (above k) = clip-high n z k
    go (inside k) = clip-mid n z k ∙ top-eq n z h k

bot-turn : (n : ℕ) (z : ℤ) → z ⩽ neg_ℤ (pos n) → pos n ⩽ neg_ℤ z
bot-turn n z = simp lin (omega arith_z)

pub clip-bottom : (n : ℕ) (z : ℤ) → z ⩽ neg_ℤ (pos n) → neg_ℤ (clip_z n z) ≡ pos n
clip-bottom n z h = sym (clip-neg n z) ∙ clip-top n (neg_ℤ z) (bot-turn n z h)

above_more : (n : ℕ) (a b : ℤ) → a ⩽ b → pos n <ℤ a → pos n <ℤ b
above_more n a b = simp lin (omega arith_z)

below_more : (n : ℕ) (a b : ℤ) → a ⩽ b → b <ℤ neg_ℤ (pos n) → a <ℤ neg_ℤ (pos n)
below_more n a b = simp lin (omega arith_z)

pub clip-mono : (n : ℕ) (a b : ℤ) → a ⩽ b → clip_z n a ⩽ clip_z n b
clip-mono n a b h = go (place n a) (place n b)
  where
    go : Place n a → Place n b → clip_z n a ⩽ clip_z n b
    go (below k) q = rw (clip-low n a k) (within_low n (clip_z n b) (clip-within n b))
    go (above k) q = rw (clip-high n a k, clip-high n b (above_more n a b h k)) (≤ℤ_refl (pos n))
    go (inside k) (below l) = rw (clip-low n a (below_more n a b h l), clip-low n b l) (≤ℤ_refl (neg_ℤ (pos n)))
    go (inside k) (above l) = rw (clip-high n b l) (within-high n (clip_z n a) (clip-within n a))
    go (inside k) (inside l) = rw (clip-mid n a k, clip-mid n b l) h

neg-past : (n : ℕ) → 1 ≤ n → neg_ℤ (pos n) ≡ pos 0 → ⊥
neg-past n h e = omega (arith_z, simp lin at e)

-- 0 stays, and nothing else becomes 0
pub clip-zero : (n : ℕ) → 1 ≤ n → (z : ℤ) → (clip_z n z ≡ pos 0) ↔ (z ≡ pos 0)
clip-zero n h z = (go (place n z), λ e. clip-mid n z (subst (Within n) (sym e) (within-zero n)) ∙ e)
  where
    go : Place n z → clip_z n z ≡ pos 0 → z ≡ pos 0
    go (below k) e = absurd (neg-past n h (sym (clip-low n z k) ∙ e))
    go (above k) e = absurd (omega (arith, ap nat_abs (sym (clip-high n z k) ∙ e)))
    go (inside k) e = sym (clip-mid n z k) ∙ e
