-- The order of ℤ: total, kept by sums, turned round by negation. Each law is one line of `lin`: cite none of them inside a linear proof, which proves it anew. Assumes nothing.
use Rattle.std.specs.Prelude.{◌≡◌, refl, true, false, ◌⊎◌, ℕ, ◌≤◌, ◌<◌, ◌+◌, ℤ, pos, negsuc, neg_ℤ, ◌+ℤ◌, ◌-ℤ◌, ◌≤ℤ◌, ◌<ℤ◌}
use Rattle.std.proofs.Common.{inl, inr, arith, lt_of_not-le}
use Rattle.std.proofs.Math.Decide.{dec_le}
use Rattle.std.specs.Int.Signed.{lt_z, le_z}
use Rattle.integers.specs.Linear.{lin, arith_z, ◌⩽◌, Within, up, dn, le_in, le_out, lt_in, eq-in}

pub le_trans : (a b c : ℤ) → a ⩽ b → b ⩽ c → a ⩽ c
le_trans a b c = simp lin (omega arith_z)

pub le_antisym : (a b : ℤ) → a ⩽ b → b ⩽ a → a ≡ b
le_antisym a b = simp lin (omega arith_z)

pub le_of_eq : (a b : ℤ) → a ≡ b → a ⩽ b
le_of_eq a b = simp lin (omega arith_z)

pub le-or-lt : (a b : ℤ) → (a ≤ℤ b) ⊎ (b <ℤ a)
le-or-lt a b = go (dec_le (up a + dn b) (up b + dn a))
  where
    go : Dec (up a + dn b ≤ up b + dn a) → (a ≤ℤ b) ⊎ (b <ℤ a)
    go (yes h) = inl (le_in h)
    go (no f) = inr (lt_in (lt_of_not-le f))

pub nle-lt : (a b : ℤ) → (b ⩽ a → ⊥) → a <ℤ b
nle-lt a b f = go (le-or-lt b a)
  where
    go : (b ≤ℤ a) ⊎ (a <ℤ b) → a <ℤ b
    go (inl h) = absurd (f h)
    go (inr h) = h

pub le_total : (a b : ℤ) → (a ≤ℤ b) ⊎ (b ≤ℤ a)
le_total a b = go (le-or-lt a b)
  where
    weaken : (a b : ℤ) → b <ℤ a → b ⩽ a
    weaken a b = simp lin (omega arith_z)

    go : (a ≤ℤ b) ⊎ (b <ℤ a) → (a ≤ℤ b) ⊎ (b ≤ℤ a)
    go (inl h) = inl h
    go (inr h) = inr (weaken a b h)

-- ---- what is above 0
pub up_none : (z : ℤ) → z ⩽ pos 0 → up z ≡ 0
up_none (pos n) h = omega (arith, le_out h)
up_none (negsuc n) h = refl

pub up-mono : (a b : ℤ) → a ⩽ b → up a ≤ up b
up-mono (pos m) b h = omega (arith, le_out h)
up-mono (negsuc m) b h = omega arith

-- ---- sums
pub add-mono : (a b c d : ℤ) → a ⩽ b → c ⩽ d → a +ℤ c ⩽ b +ℤ d
add-mono a b c d = simp lin (omega arith_z)

pub add-cancel : (a b c : ℤ) → a +ℤ c ⩽ b +ℤ c → a ⩽ b
add-cancel a b c = simp lin (omega arith_z)

pub neg-mono : (a b : ℤ) → a ⩽ b → neg_ℤ b ⩽ neg_ℤ a
neg-mono a b = simp lin (omega arith_z)

pub sub-nonneg : (a b : ℤ) → a ⩽ b → pos 0 ⩽ b -ℤ a
sub-nonneg a b = simp lin (omega arith_z)

pub sub-zero : (a b : ℤ) → a -ℤ b ≡ pos 0 → a ≡ b
sub-zero a b = simp lin (omega arith_z)

pub pos-le : (m n : ℕ) → m ≤ n → pos m ⩽ pos n
pos-le m n = simp lin (omega arith_z)

pub le_lt_trans : (a b c : ℤ) → a ⩽ b → b <ℤ c → a <ℤ c
le_lt_trans a b c = simp lin (omega arith_z)

-- what a test's flag says
pub lt_z-lt : (a b : ℤ) → lt_z a b ≡ true → a <ℤ b
lt_z-lt a b = simp lin (omega arith_z)

pub nlt_z-le : (a b : ℤ) → lt_z a b ≡ false → b ⩽ a
nlt_z-le a b = simp lin (omega arith_z)

pub le_z-le : (a b : ℤ) → le_z a b ≡ true → a ⩽ b
le_z-le a b = simp lin (omega arith_z)

pub nle_z-lt : (a b : ℤ) → le_z a b ≡ false → b <ℤ a
nle_z-lt a b = simp lin (omega arith_z)

-- at most, and not equal: less. So `!=` of two numbers that are ordered tells which is the less
pub lt_of_ne : {a b : ℤ} → a ≤ℤ b → (a ≡ b → ⊥) → a <ℤ b
lt_of_ne {a} {b} h f = lt_in (ne-lt (up a + dn b) (up b + dn a) (le_out h) (λ e. f (eq-in e)))
  where
    ne-lt : (m n : ℕ) → m ≤ n → (m ≡ n → ⊥) → m < n
    ne-lt m n h f = omega arith

-- ---- between -n and n
pub within-zero : (n : ℕ) → Within n (pos 0)
within-zero n = record { hi = omega arith; lo = omega arith }

pub within_low : (n : ℕ) (z : ℤ) → Within n z → neg_ℤ (pos n) ⩽ z
within_low n z = simp lin (omega arith_z)

pub within-high : (n : ℕ) (z : ℤ) → Within n z → z ⩽ pos n
within-high n z = simp lin (omega arith_z)

pub within_wider : (m n : ℕ) (z : ℤ) → m ≤ n → Within m z → Within n z
within_wider m n z h k = record { hi = omega arith; lo = omega arith }

pub within-add : (m n : ℕ) (x y : ℤ) → Within m x → Within n y → Within (m + n) (x +ℤ y)
within-add m n x y = simp lin (omega arith_z)

pub within-sub : (m n : ℕ) (x y : ℤ) → Within m x → Within n y → Within (m + n) (x -ℤ y)
within-sub m n x y = simp lin (omega arith_z)
