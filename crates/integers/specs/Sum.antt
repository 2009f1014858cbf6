-- Sums of whole numbers over an index, and lists of bounded numbers. Assumes nothing.
use Rattle.std.specs.Prelude.{◌≡◌, refl, Bool, true, false, List, [], ◌∷◌, ℕ, zero, suc, ◌≤◌, ◌<◌, eqb, ℤ, pos, ◌+ℤ◌, ◌*ℤ◌}
use Rattle.std.proofs.Common.{sym, ◌∙◌, ap, ap₂, subst, arith, lt-suc_self, not-suc-le-zero, eq-eqb, ne_eqb}
use Rattle.std.proofs.Math.Nat.{le_step}
use Rattle.std.proofs.Math.Decide.{ℕ_discrete}
use Rattle.std.proofs.Math.IntN.{+ℤ_idl, +ℤ_idr, *ℤ-zero}
use Rattle.integers.specs.Linear.{lin, arith_z, ◌⩽◌, Within}
use Rattle.integers.specs.Order.{within_low, within-high}
use Rattle.integers.specs.Product.{ring, abs, mul-abs, *ℤ-+ℤ}

-- every element is between -u and u
abbrev pub AllWithin : ℕ → List ℤ → Type 0
AllWithin u [] = Unit {0}
AllWithin u (s ∷ ss) = Within u s × AllWithin u ss

-- ---- over an index below n
abbrev pub sum_to : ℕ → (ℕ → ℤ) → ℤ
sum_to zero f = pos 0
sum_to (suc n) f = sum_to n f +ℤ f n

-- no tactic runs inside a recursive clause: each step stands by itself
add-swap : (a b c d : ℤ) → (a +ℤ b) +ℤ (c +ℤ d) ≡ (a +ℤ c) +ℤ (b +ℤ d)
add-swap a b c d = simp lin (omega arith_z)

pub sum_to-add : (n : ℕ) (f g : ℕ → ℤ) → sum_to n (λ j. f j +ℤ g j) ≡ sum_to n f +ℤ sum_to n g
sum_to-add zero f g = refl
sum_to-add (suc n) f g = ap (λ s. s +ℤ (f n +ℤ g n)) (sum_to-add n f g) ∙ add-swap (sum_to n f) (sum_to n g) (f n) (g n)

-- the same numbers below n
pub sum_to-same : (n : ℕ) (f g : ℕ → ℤ) → ((i : ℕ) → i < n → f i ≡ g i) → sum_to n f ≡ sum_to n g
sum_to-same zero f g e = refl
sum_to-same (suc n) f g e = ap₂ ◌+ℤ◌ (sum_to-same n f g (λ i h. e i (le_step h))) (e n (lt-suc_self n))

pub sum_to-zero : (n : ℕ) → sum_to n (λ j. pos 0) ≡ pos 0
sum_to-zero zero = refl
sum_to-zero (suc n) = ap (λ s. s +ℤ pos 0) (sum_to-zero n)

pub sum_to-times : (k : ℤ) (n : ℕ) (f : ℕ → ℤ) → sum_to n (λ i. k *ℤ f i) ≡ k *ℤ sum_to n f
sum_to-times k zero f = sym (*ℤ-zero k)
sum_to-times k (suc n) f = ap (λ t. t +ℤ k *ℤ f n) (sum_to-times k n f) ∙ sym (*ℤ-+ℤ k (sum_to n f) (f n))

-- Σ p r ≤ d Σ |r| where every p is between -d and d
abs-step : (d a b x y : ℤ) → a ⩽ d *ℤ x → b ⩽ d *ℤ y → a +ℤ b ⩽ d *ℤ (x +ℤ y)
abs-step d a b x y = simp ring (omega arith_z)

abs-end : (d : ℤ) → pos 0 ⩽ d *ℤ pos 0
abs-end d = simp ring (omega arith_z)

pub sum_to-abs : (d n : ℕ) (p r : ℕ → ℤ) → ((i : ℕ) → Within d (p i)) → sum_to n (λ i. p i *ℤ r i) ⩽ pos d *ℤ sum_to n (λ i. abs (r i))
sum_to-abs d zero p r w = abs-end (pos d)
sum_to-abs d (suc n) p r w = abs-step (pos d) (sum_to n (λ i. p i *ℤ r i)) (p n *ℤ r n) (sum_to n (λ i. abs (r i))) (abs (r n))
    (sum_to-abs d n p r w) (mul-abs (pos d) (p n) (r n) (within_low d (p n) (w n)) (within-high d (p n) (w n)))

-- and where the sums are equal, each p r is d |r|
tight-before : (d a b x y : ℤ) → b ⩽ d *ℤ y → d *ℤ (x +ℤ y) ⩽ a +ℤ b → d *ℤ x ⩽ a
tight-before d a b x y = simp ring (omega arith_z)

tight-last : (d a b x y : ℤ) → a ⩽ d *ℤ x → b ⩽ d *ℤ y → d *ℤ (x +ℤ y) ⩽ a +ℤ b → b ≡ d *ℤ y
tight-last d a b x y = simp ring (omega arith_z)

pub sum_to-tight : (d n : ℕ) (p r : ℕ → ℤ) → ((i : ℕ) → Within d (p i)) → pos d *ℤ sum_to n (λ i. abs (r i)) ⩽ sum_to n (λ i. p i *ℤ r i)
    → (i : ℕ) → i < n → p i *ℤ r i ≡ pos d *ℤ abs (r i)
sum_to-tight d zero p r w h i k = absurd (not-suc-le-zero k)
sum_to-tight d (suc n) p r w h i k = go (ℕ_discrete i n) (sum_to-tight d n p r w before i)
  where
    last : p n *ℤ r n ⩽ pos d *ℤ abs (r n)
    last = mul-abs (pos d) (p n) (r n) (within_low d (p n) (w n)) (within-high d (p n) (w n))

    before : pos d *ℤ sum_to n (λ j. abs (r j)) ⩽ sum_to n (λ j. p j *ℤ r j)
    before = tight-before (pos d) (sum_to n (λ j. p j *ℤ r j)) (p n *ℤ r n) (sum_to n (λ j. abs (r j))) (abs (r n)) last h

    here : p n *ℤ r n ≡ pos d *ℤ abs (r n)
    here = tight-last (pos d) (sum_to n (λ j. p j *ℤ r j)) (p n *ℤ r n) (sum_to n (λ j. abs (r j))) (abs (r n)) (sum_to-abs d n p r w) last h

    go : Dec (i ≡ n) → (i < n → p i *ℤ r i ≡ pos d *ℤ abs (r i)) → p i *ℤ r i ≡ pos d *ℤ abs (r i)
    go (yes e) ih = subst (λ j. p j *ℤ r j ≡ pos d *ℤ abs (r j)) (sym e) here
    go (no f) ih = ih (omega arith)

-- ---- one place out of n
abbrev pub pick : Bool → ℤ → ℤ
pick true v = v
pick false v = pos 0

pick-past : (n k : ℕ) (v : ℤ) → n ≤ k → sum_to n (λ j. pick (eqb k j) v) ≡ pos 0
pick-past zero k v h = refl
pick-past (suc n) k v h = ap₂ ◌+ℤ◌ (pick-past n k v (omega arith)) (ap (λ t. pick t v) (ne_eqb k n (λ e. omega arith)))

pub pick-one : (n k : ℕ) (v : ℤ) → k < n → sum_to n (λ j. pick (eqb k j) v) ≡ v
pick-one zero k v h = absurd (omega arith)
pick-one (suc n) k v h = go (ℕ_discrete k n) (pick-one n k v)
  where
    go : Dec (k ≡ n) → (k < n → sum_to n (λ j. pick (eqb k j) v) ≡ v) → sum_to n (λ j. pick (eqb k j) v) +ℤ pick (eqb k n) v ≡ v
    go (yes e) ih = ap₂ ◌+ℤ◌ (pick-past n k v (omega arith)) (ap (λ t. pick t v) (eq-eqb k n e)) ∙ +ℤ_idl v
    go (no f) ih = ap₂ ◌+ℤ◌ (ih (omega arith)) (ap (λ t. pick t v) (ne_eqb k n f)) ∙ +ℤ_idr v
