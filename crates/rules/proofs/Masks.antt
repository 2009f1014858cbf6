-- Masks and sets: each is read back from the other, and the count of ones decides oddness. Assumes nothing.
use mathlib.Core.Path.{◌≡◌, refl, sym, ◌∙◌, ap, ap₂, subst}
use mathlib.Core.Bool.{Bool, true, false, ◌&&◌}
use mathlib.Core.List.{List, [], ◌∷◌}
use Prim.Native.Nat.{ℕ, zero, suc, ◌+◌, ◌*◌, ◌/◌, ◌%◌, ◌^◌, ◌≤◌, ◌<◌}
use native.Mathlib.Omega.{arith}
use native.Mathlib.Nat.{pow-succ'}
use lib.Dec.{eqb, ltb}
use lib.Count.{ones, ones_step, ones-le}
use borrow.Author.Tests.{eqb-true, eqb-false, eq-eqb, ne_eqb, lt-ltb, ltb-true}
use lib.ListN.{length}
use Rattle.rules.specs.Parity.{◌⊕◌, odd}
use Rattle.rules.specs.Mask.{digit, mask_of, set_of, mask_right}
use Rattle.rules.proofs.Basics.{and_both}

pub digit_low : (v : Bool) (m : ℕ) → (digit v + 2 * m) % 2 ≡ digit v
digit_low true m = omega arith
digit_low false m = omega arith

pub digit-half : (v : Bool) (m : ℕ) → (digit v + 2 * m) / 2 ≡ m
digit-half true m = omega arith
digit-half false m = omega arith

pub digit-back : (v : Bool) → eqb (digit v) 1 ≡ v
digit-back true = refl
digit-back false = refl

pub set-mask : (ts : List Bool) → set_of (length ts) (mask_of ts) ≡ ts
set-mask [] = refl
set-mask (t ∷ ts) = ap₂ (λ a b. eqb a 1 ∷ set_of (length ts) b) (digit_low t (mask_of ts)) (digit-half t (mask_of ts)) ∙ ap₂ ◌∷◌ (digit-back t) (set-mask ts)

below_step : (v : Bool) (m k p : ℕ) → m < p → k ≡ 2 * p → digit v + 2 * m < k
below_step true m k p h e = omega arith
below_step false m k p h e = omega arith

pub mask_below : (ts : List Bool) → mask_of ts < 2 ^ length ts
mask_below [] = omega arith
mask_below (t ∷ ts) = below_step t (mask_of ts) (2 ^ suc (length ts)) (2 ^ length ts) (mask_below ts) (pow-succ' 2 (length ts))

pub set-length : (d mask : ℕ) → length (set_of d mask) ≡ d
set-length zero mask = refl
set-length (suc d) mask = ap suc (set-length d (mask / 2))

-- ---- oddness
parity-sum : (a b : ℕ) → a < 2 → eqb ((a + b) % 2) 1 ≡ eqb a 1 ⊕ eqb (b % 2) 1
parity-sum a b h = go (eqb a 1) (eqb (b % 2) 1) refl refl
  where
    go : (x y : Bool) → eqb a 1 ≡ x → eqb (b % 2) 1 ≡ y → eqb ((a + b) % 2) 1 ≡ x ⊕ y
    go true true p q = ne_eqb ((a + b) % 2) 1 (λ e. omega (arith, eqb-true a 1 p, eqb-true (b % 2) 1 q))
    go true false p q = let n : b % 2 ≡ 1 → ⊥ = eqb-false (b % 2) 1 q in eq-eqb ((a + b) % 2) 1 (omega (arith, eqb-true a 1 p))
    go false true p q = let n : a ≡ 1 → ⊥ = eqb-false a 1 p in eq-eqb ((a + b) % 2) 1 (omega (arith, eqb-true (b % 2) 1 q))
    go false false p q = let n : a ≡ 1 → ⊥ = eqb-false a 1 p in let m : b % 2 ≡ 1 → ⊥ = eqb-false (b % 2) 1 q in ne_eqb ((a + b) % 2) 1 (λ e. omega arith)

half-below : (mask k p : ℕ) → mask < k → k ≡ 2 * p → mask / 2 < p
half-below mask k p h e = omega arith

no_ones : (n : ℕ) → n ≤ 0 → eqb (n % 2) 1 ≡ false
no_ones n h = ne_eqb (n % 2) 1 (λ e. omega arith)

pub odd-ones : (d mask : ℕ) → mask < 2 ^ d → odd (set_of d mask) ≡ eqb (ones mask % 2) 1
odd-ones zero mask h = sym (no_ones (ones mask) (ones-le 0 mask h))
odd-ones (suc d) mask h = ap (λ b. eqb (mask % 2) 1 ⊕ b) (odd-ones d (mask / 2) (half-below mask (2 ^ suc d) (2 ^ d) h (pow-succ' 2 d)))
    ∙ sym (ap (λ n. eqb (n % 2) 1) (ones_step mask) ∙ parity-sum (mask % 2) (ones (mask / 2)) (small mask))
  where
    small : (mask : ℕ) → mask % 2 < 2
    small mask = omega arith

-- ---- the test of a mask: an odd set as long as the check
pub mask-odd : (d mask : ℕ) → mask_right d mask ≡ true → odd (set_of d mask) ≡ true
unfolding mask_right
mask-odd d mask e =
    let p = and_both (eqb (ones mask % 2) 1) (ltb mask (2 ^ d)) e in
    odd-ones d mask (ltb-true mask (2 ^ d) p.1) ∙ p.0

pub set-right : (d : ℕ) (ts : List Bool) → length ts ≡ d → odd ts ≡ true → mask_right d (mask_of ts) ≡ true
unfolding mask_right
set-right d ts l o = ap₂ ◌&&◌ (sym (odd-ones (length ts) (mask_of ts) (mask_below ts)) ∙ ap odd (set-mask ts) ∙ o) (lt-ltb (mask_of ts) (2 ^ d) (subst (λ n. mask_of ts < 2 ^ n) l (mask_below ts)))
