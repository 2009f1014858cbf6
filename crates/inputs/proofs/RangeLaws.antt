-- A number from −n to n, as the code's two comparisons decide it. Assumes nothing.
use mathlib.Core.Path.{◌≡◌, refl, sym, ◌∙◌, ap}
use mathlib.Core.Bool.{Bool, true, false, ◌&&◌}
use Prim.Native.Nat.{ℕ, suc}
use lib.Dec.{leb}
use lib.IntN.{ℤ, pos, negsuc, neg_ℤ, nat_abs}
use lib.Signed.{le_z}
use borrow.Author.Tests.{le-leb, lt-leb}
use Rattle.integers.specs.Linear.{arith_z, le_z-true, le_z-false, up_neg, dn-neg}

above : (n : ℕ) (x : ℤ) → le_z (neg_ℤ (pos n)) x ≡ true → le_z x (pos n) ≡ leb (nat_abs x) n
above n (pos m) h = refl
above n (negsuc m) h = sym (le-leb (suc m) n (omega (arith_z, le_z-true (neg_ℤ (pos n)) (negsuc m) h, up_neg (pos n), dn-neg (pos n))))

below : (n : ℕ) (x : ℤ) → le_z (neg_ℤ (pos n)) x ≡ false → false ≡ leb (nat_abs x) n
below n (pos m) h = absurd (omega (arith_z, le_z-false (neg_ℤ (pos n)) (pos m) h, up_neg (pos n), dn-neg (pos n)))
below n (negsuc m) h = sym (lt-leb (suc m) n (omega (arith_z, le_z-false (neg_ℤ (pos n)) (negsuc m) h, up_neg (pos n), dn-neg (pos n))))

pub in_range : (n : ℕ) (x : ℤ) → (le_z (neg_ℤ (pos n)) x && le_z x (pos n)) ≡ leb (nat_abs x) n
in_range n x = go (le_z (neg_ℤ (pos n)) x) refl
  where
    go : (b : Bool) → le_z (neg_ℤ (pos n)) x ≡ b → (b && le_z x (pos n)) ≡ leb (nat_abs x) n
    go true e = above n x e
    go false e = below n x e

-- y is what the machine reads back from the bits of x
module _ (n : ℕ) (x y : ℤ) (e : y ≡ x) where
  pub range-upper : le_z (neg_ℤ (pos n)) y ≡ true → le_z y (pos n) ≡ leb (nat_abs x) n
  range-upper h = above n y h ∙ ap (λ z. leb (nat_abs z) n) e

  pub range-lower : le_z (neg_ℤ (pos n)) y ≡ false → le_z (neg_ℤ (pos n)) y ≡ leb (nat_abs x) n
  range-lower h = h ∙ below n y h ∙ ap (λ z. leb (nat_abs z) n) e
