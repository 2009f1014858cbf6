-- What `lin` and `ring` prove, a line each: the examples are checked with the crate. Assumes nothing.
use Rattle.std.specs.Prelude.{◌≡◌, ℕ, ◌≤◌, ℤ, pos, negsuc, neg_ℤ, ◌+ℤ◌, ◌-ℤ◌, ◌*ℤ◌}
use Rattle.std.specs.Int.{w16, w32}
use Rattle.std.proofs.Common.{SFits}
use Rattle.integers.specs.Linear.{lin, arith_z, Within, ◌⩽◌}
use Rattle.integers.specs.Product.{ring}

t1 : (x y z w v : ℤ) → x +ℤ y ⩽ z → z -ℤ w ⩽ neg_ℤ (v +ℤ x) → w ⩽ pos 10 → pos 3 ⩽ x → x +ℤ y +ℤ v ⩽ pos 7
t1 x y z w v = simp lin (omega arith_z)

t2 : (x y z : ℤ) → x +ℤ (y -ℤ z) +ℤ pos 3 ≡ neg_ℤ (z -ℤ (x +ℤ y)) -ℤ negsuc 2
t2 x y z = simp lin (omega arith_z)

t3 : (x y : ℤ) → SFits w16 x → Within 5 y → SFits w32 (x +ℤ y -ℤ pos 70000)
t3 x y = simp lin (omega arith_z)

t4 : (x y : ℤ) → (x ⩽ y → ⊥) → x ≡ y → ⊥
t4 x y = simp lin (omega arith_z)

t5 : (x : ℤ) (n m : ℕ) → pos n ⩽ x → x ⩽ pos m → n ≤ m
t5 x n m = simp lin (omega arith_z)

-- hypotheses that are no premises of the goal: unknowns and literals are read by the rules of arith_z, sums are handed over
t6 : (x y z : ℤ) → x ⩽ pos 4 → x +ℤ y ⩽ z → y ⩽ z -ℤ x +ℤ pos 1
t6 x y z h k = simp lin (omega (arith_z, simp lin at k))

r1 : (x y z : ℤ) → x *ℤ (y -ℤ z) +ℤ z *ℤ x ≡ y *ℤ x
r1 x y z = simp ring (omega arith_z)

r2 : (x y : ℤ) → (x +ℤ y) *ℤ (x -ℤ y) ≡ x *ℤ x -ℤ y *ℤ y
r2 x y = simp ring (omega arith_z)

r3 : (x y z : ℤ) → pos 3 *ℤ (x +ℤ y) ⩽ z → x ⩽ y → pos 6 *ℤ x ⩽ z
r3 x y z = simp ring (omega arith_z)

r4 : (x y z : ℤ) → x *ℤ pos 3 ⩽ z → x ⩽ y → pos 6 *ℤ x ⩽ z +ℤ y *ℤ pos 3
r4 x y z = simp ring (omega arith_z)

r5 : (x y z w : ℤ) → x *ℤ (y *ℤ z) +ℤ w ≡ z *ℤ x *ℤ y -ℤ neg_ℤ w
r5 x y z w = simp ring (omega arith_z)

r6 : (x y z : ℤ) → x *ℤ negsuc 2 ⩽ z → x ⩽ y → negsuc 5 *ℤ y ⩽ z +ℤ x *ℤ negsuc 2
r6 x y z = simp ring (omega arith_z)

r7 : (x y z w : ℤ) → (x +ℤ y) *ℤ (y *ℤ z) *ℤ (w -ℤ x) ≡ x *ℤ y *ℤ z *ℤ w +ℤ z *ℤ (y *ℤ w *ℤ y) -ℤ x *ℤ x *ℤ z *ℤ y -ℤ (y *ℤ y) *ℤ (x *ℤ z)
r7 x y z w = simp ring (omega arith_z)
