-- The bounds of a half-done run: a list within a limit as the code's test decides it, and what the limits hold to. Assumes nothing.
use mathlib.Core.Path.{◌≡◌, refl, ap, sym, ◌∙◌}
use mathlib.Core.Bool.{true, ◌&&◌, false}
use mathlib.Core.List.{List, [], ◌∷◌}
use Prim.Native.Nat.{ℕ, ◌*◌, ◌≤◌, ◌<◌}
use native.Mathlib.Omega.{arith}
use lib.Dec.{leb, ltb}
use lib.IntN.{ℤ, nat_abs, pos, neg_ℤ, ◌-ℤ◌, +ℤ_idl}
use borrow.Author.Tests.{ltb-true}
use Rattle.std.specs.List.{list_all}
use Rattle.integers.specs.Sum.{AllWithin}
use Rattle.rules.specs.Limits.{unit, round_limit, offset_per_round, offset_limit}
use Rattle.rules.specs.Input.{each_within}
use Rattle.rules.specs.Run.{limited}
use Rattle.rules.proofs.Basics.{and_both}
use Rattle.rules.proofs.Pass.{all-wider}
use Rattle.rules.proofs.RangeLaws.{each_all}
use lib.Signed.{le_z}
use Rattle.integers.specs.Linear.{◌⩽◌}
use Rattle.integers.specs.Product.{abs-pos}
use Rattle.inputs.proofs.RangeLaws.{range-upper, range-lower}

-- ---- each number's test
pub each_tested : (k : ℕ) (xs : List ℤ) → list_all (λ x. leb (nat_abs x) k) xs ≡ each_within k xs
each_tested k [] = refl
each_tested k (x ∷ xs) = ap (λ b. leb (nat_abs x) k && b) (each_tested k xs)

-- ---- what the limits hold to
module _ (k : ℕ) (z y : List ℤ) (h : limited k (record { copies = z; offsets = y }) ≡ true) where
  parts : (k < round_limit) × (each_within unit z ≡ true) × (each_within (offset_per_round * k) y ≡ true)
  unfolding limited
  parts =
      let p = and_both (ltb k round_limit && each_within unit z) (each_within (offset_per_round * k) y) h in
      let q = and_both (ltb k round_limit) (each_within unit z) p.0 in
      (ltb-true k round_limit q.0, q.1, p.1)

  pub copies-small : AllWithin unit z
  copies-small = each_all unit z parts.1

  pub offsets-small : AllWithin offset_limit y
  offsets-small = all-wider (offset_per_round * k) offset_limit y (low k parts.0) (each_all (offset_per_round * k) y parts.2)
    where
      low : (k : ℕ) → k < round_limit → offset_per_round * k ≤ offset_limit
      low k h = omega arith

-- No proof cites these any more, since the check finds what they say.
-- y and d are what the machine reads back from the bits of x and of the limit b, e from those of the limit negated
module _ (x b y d e : ℤ) (hx : y ≡ x) (hb : d ≡ b) (he : e ≡ pos 0 -ℤ d) (h : pos 0 ⩽ b) where
  upper : d ≡ pos (nat_abs b)
  upper = hb ∙ sym (abs-pos b h)

  lower : e ≡ neg_ℤ (pos (nat_abs b))
  lower = he ∙ +ℤ_idl (neg_ℤ d) ∙ ap neg_ℤ upper

  pub within-upper : le_z e y ≡ true → le_z y d ≡ leb (nat_abs x) (nat_abs b)
  within-upper t = ap (le_z y) upper ∙ range-upper (nat_abs b) x y hx (ap (λ z. le_z z y) (sym lower) ∙ t)

  pub within-lower : le_z e y ≡ false → le_z e y ≡ leb (nat_abs x) (nat_abs b)
  within-lower t = ap (λ z. le_z z y) lower ∙ range-lower (nat_abs b) x y hx (ap (λ z. le_z z y) (sym lower) ∙ t)
