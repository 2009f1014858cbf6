-- Heights against clipped values: U less the size of a clipped value is its height, or 0 for a negative one. Assumes nothing.
use mathlib.Core.Path.{◌≡◌, refl, sym, ◌∙◌, ap, ap₂}
use mathlib.Core.Bool.{Bool, true, false, cond}
use mathlib.Core.List.{List, [], ◌∷◌}
use Prim.Native.Nat.{ℕ, zero, suc, ◌+◌, ◌-◌, ◌≤◌, ◌<◌, min}
use native.Mathlib.Decide.{dec_le}
use native.Mathlib.Omega.{arith}
use native.Mathlib.Nat.{le_of_suc-le-suc}
use lib.ListN.{length}
use lib.IntN.{ℤ, pos, negsuc, neg_ℤ, nat_abs, ◌+ℤ◌}
use lib.Signed.{lt_z}
use Rattle.integers.specs.Linear.{lin, arith_z, ◌⩽◌, up, up_neg, dn-neg, lt_out}
use Rattle.integers.specs.Order.{nlt_z-le, up_none, up-mono}
use Rattle.integers.specs.Product.{nat_abs-is, nat_abs-≤, abs_neg}
use Rattle.integers.specs.Clip.{clip_z, clip-low, clip-high, clip-mid, Place, below, above, inside, place}
use Rattle.rules.specs.Limits.{unit}
use Rattle.rules.specs.Table.{at}
use Rattle.rules.specs.Parity.{side, left}
use Rattle.rules.specs.Cut.{is_neg, negatives, smallest}
use Rattle.rules.specs.Step.{clips}
use Rattle.cut.specs.Heights.{height, higher, highest}
use Rattle.cut.specs.Scan.{sights, rooms}
use Rattle.cut.proofs.HeightLaws.{is-above}

-- ---- one value
clip-size : (u : ℕ) (v : ℤ) → nat_abs (clip_z u v) ≡ min (nat_abs v) u
clip-size u v = go (place u v)
  where
    go : Place u v → nat_abs (clip_z u v) ≡ min (nat_abs v) u
    go (below h) = ap nat_abs (clip-low u v h) ∙ abs_neg (pos u) ∙ omega (arith, lt_out h, up_neg (pos u), dn-neg (pos u), nat_abs-is v)
    go (above h) = ap nat_abs (clip-high u v h) ∙ omega (arith, lt_out h, nat_abs-is v)
    go (inside h) = ap nat_abs (clip-mid u v h) ∙ omega (arith, nat_abs-≤ v u h)

less_none : (u n : ℕ) → u ≤ n → pos u +ℤ neg_ℤ (pos n) ⩽ pos 0
less_none u n = simp lin (omega arith_z)

less-some : (u n : ℕ) → n ≤ u → pos u +ℤ neg_ℤ (pos n) ≡ pos (u - n)
less-some u n = simp lin (omega arith_z)

pub up-less : (u n : ℕ) → up (pos u +ℤ neg_ℤ (pos n)) ≡ u - n
up-less u n = go (dec_le n u)
  where
    go : Dec (n ≤ u) → up (pos u +ℤ neg_ℤ (pos n)) ≡ u - n
    go (yes h) = ap up (less-some u n h)
    go (no f) = up_none (pos u +ℤ neg_ℤ (pos n)) (less_none u n (omega arith)) ∙ omega arith

height-up : (v : ℤ) → up (height (is_neg v) v) ≡ unit - nat_abs v
height-up (pos n) = up-less unit n
height-up (negsuc n) = up-less unit (suc n)

clip-height : (v : ℤ) → nat_abs (clip_z unit v) + up (height (is_neg v) v) ≡ unit
clip-height v = omega (arith, clip-size unit v, height-up v)

clip-sign : (v : ℤ) → is_neg (clip_z unit v) ≡ is_neg v
clip-sign v = go v (place unit v)
  where
    go : (v : ℤ) → Place unit v → is_neg (clip_z unit v) ≡ is_neg v
    go (pos n) (below h) = absurd (omega (arith, lt_out h))
    go (pos n) (above h) = ap is_neg (clip-high unit (pos n) h)
    go (pos n) (inside h) = ap is_neg (clip-mid unit (pos n) h)
    go (negsuc n) (below h) = ap is_neg (clip-low unit (negsuc n) h)
    go (negsuc n) (above h) = absurd (omega (arith, lt_out h))
    go (negsuc n) (inside h) = ap is_neg (clip-mid unit (negsuc n) h)

side-size : (s : ℤ) → side (is_neg s) s ≡ neg_ℤ (pos (nat_abs s))
side-size (pos n) = refl
side-size (negsuc n) = refl

rest-is : (u n k : ℕ) → n + k ≡ u → pos u +ℤ neg_ℤ (pos n) ≡ pos k
rest-is u n k = simp lin (omega arith_z)

clip-left : (v : ℤ) → pos unit +ℤ side (is_neg v) (clip_z unit v) ≡ pos (up (height (is_neg v) v))
clip-left v =
    ap (λ t. pos unit +ℤ side t (clip_z unit v)) (sym (clip-sign v)) ∙ ap (λ z. pos unit +ℤ z) (side-size (clip_z unit v))
    ∙ rest-is unit (nat_abs (clip_z unit v)) (up (height (is_neg v) v)) (clip-height v)

-- ---- a check's values
pub clips-signs : (vs : List ℤ) → negatives (clips unit vs) ≡ negatives vs
clips-signs [] = refl
clips-signs (v ∷ vs) = ap₂ ◌∷◌ (clip-sign v) (clips-signs vs)

pub clips-left : (vs : List ℤ) → left unit (negatives vs) (clips unit vs) ≡ pos (rooms (sights vs))
clips-left [] = refl
clips-left (v ∷ vs) = ap₂ ◌+ℤ◌ (clip-left v) (clips-left vs)

pub size-at : (vs : List ℤ) (k : ℕ) → k < length vs → nat_abs (at (clips unit vs) k) + up (at (sights vs) k) ≡ unit
size-at [] k h = absurd (omega arith)
size-at (v ∷ vs) zero h = clip-height v
size-at (v ∷ vs) (suc k) h = size-at vs k (le_of_suc-le-suc h)

higher-size : (u m n : ℕ) (a b : ℤ) → m + up a ≡ u → n + up b ≡ u → min m n + up (higher a b) ≡ u
higher-size u m n a b h k = go (lt_z a b) refl
  where
    go : (t : Bool) → lt_z a b ≡ t → min m n + up (cond t b a) ≡ u
    go true e = omega (arith, up-mono a b (is-above a b e))
    go false e = omega (arith, up-mono b a (nlt_z-le a b e))

-- the smallest size has the greatest height
pub smallest-high : (vs : List ℤ) → smallest unit (clips unit vs) + up (highest (sights vs)) ≡ unit
smallest-high [] = refl
smallest-high (v ∷ vs) = higher-size unit (nat_abs (clip_z unit v)) (smallest unit (clips unit vs)) (height (is_neg v) v) (highest (sights vs)) (clip-height v) (smallest-high vs)
