-- What a function of the search takes out of the list of its sums: that one sum fits a 32-bit word, and of running sums each by its place. Assumes nothing.
use mathlib.Core.Path.{◌≡◌, refl, sym, ◌∙◌, ap, subst}
use mathlib.Core.Bool.{true, cond}
use mathlib.Core.List.{List, [], ◌∷◌, ◌++◌, map}
use Prim.Native.Nat.{ℕ, zero, suc, ◌+◌, ◌^◌, ◌<◌}
use native.Mathlib.Omega.{arith}
use native.Mathlib.Numerals.{add-one}
use lib.ListN.{length, take, length-map}
use lib.IntN.{ℤ, pos, negsuc, nat_abs, ◌+ℤ◌, ◌-ℤ◌}
use lib.Signed.{◌≤ℤ◌, lt_z}
use mir.Syntax.{w32}
use mir.Val.{SFits}
use Rattle.integers.specs.Linear.{lin, arith_z, Within}
use Rattle.rules.specs.Table.{at}
use Rattle.multiplier_search.specs.Lifted.{sum_z, tally, one, packed}
use Rattle.multiplier_search.specs.Sums.{narrow_limit, AllNarrow, partials, share_sums, shares_sums}
use Rattle.multiplier_search.proofs.PackedLaws.{sum-take, packed_first}

pub narrow-fits : (z : ℤ) → Within narrow_limit z → SFits w32 z
narrow-fits z = simp lin (omega arith_z)

-- ---- the parts of a list
pub front : (xs ys : List ℤ) → AllNarrow (xs ++ ys) → AllNarrow xs
front [] ys h = tt
front (x ∷ xs) ys h = (h.0, front xs ys h.1)

pub rest : (xs ys : List ℤ) → AllNarrow (xs ++ ys) → AllNarrow ys
rest [] ys h = h
rest (x ∷ xs) ys h = rest xs ys h.1

pub share-at : (b : ℕ) (hs : List ℤ) (i : ℕ) → i < length hs → AllNarrow (shares_sums b hs) → AllNarrow (share_sums b (at hs i))
share-at b [] i k a = absurd (omega arith)
share-at b (h ∷ hs) zero k a = front (share_sums b h) (shares_sums b hs) a
share-at b (h ∷ hs) (suc i) k a = share-at b hs i (omega arith) (rest (share_sums b h) (shares_sums b hs) a)

-- ---- running sums
partial-at : (a : ℤ) (xs : List ℤ) (i : ℕ) → i < length xs → AllNarrow (partials a xs) → Within narrow_limit (a +ℤ sum_z (take (suc i) xs))
partial-at a [] i k w = absurd (omega arith)
partial-at a (x ∷ xs) zero k w = subst (Within narrow_limit) (alone a x) w.0
  where
    alone : (a x : ℤ) → a +ℤ x ≡ a +ℤ (x +ℤ pos 0)
    alone a x = simp lin (omega arith_z)
partial-at a (x ∷ xs) (suc i) k w = subst (Within narrow_limit) (joined a x (sum_z (take (suc i) xs))) (partial-at (a +ℤ x) xs i (omega arith) w.1)
  where
    joined : (a x s : ℤ) → (a +ℤ x) +ℤ s ≡ a +ℤ (x +ℤ s)
    joined a x s = simp lin (omega arith_z)

-- the sum of the first heights, with one more
pub sum-narrow : (hs : List ℤ) (i : ℕ) → i < length hs → AllNarrow (partials (pos 0) hs) → SFits w32 (sum_z (take i hs) +ℤ at hs i)
sum-narrow hs i k w = plain (sum_z (take i hs) +ℤ at hs i)
    (subst (λ z. Within narrow_limit (pos 0 +ℤ z)) (ap (λ j. sum_z (take j hs)) (sym (add-one i)) ∙ sum-take hs i k) (partial-at (pos 0) hs i k w))
  where
    plain : (z : ℤ) → Within narrow_limit (pos 0 +ℤ z) → SFits w32 z
    plain z = simp lin (omega arith_z)

-- the first members in one number
sum-tally : (f : ℤ → ℕ) (k : ℕ) (hs : List ℤ) → sum_z (take k (map (λ h. pos (f h)) hs)) ≡ pos (tally f (take k hs))
sum-tally f zero hs = refl
sum-tally f (suc k) [] = refl
sum-tally f (suc k) (h ∷ hs) = ap (λ z. pos (f h) +ℤ z) (sum-tally f k hs)

pub packed-narrow : (hs : List ℤ) (b i : ℕ) → i < length hs → AllNarrow (partials (pos 0) (map (λ h. pos (packed b h)) hs)) → packed_first hs b (i + 1) < 2 ^ 31
unfolding packed_first
packed-narrow hs b i k w = subst (λ j. tally (packed b) (take j hs) < 2 ^ 31) (sym (add-one i)) (plain (tally (packed b) (take (suc i) hs))
    (subst (λ z. Within narrow_limit (pos 0 +ℤ z)) (sum-tally (packed b) (suc i) hs)
    (partial-at (pos 0) (map (λ h. pos (packed b h)) hs) i (subst (λ n. i < n) (sym (length-map hs (λ h. pos (packed b h)))) k) w)))
  where
    plain : (n : ℕ) → Within narrow_limit (pos 0 +ℤ pos n) → n < 2 ^ 31
    plain n h = omega (arith, h.hi)

-- ---- one member's: -b, and above it b and the height, alone and with `one`
module _ (b : ℕ) (h : ℤ) (w : AllNarrow (share_sums b h)) where
  pub down-narrow : (b < 2 ^ 31) × SFits w32 (pos 0 -ℤ pos b)
  down-narrow = (size b w.0, narrow-fits (pos 0 -ℤ pos b) w.0)
    where
      size : (b : ℕ) → Within narrow_limit (pos 0 -ℤ pos b) → b < 2 ^ 31
      size b = simp lin (omega arith_z)

  module _ (t : lt_z (pos 0 -ℤ pos b) h ≡ true) where
    taken : AllNarrow ((pos b +ℤ h) ∷ (pos one +ℤ (pos b +ℤ h)) ∷ [])
    taken = subst (λ c. AllNarrow (cond c ((pos b +ℤ h) ∷ (pos one +ℤ (pos b +ℤ h)) ∷ []) [])) t w.1

    pub lifted-narrow : SFits w32 (pos b +ℤ h)
    lifted-narrow = narrow-fits (pos b +ℤ h) taken.0

    pub lifted-above : pos 0 ≤ℤ (pos b +ℤ h)
    lifted-above = above b h t
      where
        above : (b : ℕ) (h : ℤ) → lt_z (pos 0 -ℤ pos b) h ≡ true → pos 0 ≤ℤ (pos b +ℤ h)
        above b h = simp lin (omega arith_z)

    pub counted-narrow : one + nat_abs (pos b +ℤ h) < 2 ^ 31
    counted-narrow = size (pos b +ℤ h) lifted-above taken.1.0
      where
        size : (z : ℤ) → pos 0 ≤ℤ z → Within narrow_limit (pos one +ℤ z) → one + nat_abs z < 2 ^ 31
        size (pos n) k h = omega (arith, h.hi)
        size (negsuc n) k h = absurd (omega arith_z)
