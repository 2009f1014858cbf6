-- The largest sum fits 32 bits; running sums of at most 32 small numbers, and the sums of the cut search, are no larger. Assumes nothing.
use mathlib.Core.Path.{◌≡◌, refl, sym, subst}
use mathlib.Core.Bool.{Bool, true, false, cond}
use mathlib.Core.List.{List, [], ◌∷◌, map}
use Prim.Native.Nat.{ℕ, suc, ◌+◌, ◌*◌, ◌^◌, ◌≤◌, ◌<◌}
use native.Mathlib.Omega.{arith}
use lib.Dec.{ltb}
use native.Mathlib.Nat.{mul-le-mul_left}
use lib.ListN.{length, length-map}
use borrow.Author.Tests.{ltb-true}
use lib.IntN.{ℤ, pos, negsuc, neg_ℤ, ◌+ℤ◌, ◌-ℤ◌}
use lib.Signed.{◌≤ℤ◌}
use Rattle.integers.specs.Linear.{lin, arith_z, ◌⩽◌, Within, up}
use Rattle.integers.specs.Order.{up-mono, within-add, within_wider, within-zero}
use Rattle.integers.specs.Sum.{AllWithin}
use Rattle.rules.specs.Limits.{unit, value_limit, max_degree}
use Rattle.rules.specs.Parity.{odd}
use Rattle.rules.specs.Cut.{is_neg, negatives}
use Rattle.rules.proofs.Pass.{append-within, all-wider}
use Rattle.cut.specs.Heights.{height, highest}
use Rattle.cut.specs.Scan.{sights, rooms}
use Rattle.cut.proofs.HeightLaws.{height-top, sights-top, sights-length}
use Rattle.cut.proofs.SeeLaws.{above_within}
use Rattle.multiplier_search.specs.Lifted.{reach, lowest, AllUpTo}
use Rattle.multiplier_search.specs.Sums.{narrow_limit, AllNarrow, widest, partials, scan_sums, odd_sums, even_sums, see_sums}
use Rattle.multiplier_search.proofs.PackedLaws.{up-to-more}
use Rattle.multiplier_search.proofs.StartLaws.{heights-within}

-- ---- 32 bits are enough, with a sign
pub fits : widest < 2 ^ 31
fits = omega arith

named : widest ≡ 268181535
named = refl

pub narrow : (xs : List ℤ) → AllWithin widest xs → AllNarrow xs
narrow xs w = all-wider widest narrow_limit xs (omega (arith, fits)) w

-- ---- running sums
partials-within : (m k : ℕ) (a : ℤ) (xs : List ℤ) → Within k a → AllWithin m xs → AllWithin (k + m * length xs) (partials a xs)
partials-within m k a [] w h = tt
partials-within m k a (x ∷ xs) w h = (
  within_wider (k + m) (k + m * suc (length xs)) (a +ℤ x) (omega arith) (within-add k m a x w h.0),
  subst (λ n. AllWithin n (partials (a +ℤ x) xs)) (grown k m (length xs)) (partials-within m (k + m) (a +ℤ x) xs (within-add k m a x w h.0) h.1),
)
  where
    grown : (k m n : ℕ) → k + m + m * n ≡ k + m * suc n
    grown k m n = omega arith

-- at most 32 of them
pub few-partials : (m n : ℕ) (xs : List ℤ) → length xs ≤ max_degree → m * max_degree ≤ n → AllWithin m xs → AllWithin n (partials (pos 0) xs)
few-partials m n xs few h w = all-wider (0 + m * length xs) n (partials (pos 0) xs) (less (length xs) few) (partials-within m 0 (pos 0) xs (within-zero 0) w)
  where
    less : (k : ℕ) → k ≤ max_degree → 0 + m * k ≤ n
    less k l = omega (arith, mul-le-mul_left m l)

-- of what f makes of numbers that are at most t
pub mapped-partials : (m n : ℕ) (t : ℤ) (f : ℤ → ℕ) (xs : List ℤ) → ((x : ℤ) → x ⩽ t → f x ≤ m) → length xs ≤ max_degree → m * max_degree ≤ n → AllUpTo t xs
    → AllWithin n (partials (pos 0) (map (λ x. pos (f x)) xs))
mapped-partials m n t f xs h few k a = few-partials m n (map (λ x. pos (f x)) xs) (subst (λ i. i ≤ max_degree) (sym (length-map xs (λ x. pos (f x)))) few) k (each xs a)
  where
    size : (i : ℕ) → i ≤ m → Within m (pos i)
    size i k = record { hi = k; lo = omega arith }

    each : (xs : List ℤ) → AllUpTo t xs → AllWithin m (map (λ x. pos (f x)) xs)
    each [] a = tt
    each (x ∷ xs) a = (size (f x) (h x a.0), each xs a.1)

-- ---- the cut search: but for the heights themselves no sum is above 32 times U
sights-up : (vs : List ℤ) → AllUpTo (pos unit) (sights vs)
sights-up [] = tt
sights-up (v ∷ vs) = (height-top v, sights-up vs)

module _ (m : ℕ) (wide : unit * max_degree ≤ m) where
  odd-within : (room : ℕ) → AllWithin m (odd_sums room)
  odd-within room = go (ltb room reach) refl
    where
      size : (m room : ℕ) → unit * max_degree ≤ m → room < reach → Within m (pos reach -ℤ pos room)
      size m room = simp lin (omega arith_z)

      go : (t : Bool) → ltb room reach ≡ t → AllWithin m (cond t ((pos reach -ℤ pos room) ∷ []) [])
      go true e = (size m room wide (ltb-true room reach e), tt)
      go false e = tt

  even-within : (room : ℕ) (top : ℤ) → top ⩽ pos unit → AllWithin m (even_sums room top)
  even-within room top h = (double (up top) (up-mono top (pos unit) h), go (ltb room (2 * up top)) refl)
    where
      double : (n : ℕ) → n ≤ unit → Within m (pos (2 * n))
      double n k = record { hi = omega arith; lo = omega arith }

      lacks : (m room n : ℕ) → unit * max_degree ≤ m → n ≤ unit → room < 2 * n → Within m (pos (2 * n) -ℤ pos room)
      lacks m room n = simp lin (omega arith_z)

      raised : (m : ℕ) (z : ℤ) → unit * max_degree ≤ m → Within unit z → Within m (pos reach -ℤ z)
      raised m z = simp lin (omega arith_z)

      go : (t : Bool) → ltb room (2 * up top) ≡ t → AllWithin m (cond t ((pos (2 * up top) -ℤ pos room) ∷ (pos reach -ℤ top) ∷ []) [])
      go true e =
          let k = ltb-true room (2 * up top) e in
          (lacks m room (up top) wide (up-mono top (pos unit) h) k, (raised m top wide (above_within top room h k), tt))
      go false e = tt

  sums-within : (vs : List ℤ) → length vs ≤ max_degree → AllWithin m (sights vs) → AllWithin m (see_sums vs)
  sums-within vs few w = append-within m (scan_sums vs) (cond (odd (negatives vs)) (odd_sums (rooms (sights vs))) (even_sums (rooms (sights vs)) (highest (sights vs))))
      (append-within m (sights vs) (partials (pos 0) (map (λ h. pos (up h)) (sights vs))) w
      (mapped-partials unit m (pos unit) up (sights vs) (λ h. up-mono h (pos unit)) (subst (λ n. n ≤ max_degree) (sym (sights-length vs)) few) wide (sights-up vs)))
      (go (odd (negatives vs)))
    where
      go : (t : Bool) → AllWithin m (cond t (odd_sums (rooms (sights vs))) (even_sums (rooms (sights vs)) (highest (sights vs))))
      go true = odd-within (rooms (sights vs))
      go false = even-within (rooms (sights vs)) (highest (sights vs)) (sights-top vs)

pub see-within : (vs : List ℤ) → length vs ≤ max_degree → AllWithin value_limit vs → AllWithin widest (see_sums vs)
see-within vs few small = sums-within widest (omega arith) vs few (all-wider lowest widest (sights vs) (omega arith)
    (heights-within (negatives vs) vs small (up-to-more (pos unit) (pos reach) (sights vs) (simp lin (omega arith_z)) (sights-up vs))))

-- of any 32-bit values too, which anybody may hand to `cut::see`
pub see-narrow : (vs : List ℤ) → length vs ≤ max_degree → AllWithin (2 ^ 31) vs → AllNarrow (see_sums vs)
see-narrow vs few w = sums-within narrow_limit (omega arith) vs few (each vs w)
  where
    own : (v : ℤ) → Within (2 ^ 31) v → Within narrow_limit (height (is_neg v) v)
    own (pos n) h = plain n h.hi
      where
        plain : (n : ℕ) → n ≤ 2 ^ 31 → Within narrow_limit (pos unit +ℤ neg_ℤ (pos n))
        plain n = simp lin (omega arith_z)
    own (negsuc n) h = plain (negsuc n) h (record { le = tt })
      where
        plain : (v : ℤ) → Within (2 ^ 31) v → v ≤ℤ pos 0 → Within narrow_limit (pos unit +ℤ v)
        plain v = simp lin (omega arith_z)

    each : (vs : List ℤ) → AllWithin (2 ^ 31) vs → AllWithin narrow_limit (sights vs)
    each [] w = tt
    each (v ∷ vs) w = (own v w.0, each vs w.1)
