-- The search on the heights of a cut: the sums of its first step and of each step from there, and that these are all its steps. Assumes nothing.
use mathlib.Core.Path.{◌≡◌, refl, sym, ap, subst}
use mathlib.Core.Bool.{Bool, true, false, cond}
use mathlib.Core.List.{List, [], ◌∷◌, ◌++◌, map}
use Prim.Native.Nat.{ℕ, zero, suc, ◌+◌, ◌*◌, ◌-◌, ◌/◌, ◌≤◌, ◌<◌}
use native.Mathlib.Omega.{arith}
use native.Mathlib.Nat.{div-le_self, le_refl}
use lib.ListN.{length}
use lib.IntN.{ℤ, pos, neg_ℤ, nat_abs, ◌+ℤ◌, ◌-ℤ◌}
use lib.Signed.{lt_z}
use Rattle.integers.specs.Linear.{lin, arith_z, ◌⩽◌, Within}
use Rattle.integers.specs.Order.{within_wider}
use Rattle.integers.specs.Sum.{AllWithin}
use Rattle.rules.specs.Limits.{unit, value_limit, step_limit, max_degree}
use Rattle.rules.specs.Parity.{Alike}
use Rattle.rules.specs.Step.{clips, multiplier}
use Rattle.rules.proofs.Pass.{append-within}
use Rattle.rules.proofs.CutRule.{Cuts}
use Rattle.cut.specs.Heights.{heights_of, highest}
use Rattle.multiplier_search.specs.Lifted.{reach, one, packed, sum_at, count_at, sum_z, lack, first_step, fall_at, lowest, AllUpTo, Rising, LeastAt}
use Rattle.multiplier_search.specs.Sums.{AllNarrow, widest, partials, first_sums, share_sums, shares_sums, slope_sums, fall_sums, walk_sums, walk_end, steps_sums, climb_sums}
use Rattle.multiplier_search.proofs.PackedLaws.{sum-within, packed-le, sum-most}
use Rattle.multiplier_search.proofs.LiftedLaws.{next-step, least-found}
use Rattle.multiplier_search.proofs.StartLaws.{rising, least-is, first-met, first-most, start-most, start_under}
use Rattle.multiplier_search.proofs.WidestLaws.{narrow, few-partials, mapped-partials}

-- ---- a step that falls
lower : (b d : ℕ) {n : ℕ} → b ≤ n → b - suc d ≤ n
lower b d h = omega arith

fewer : (b d n : ℕ) → b ≤ suc n → b - suc d ≤ n
fewer b d n h = omega arith

-- ---- on the heights of a cut: the first step, and each step from there
module _ (hs : List ℤ) (top : ℤ) (r : Rising hs top) where
  total-within : Within (max_degree * lowest) (sum_z hs)
  total-within = within_wider (lowest * length hs) (max_degree * lowest) (sum_z hs) (less (length hs) r.few) (sum-within lowest hs r.small)
    where
      less : (n : ℕ) → n ≤ max_degree → lowest * n ≤ max_degree * lowest
      less n h = omega arith

  first-within : AllWithin widest (first_sums hs top)
  first-within = append-within widest (partials (pos 0) hs) (lack hs ∷ (pos reach -ℤ top) ∷ (pos (length hs) -ℤ pos 1) ∷ (lack hs +ℤ (pos (length hs) -ℤ pos 1)) ∷ [])
      (few-partials lowest widest hs r.few (omega arith) r.small)
      (lacks (sum_z hs) total-within, (alone top r.low r.high, (less (length hs) r.some r.few, (rounded (sum_z hs) (length hs) total-within r.some r.few, tt))))
    where
      lacks : (z : ℤ) → Within (max_degree * lowest) z → Within widest (pos reach -ℤ z)
      lacks z = simp lin (omega arith_z)

      alone : (z : ℤ) → neg_ℤ (pos lowest) ⩽ z → z ⩽ pos reach → Within widest (pos reach -ℤ z)
      alone z = simp lin (omega arith_z)

      less : (d : ℕ) → 0 < d → d ≤ max_degree → Within widest (pos d -ℤ pos 1)
      less d = simp lin (omega arith_z)

      rounded : (z : ℤ) (d : ℕ) → Within (max_degree * lowest) z → 0 < d → d ≤ max_degree → Within widest ((pos reach -ℤ z) +ℤ (pos d -ℤ pos 1))
      rounded z d = simp lin (omega arith_z)

  pub first-narrow : AllNarrow (first_sums hs top)
  first-narrow = narrow (first_sums hs top) first-within

  -- b is at most what the greatest height lacks
  module _ (b : ℕ) (start : b ≤ nat_abs (pos reach -ℤ top)) where
    under : AllUpTo (pos reach -ℤ pos b) hs
    under = start_under hs top b r.most r.high start

    bounded : b ≤ reach + lowest
    bounded = omega (arith, start, start-most top r.low r.high)

    share-within : (h : ℤ) → h ⩽ pos reach -ℤ pos b → AllWithin widest (share_sums b h)
    share-within h l = (down b bounded, go (lt_z (pos 0 -ℤ pos b) h) refl)
      where
        down : (b : ℕ) → b ≤ reach + lowest → Within widest (pos 0 -ℤ pos b)
        down b = simp lin (omega arith_z)

        lifts : (b : ℕ) (h : ℤ) → lt_z (pos 0 -ℤ pos b) h ≡ true → h ⩽ pos reach -ℤ pos b → Within widest (pos b +ℤ h)
        lifts b h = simp lin (omega arith_z)

        counts : (b : ℕ) (h : ℤ) → lt_z (pos 0 -ℤ pos b) h ≡ true → h ⩽ pos reach -ℤ pos b → Within widest (pos one +ℤ (pos b +ℤ h))
        counts b h = simp lin (omega arith_z)

        go : (t : Bool) → lt_z (pos 0 -ℤ pos b) h ≡ t → AllWithin widest (cond t ((pos b +ℤ h) ∷ (pos one +ℤ (pos b +ℤ h)) ∷ []) [])
        go true e = (lifts b h e l, (counts b h e l, tt))
        go false e = tt

    shares-within : (xs : List ℤ) → AllUpTo (pos reach -ℤ pos b) xs → AllWithin widest (shares_sums b xs)
    shares-within [] a = tt
    shares-within (x ∷ xs) a = append-within widest (share_sums b x) (shares_sums b xs) (share-within x a.0) (shares-within xs a.1)

    slope-within : AllWithin widest (slope_sums hs b)
    slope-within = append-within widest (shares_sums b hs) (partials (pos 0) (map (λ h. pos (packed b h)) hs)) (shares-within hs under)
        (mapped-partials (one + reach) widest (pos reach -ℤ pos b) (packed b) hs (packed-le b) r.few (omega arith) under)

    fall-within : AllWithin widest (fall_sums hs b)
    fall-within = append-within widest (slope_sums hs b) ((pos (sum_at hs b) -ℤ pos reach) ∷ []) slope-within (less (sum_at hs b) (sum-most hs b r.few under), tt)
      where
        less : (n : ℕ) → n ≤ reach * max_degree → Within widest (pos n -ℤ pos reach)
        less n = simp lin (omega arith_z)

    pub fall-narrow : AllNarrow (fall_sums hs b)
    fall-narrow = narrow (fall_sums hs b) fall-within

  -- b meets the inequality, and so does the next
  falls : (b : ℕ) → reach ≤ sum_at hs b → (fall_at hs b < b) × (reach ≤ sum_at hs (b - fall_at hs b))
  falls b m = next-step hs b (fall_at hs b) m r.short refl

  -- at 0 nothing falls
  last : {b d : ℕ} → b ≤ 0 → suc d ≡ fall_at hs b → ⊥
  unfolding fall_at
  last {b} {d} h e = none (sum_at hs b) (count_at hs b) d (subst (λ n. sum_at hs n < reach) (zero_is b h) r.short) e
    where
      zero_is : (b : ℕ) → b ≤ 0 → 0 ≡ b
      zero_is b h = omega arith

      none : (x n d : ℕ) → x < reach → suc d ≡ (x - reach) / n → ⊥
      none x n d h e = omega (arith, div-le_self (x - reach) n)

  walk-within : (k b d : ℕ) → b ≤ nat_abs (pos reach -ℤ top) → reach ≤ sum_at hs b → d ≡ fall_at hs b → AllWithin widest (walk_sums k hs b d)
  walk-within zero b d s m e = tt
  walk-within (suc k) b zero s m e = tt
  walk-within (suc k) b (suc d) s m e = (
    next b (suc d) (bounded b s) (subst (λ n. n < b) (sym e) (falls b m).0),
    append-within widest (fall_sums hs (b - suc d)) (walk_sums k hs (b - suc d) (fall_at hs (b - suc d)))
        (fall-within (b - suc d) (lower b d s)) (walk-within k (b - suc d) (fall_at hs (b - suc d)) (lower b d s) met refl),
  )
    where
      next : (b d : ℕ) → b ≤ reach + lowest → d < b → Within widest (pos b -ℤ pos d)
      next b d = simp lin (omega arith_z)

      met : reach ≤ sum_at hs (b - suc d)
      met = subst (λ n. reach ≤ sum_at hs (b - n)) (sym e) (falls b m).1

  steps-within : (b : ℕ) → b ≤ nat_abs (pos reach -ℤ top) → reach ≤ sum_at hs b → AllWithin widest (steps_sums hs b)
  steps-within b s m = append-within widest (fall_sums hs b) (walk_sums b hs b (fall_at hs b)) (fall-within b s) (walk-within b b (fall_at hs b) s m refl)

  -- the list of steps is whole: any number that is b at least counts all of them
  pub walk-whole : (k m b d : ℕ) → b ≤ k → b ≤ m → d ≡ fall_at hs b → walk_sums k hs b d ≡ walk_sums m hs b d
  walk-whole zero zero b d h l e = refl
  walk-whole zero (suc m) b zero h l e = refl
  walk-whole zero (suc m) b (suc d) h l e = absurd (last h e)
  walk-whole (suc k) zero b zero h l e = refl
  walk-whole (suc k) zero b (suc d) h l e = absurd (last l e)
  walk-whole (suc k) (suc m) b zero h l e = refl
  walk-whole (suc k) (suc m) b (suc d) h l e =
      ap (λ xs. (pos b -ℤ pos (suc d)) ∷ (fall_sums hs (b - suc d) ++ xs)) (walk-whole k m (b - suc d) (fall_at hs (b - suc d)) (fewer b d k h) (fewer b d m l) refl)

  walk-least : (k b d : ℕ) → b ≤ k → b ≤ nat_abs (pos reach -ℤ top) → reach ≤ sum_at hs b → d ≡ fall_at hs b → LeastAt hs (walk_end k hs b d)
  walk-least zero b d h s m e = absurd (none b (sum_at hs b) h (λ n. subst (λ x. sum_at hs x < reach) n r.short) m)
    where
      none : (b x : ℕ) → b ≤ 0 → (0 ≡ b → x < reach) → reach ≤ x → ⊥
      none b x h f m = omega (arith, f (omega arith))
  walk-least (suc k) b zero h s m e = least-found hs b 0 m (small (bounded b s)) e refl
    where
      small : b ≤ reach + lowest → b ≤ step_limit
      small h = omega arith
  walk-least (suc k) b (suc d) h s m e = walk-least k (b - suc d) (fall_at hs (b - suc d)) (fewer b d k h) (lower b d s) (subst (λ n. reach ≤ sum_at hs (b - n)) (sym e) (falls b m).1) refl

pub climb-within : (hs : List ℤ) → Rising hs (highest hs) → AllWithin widest (climb_sums hs)
climb-within hs r = append-within widest (first_sums hs (highest hs)) (steps_sums hs (first_step hs (highest hs))) (first-within hs (highest hs) r)
    (steps-within hs (highest hs) r (first_step hs (highest hs)) (first-most hs (highest hs)) (first-met hs (highest hs) r))

-- these are the steps of the search: they end at the multiplier of the cut ts of the values vs
pub steps-end : (ts : List Bool) (vs : List ℤ) → length vs ≤ max_degree → AllWithin value_limit vs → Alike ts vs → Cuts unit ts (clips unit vs)
    → let hs = heights_of ts vs in let b = first_step hs (highest hs) in walk_end b hs b (fall_at hs b) ≡ multiplier unit ts vs
steps-end ts vs few small alike c =
    let hs = heights_of ts vs in
    let b = first_step hs (highest hs) in
    let r = rising ts vs few small alike c in
    least-is ts vs few small alike c (walk_end b hs b (fall_at hs b)) (walk-least hs (highest hs) r b b (fall_at hs b) (le_refl b) (first-most hs (highest hs)) (first-met hs (highest hs) r) refl)
