-- The multiplier without clipping from above: V's inequality is met exactly if the lifted members reach 2U together, and from a b that meets it the next
-- is b less (sum - 2U) / (number of members above 0), until that is 0. Assumes nothing.
use mathlib.Core.Path.{◌≡◌, refl, sym, ◌∙◌, ap, ap₂, subst}
use mathlib.Core.Bool.{Bool, true, false, true≢false}
use mathlib.Core.List.{List, [], ◌∷◌}
use Prim.Native.Nat.{ℕ, zero, suc, ◌+◌, ◌*◌, ◌-◌, ◌/◌, ◌%◌, ◌≤◌, ◌<◌, min}
use native.Mathlib.Omega.{arith}
use native.Mathlib.Decide.{dec_le}
use native.Mathlib.Numerals.{add-one}
use native.Mathlib.Nat.{div-add-mod', mod-lt, div-mul-le_self, mul-le-mul_left, mul_comm, add-mul, lt_of_not-le}
use lib.IntN.{ℤ, pos, negsuc, neg_ℤ, ◌+ℤ◌}
use lib.Signed.{◌≤ℤ◌, ◌<ℤ◌, lt_z}
use Rattle.rules.specs.Limits.{step_limit, unit}
use Rattle.integers.specs.Linear.{lin, arith_z, ◌⩽◌, Within, up, dn, lt_out, le_out, lt-lt_z, le-lt_z}
use Rattle.integers.specs.Clip.{clip_z, clip-low, clip-high, clip-mid, Place, below, above, inside, place, clip-neg}
use Rattle.rules.specs.Parity.{side, left}
use Rattle.rules.specs.Step.{move, moves, short}
use Rattle.cut.specs.Heights.{height, heights_of}
use Rattle.multiplier_search.specs.Lifted.{lifted, lifting, tally, sum_at, count_at, fall_at, LeastAt, reach}

-- ---- a member's share of the left side is what is lifted, at most 2U
share-low : (x : ℤ) → x <ℤ neg_ℤ (pos unit) → pos unit +ℤ neg_ℤ (pos unit) ≡ pos (min (up (pos unit +ℤ x)) reach)
share-low x h = ap pos (zero-up (pos unit +ℤ x) (simp lin (omega arith_z)))
  where
    zero-up : (z : ℤ) → z <ℤ pos 0 → 0 ≡ min (up z) reach
    zero-up (pos n) h = absurd (omega arith_z)
    zero-up (negsuc n) h = omega arith

share-high : (x : ℤ) → pos unit <ℤ x → pos unit +ℤ pos unit ≡ pos (min (up (pos unit +ℤ x)) reach)
share-high x h = ap pos (top (pos unit +ℤ x) (simp lin (omega arith_z)))
  where
    top : (z : ℤ) → pos reach <ℤ z → reach ≡ min (up z) reach
    top (pos n) h = omega (arith, lt_out h)
    top (negsuc n) h = absurd (omega arith_z)

share-mid : (x : ℤ) → Within unit x → pos unit +ℤ x ≡ pos (min (up (pos unit +ℤ x)) reach)
share-mid x h = mid (pos unit +ℤ x) (simp lin (omega arith_z)) (simp lin (omega arith_z))
  where
    mid : (z : ℤ) → pos 0 ≤ℤ z → z ≤ℤ pos reach → z ≡ pos (min (up z) reach)
    mid (pos n) h k = ap pos (omega (arith, le_out k))
    mid (negsuc n) h k = absurd (omega arith_z)

share-clip : (x : ℤ) → pos unit +ℤ clip_z unit x ≡ pos (min (up (pos unit +ℤ x)) reach)
share-clip x = go (place unit x)
  where
    go : Place unit x → pos unit +ℤ clip_z unit x ≡ pos (min (up (pos unit +ℤ x)) reach)
    go (below h) = ap (λ z. pos unit +ℤ z) (clip-low unit x h) ∙ share-low x h
    go (above h) = ap (λ z. pos unit +ℤ z) (clip-high unit x h) ∙ share-high x h
    go (inside h) = ap (λ z. pos unit +ℤ z) (clip-mid unit x h) ∙ share-mid x h

join_up : (v : ℤ) (b : ℕ) → pos unit +ℤ (v +ℤ pos b) ≡ (pos unit +ℤ v) +ℤ pos b
join_up v b = simp lin (omega arith_z)

join-down : (v : ℤ) (b : ℕ) → pos unit +ℤ neg_ℤ (v +ℤ neg_ℤ (pos b)) ≡ (pos unit +ℤ neg_ℤ v) +ℤ pos b
join-down v b = simp lin (omega arith_z)

share-is : (b : ℕ) (t : Bool) (v : ℤ) → pos unit +ℤ side t (move unit b t v) ≡ pos (min (lifted b (height t v)) reach)
share-is b true v = share-clip (v +ℤ pos b) ∙ ap (λ z. pos (min (up z) reach)) (join_up v b)
share-is b false v = ap (λ z. pos unit +ℤ z) (sym (clip-neg unit (v +ℤ neg_ℤ (pos b)))) ∙ share-clip (neg_ℤ (v +ℤ neg_ℤ (pos b))) ∙ ap (λ z. pos (min (up z) reach)) (join-down v b)

left_is : (b : ℕ) (ts : List Bool) (vs : List ℤ) → left unit ts (moves unit b ts vs) ≡ pos (tally (λ h. min (lifted b h) reach) (heights_of ts vs))
left_is b [] vs = refl
left_is b (t ∷ ts) [] = refl
left_is b (t ∷ ts) (v ∷ vs) = ap₂ ◌+ℤ◌ (share-is b t v) (left_is b ts vs)

-- ---- capped or not, the sum reaches 2U alike
cap-le : (b : ℕ) (hs : List ℤ) → tally (λ h. min (lifted b h) reach) hs ≤ tally (lifted b) hs
cap-le b [] = omega arith
cap-le b (h ∷ hs) = step (lifted b h) (tally (λ h. min (lifted b h) reach) hs) (tally (lifted b) hs) (cap-le b hs)
  where
    step : (a x y : ℕ) → x ≤ y → min a reach + x ≤ a + y
    step a x y h = omega arith

cap-reach : (b : ℕ) (hs : List ℤ) → min (tally (lifted b) hs) reach ≤ tally (λ h. min (lifted b h) reach) hs
cap-reach b [] = omega arith
cap-reach b (h ∷ hs) = step (lifted b h) (tally (λ h. min (lifted b h) reach) hs) (tally (lifted b) hs) (cap-reach b hs)
  where
    step : (a x y : ℕ) → min y reach ≤ x → min (a + y) reach ≤ min a reach + x
    step a x y h = omega arith

is-short : (n m : ℕ) → n ≤ m → m < reach → lt_z (pos n) (pos reach) ≡ true
is-short n m h k = lt-lt_z (pos n) (pos reach) (plain n (omega arith))
  where
    plain : (n : ℕ) → n < reach → pos n <ℤ pos reach
    plain n = simp lin (omega arith_z)

is-met : (n m : ℕ) → min m reach ≤ n → reach ≤ m → lt_z (pos n) (pos reach) ≡ false
is-met n m h k = le-lt_z (pos n) (pos reach) (plain n (omega arith))
  where
    plain : (n : ℕ) → reach ≤ n → pos reach ⩽ pos n
    plain n = simp lin (omega arith_z)

-- the inequality at a step b, and the sum at it
module _ (b : ℕ) (ts : List Bool) (vs : List ℤ) where
  abbrev hs : List ℤ
  hs = heights_of ts vs

  abbrev capped : ℕ
  capped = tally (λ h. min (lifted b h) reach) hs

  pub short-of : sum_at hs b < reach → short unit ts vs b ≡ true
  unfolding sum_at
  short-of h = ap (λ z. lt_z z (pos reach)) (left_is b ts vs) ∙ is-short capped (tally (lifted b) hs) (cap-le b hs) h

  pub met_of : reach ≤ sum_at hs b → short unit ts vs b ≡ false
  unfolding sum_at
  met_of h = ap (λ z. lt_z z (pos reach)) (left_is b ts vs) ∙ is-met capped (tally (lifted b) hs) (cap-reach b hs) h

  -- and back
  pub of-short : short unit ts vs b ≡ true → sum_at hs b < reach
  of-short e = go (dec_le reach (sum_at hs b))
    where
      go : Dec (reach ≤ sum_at hs b) → sum_at hs b < reach
      go (yes h) = absurd (true≢false (sym e ∙ met_of h))
      go (no f) = lt_of_not-le f

-- ---- a step down by d takes at most d off each member above 0, and a step by 1 just 1

apart : (b d : ℕ) (x : ℤ) → x +ℤ pos (b + d) ≡ (x +ℤ pos b) +ℤ pos d
apart b d x = simp lin (omega arith_z)

tied : (z w : ℤ) (d : ℕ) → z ≡ w +ℤ pos d → up z + dn w ≡ up w + d + dn z
tied z w d = simp lin (omega arith_z)

far : (z w : ℤ) (d : ℕ) → z ≡ w +ℤ pos d → up z ≤ up w + d
far (negsuc m) w d e = omega arith
far (pos m) w d e = omega (arith, tied (pos m) w d e)

lifting-one : (a x k d : ℕ) → k ≡ 1 → a ≤ x + d → a ≤ x + k * d
lifting-one a x k d h l = subst (λ n. a ≤ x + n * d) (sym h) (omega arith)

up-down : (z w : ℤ) (d : ℕ) → z ≡ w +ℤ pos d → up z ≤ up w + min (up z) 1 * d
up-down (negsuc m) w d e = omega arith
up-down (pos zero) w d e = omega arith
up-down (pos (suc m)) w d e = lifting-one (suc m) (up w) (min (suc m) 1) d (omega arith) (far (pos (suc m)) w d e)

up_one : (z w : ℤ) → z ≡ w +ℤ pos 1 → up z ≡ up w + min (up z) 1
up_one (negsuc m) (negsuc n) e = omega arith
up_one (negsuc m) (pos n) e = absurd (omega (arith, tied (negsuc m) (pos n) 1 e))
up_one (pos m) (pos n) e = omega (arith, tied (pos m) (pos n) 1 e)
up_one (pos m) (negsuc n) e = omega (arith, tied (pos m) (negsuc n) 1 e)

drop-step : (d a x k p q n : ℕ) → a ≤ x + k * d → p ≤ q + n * d → a + p ≤ x + q + (k + n) * d
drop-step d a x k p q n h l = omega (arith, add-mul k n d)

sum_drop : (b d : ℕ) (hs : List ℤ) → tally (lifted (b + d)) hs ≤ tally (lifted b) hs + tally (lifting (b + d)) hs * d
sum_drop b d [] = omega arith
sum_drop b d (h ∷ hs) = drop-step d (lifted (b + d) h) (lifted b h) (lifting (b + d) h)
    (tally (lifted (b + d)) hs) (tally (lifted b) hs) (tally (lifting (b + d)) hs)
    (up-down (h +ℤ pos (b + d)) (h +ℤ pos b) d (apart b d h)) (sum_drop b d hs)

sum_one : (b : ℕ) (hs : List ℤ) → tally (lifted (b + 1)) hs ≡ tally (lifted b) hs + tally (lifting (b + 1)) hs
sum_one b [] = refl
sum_one b (h ∷ hs) = ap₂ ◌+◌ (up_one (h +ℤ pos (b + 1)) (h +ℤ pos b) (apart b 1 h)) (sum_one b hs)
    ∙ shuffle (lifted b h) (lifting (b + 1) h) (tally (lifted b) hs) (tally (lifting (b + 1)) hs)
  where
    shuffle : (a c x y : ℕ) → a + c + (x + y) ≡ a + x + (c + y)
    shuffle a c x y = omega arith

lifting-some : (b : ℕ) (hs : List ℤ) → 0 < tally (lifted b) hs → 0 < tally (lifting b) hs
lifting-some b [] h = absurd (omega arith)
lifting-some b (x ∷ hs) h = go (dec_le 1 (tally (lifted b) hs)) (lifting-some b hs)
  where
    later : (a y : ℕ) → 0 < y → 0 < a + y
    later a y h = omega arith

    here : (a x y : ℕ) → 0 < a + x → ¬ (1 ≤ x) → 0 < min a 1 + y
    here a x y h f = omega arith

    go : Dec (1 ≤ tally (lifted b) hs) → (0 < tally (lifted b) hs → 0 < tally (lifting b) hs) → 0 < lifting b x + tally (lifting b) hs
    go (yes p) ih = later (lifting b x) (tally (lifting b) hs) (ih p)
    go (no f) ih = here (lifted b x) (tally (lifted b) hs) (tally (lifting b) hs) h f

pub count-some : (hs : List ℤ) (b : ℕ) → reach ≤ sum_at hs b → 0 < count_at hs b
unfolding sum_at count_at
count-some hs b h = lifting-some b hs (omega arith)

-- ---- the search: from a b that meets the inequality down to the last one that does
module _ (hs : List ℤ) where
  abbrev sum : ℕ → ℕ
  sum b = tally (lifted b) hs

  abbrev count : ℕ → ℕ
  count b = tally (lifting b) hs

  pub next-step : (b d : ℕ) → reach ≤ sum_at hs b → sum_at hs 0 < reach → d ≡ fall_at hs b → (d < b) × (reach ≤ sum_at hs (b - d))
  unfolding sum_at count_at fall_at
  next-step b d h z e = (under, after (sum b) (sum (b - d)) (count b * d) h paid down)
    where
      paid : count b * d ≤ sum b - reach
      paid = subst (λ n. n ≤ sum b - reach) (ap (λ n. n * count b) (sym e) ∙ mul_comm d (count b)) (div-mul-le_self (sum b - reach) (count b))

      after : (f g n : ℕ) → reach ≤ f → n ≤ f - reach → f ≤ g + n → reach ≤ g
      after f g n h k l = omega arith

      never : b ≤ d → ⊥
      never l = past (sum b) (sum 0) (count b * b) (count b * d) h z (subst (λ n. sum n ≤ sum 0 + count n * b) (plain b) (sum_drop 0 b hs)) (mul-le-mul_left (count b) l) paid
        where
          plain : (n : ℕ) → 0 + n ≡ n
          plain n = omega arith

          past : (f g n m : ℕ) → reach ≤ f → g < reach → f ≤ g + n → n ≤ m → m ≤ f - reach → ⊥
          past f g n m h z l k p = omega arith

      under : d < b
      under = go (dec_le b d)
        where
          turn : ¬ (b ≤ d) → d < b
          turn f = omega arith

          go : Dec (b ≤ d) → d < b
          go (yes l) = absurd (never l)
          go (no f) = turn f

      down : sum b ≤ sum (b - d) + count b * d
      down = subst (λ n. sum n ≤ sum (b - d) + count n * d) (back under) (sum_drop (b - d) d hs)
        where
          back : d < b → b - d + d ≡ b
          back l = omega arith

  last_step : (b d : ℕ) → reach ≤ sum (b + 1) → d ≡ (sum (b + 1) - reach) / count (b + 1) → d ≡ 0 → sum b < reach
  last_step b d h e z = end (sum (b + 1)) (sum b) (count (b + 1)) h (sum_one b hs) (few (sum (b + 1) - reach) (count (b + 1)) (lifting-some (b + 1) hs (omega arith)) (sym e ∙ z))
    where
      end : (f g n : ℕ) → reach ≤ f → f ≡ g + n → f - reach < n → g < reach
      end f g n h e l = omega arith

      few : (x n : ℕ) → 0 < n → x / n ≡ 0 → x < n
      few x n h q = subst (λ y. y < n) (ap (λ k. k * n + x % n) (sym q) ∙ div-add-mod' x n) (omega (arith, mod-lt x h))

  pub least-found : (b d : ℕ) → reach ≤ sum_at hs b → b ≤ step_limit → d ≡ fall_at hs b → d ≡ 0 → LeastAt hs b
  unfolding sum_at count_at fall_at
  least-found b d h k e q = record { met = h; last = under; bounded = k }
    where
      at_next : (a : ℕ) → b ≡ suc a → b ≡ a + 1
      at_next a p = p ∙ sym (add-one a)

      under : (a : ℕ) → b ≡ suc a → sum a < reach
      under a p = last_step a d (subst (λ n. reach ≤ sum n) (at_next a p) h) (subst (λ n. d ≡ (sum n - reach) / count n) (at_next a p) e) q
