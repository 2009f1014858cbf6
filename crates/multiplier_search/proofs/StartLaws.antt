-- The search for the multiplier on a cut's heights: where it starts, and that its end is the multiplier. Assumes nothing.
use mathlib.Core.Path.{◌≡◌, refl, sym, ap, subst}
use mathlib.Core.Bool.{Bool, true, false, cond, false≢true}
use mathlib.Core.List.{List, [], ◌∷◌}
use mathlib.Core.Logic.{◌⊎◌, inl, inr}
use Prim.Native.Nat.{ℕ, zero, suc, ◌+◌, ◌*◌, ◌-◌, ◌/◌, ◌≤◌, ◌<◌, min}
use native.Mathlib.Nat.{mul_comm, suc-mul, lt-div-mul-add, le-add_right, min-eq_left, min-eq_right, min-le_right}
use native.Mathlib.Decide.{dec_le}
use native.Mathlib.Omega.{arith}
use lib.ListN.{length}
use lib.IntN.{ℤ, pos, negsuc, neg_ℤ, nat_abs, ◌+ℤ◌, ◌-ℤ◌}
use lib.Signed.{◌≤ℤ◌, ◌<ℤ◌, lt_z}
use Rattle.rules.specs.Limits.{step_limit, value_limit, max_degree, unit}
use Rattle.integers.specs.Linear.{lin, arith_z, ◌⩽◌, Within, up, le_out, lt-lt_z}
use Rattle.integers.specs.Product.{abs-pos}
use Rattle.integers.specs.Sum.{AllWithin}
use Rattle.rules.specs.Parity.{left, odd, Alike}
use Rattle.rules.specs.Step.{clips, moves, multiplier}
use Rattle.rules.proofs.CutRule.{Cuts}
use Rattle.rules.proofs.Multiplier.{moves-zero, multiplier-least, multiplier-unique}
use Rattle.cut.specs.Heights.{height, heights_of, least_height, higher, highest}
use Rattle.multiplier_search.specs.Lifted.{lifted, tally, sum_at, sum_z, AllUpTo, Rising, LeastAt, lack, first_step, lowest, reach}
use Rattle.multiplier_search.proofs.PackedLaws.{up-to-more}
use Rattle.multiplier_search.proofs.LiftedLaws.{short-of, met_of, of-short}

-- ---- the greatest height is one of them
abbrev In : ℤ → List ℤ → Type 0
In x [] = ⊥
In x (h ∷ hs) = (x ≡ h) ⊎ In x hs

floor-low : (h : ℤ) → Within step_limit h → lt_z h least_height ≡ false
floor-low h = simp lin (omega arith_z)

highest-in : (h : ℤ) (hs : List ℤ) → AllWithin step_limit (h ∷ hs) → In (highest (h ∷ hs)) (h ∷ hs)
highest-in h [] w = inl (ap (λ b. cond b least_height h) (floor-low h w.0))
highest-in h (k ∷ hs) w = go (lt_z h (highest (k ∷ hs))) (highest-in k hs w.1)
  where
    go : (b : Bool) → In (highest (k ∷ hs)) (k ∷ hs) → In (cond b (highest (k ∷ hs)) h) (h ∷ k ∷ hs)
    go true i = inr i
    go false i = inl refl

highest-most : (hs : List ℤ) → AllUpTo (highest hs) hs
highest-most [] = tt
highest-most (h ∷ hs) = ((above h (highest hs)).0, up-to-more (highest hs) (higher h (highest hs)) hs (above h (highest hs)).1 (highest-most hs))
  where
    here : (z : ℤ) → z ⩽ z
    here z = simp lin (omega arith_z)

    less : (a b : ℤ) → lt_z a b ≡ true → a ⩽ b
    less a b = simp lin (omega arith_z)

    not-less : (a b : ℤ) → lt_z a b ≡ false → b ⩽ a
    not-less a b = simp lin (omega arith_z)

    above : (a b : ℤ) → (a ⩽ higher a b) × (b ⩽ higher a b)
    above a b = go (lt_z a b) refl
      where
        go : (t : Bool) → lt_z a b ≡ t → (a ⩽ cond t b a) × (b ⩽ cond t b a)
        go true e = (less a b e, here b)
        go false e = (here a, not-less a b e)

in_sum : (b : ℕ) (x : ℤ) (hs : List ℤ) → In x hs → lifted b x ≤ tally (lifted b) hs
in_sum b x [] i = absurd i
in_sum b x (h ∷ hs) (inl e) = subst (λ z. lifted b x ≤ lifted b z + tally (lifted b) hs) e (le-add_right (lifted b x) (tally (lifted b) hs))
in_sum b x (h ∷ hs) (inr i) = later (lifted b h) (lifted b x) (tally (lifted b) hs) (in_sum b x hs i)
  where
    later : (c a n : ℕ) → a ≤ n → a ≤ c + n
    later c a n h = omega arith

-- ---- the heights of values that are small
small : (t : Bool) (v : ℤ) → Within value_limit v → Within step_limit (height t v)
small true v = simp lin (omega arith_z)
small false v = simp lin (omega arith_z)

heights-small : (ts : List Bool) (vs : List ℤ) → AllWithin value_limit vs → AllWithin step_limit (heights_of ts vs)
heights-small [] vs w = tt
heights-small (t ∷ ts) [] w = tt
heights-small (t ∷ ts) (v ∷ vs) w = (small t v w.0, heights-small ts vs w.1)

low : (t : Bool) (v : ℤ) → Within value_limit v → neg_ℤ (pos lowest) ⩽ height t v
low true v = simp lin (omega arith_z)
low false v = simp lin (omega arith_z)

in-low : (x : ℤ) (ts : List Bool) (vs : List ℤ) → AllWithin value_limit vs → In x (heights_of ts vs) → neg_ℤ (pos lowest) ⩽ x
in-low x [] vs w i = absurd i
in-low x (t ∷ ts) [] w i = absurd i
in-low x (t ∷ ts) (v ∷ vs) w (inl e) = subst (λ z. neg_ℤ (pos lowest) ⩽ z) (sym e) (low t v w.0)
in-low x (t ∷ ts) (v ∷ vs) w (inr i) = in-low x ts vs w.1 i

-- on a cut's side none is above 2U, so that what is lowest bounds their sizes
pub heights-within : (ts : List Bool) (vs : List ℤ) → AllWithin value_limit vs → AllUpTo (pos reach) (heights_of ts vs) → AllWithin lowest (heights_of ts vs)
heights-within [] vs w a = tt
heights-within (t ∷ ts) [] w a = tt
heights-within (t ∷ ts) (v ∷ vs) w a = (box (height t v) (low t v w.0) a.0, heights-within ts vs w.1 a.1)
  where
    box : (z : ℤ) → neg_ℤ (pos lowest) ⩽ z → z ⩽ pos reach → Within lowest z
    box z = simp lin (omega arith_z)

pub heights-length : (ts : List Bool) (vs : List ℤ) → Alike ts vs → length (heights_of ts vs) ≡ length vs
heights-length [] [] a = refl
heights-length [] (v ∷ vs) a = absurd a
heights-length (t ∷ ts) [] a = absurd a
heights-length (t ∷ ts) (v ∷ vs) a = ap suc (heights-length ts vs a)

pub heights-few : (ts : List Bool) (vs : List ℤ) → length (heights_of ts vs) ≤ length vs
heights-few [] vs = omega arith
heights-few (t ∷ ts) [] = omega arith
heights-few (t ∷ ts) (v ∷ vs) = next (length (heights_of ts vs)) (length vs) (heights-few ts vs)
  where
    next : (a b : ℕ) → a ≤ b → suc a ≤ suc b
    next a b h = omega arith

-- ---- a cut's heights rise, and the least step at which they reach 2U is the multiplier
under_top : (z : ℤ) (n : ℕ) → up (z +ℤ pos 0) ≤ n → n < reach → z ⩽ pos reach
under_top (pos m) n h k = simp lin (omega arith_z)
under_top (negsuc m) n h k = simp lin (omega arith_z)

reached : (z : ℤ) → z ⩽ pos reach → reach ≤ up (z +ℤ pos (nat_abs (pos reach -ℤ z)))
reached z h = subst (λ x. reach ≤ up x) (sym (back z (pos reach -ℤ z) refl (simp lin (omega arith_z)))) (omega arith)
  where
    plain : (z : ℤ) (n : ℕ) → pos n ≡ pos reach -ℤ z → z +ℤ pos n ≡ pos reach
    plain z n = simp lin (omega arith_z)

    back : (z d : ℤ) → d ≡ pos reach -ℤ z → pos 0 ⩽ d → z +ℤ pos (nat_abs d) ≡ pos reach
    back z (pos n) e h = plain z n e
    back z (negsuc n) e h = absurd (omega arith_z)

module _ (ts : List Bool) (vs : List ℤ) (few : length vs ≤ max_degree) (small : AllWithin value_limit vs) (alike : Alike ts vs) (c : Cuts unit ts (clips unit vs)) where
  abbrev hs : List ℤ
  hs = heights_of ts vs

  at_zero : sum_at hs 0 < reach
  at_zero = of-short 0 ts vs (lt-lt_z (left unit ts (moves unit 0 ts vs)) (pos reach)
      (subst (λ z. left unit ts z <ℤ pos reach) (sym (moves-zero unit ts vs alike)) c.under))

  member : In (highest hs) hs
  member = go ts vs alike c.is_odd small
    where
      go : (ts : List Bool) (vs : List ℤ) → Alike ts vs → odd ts ≡ true → AllWithin value_limit vs → In (highest (heights_of ts vs)) (heights_of ts vs)
      go [] vs a o w = absurd (false≢true o)
      go (t ∷ ts) [] a o w = absurd a
      go (t ∷ ts) (v ∷ vs) a o w = highest-in (height t v) (heights_of ts vs) (heights-small (t ∷ ts) (v ∷ vs) w)

  pub rising : Rising hs (highest hs)
  unfolding sum_at
  rising = record {
    some = nonempty hs member;
    few = subst (λ n. n ≤ max_degree) (sym (heights-length ts vs alike)) few;
    small = heights-within ts vs small (up-to-more (highest hs) (pos reach) hs short-top (highest-most hs));
    short = at_zero;
    low = in-low (highest hs) ts vs small member;
    high = short-top;
    most = highest-most hs;
    met = later (in_sum (nat_abs (pos reach -ℤ highest hs)) (highest hs) hs member) (reached (highest hs) short-top);
  }
    where
      nonempty : (hs : List ℤ) → In (highest hs) hs → 0 < length hs
      nonempty [] i = absurd i
      nonempty (h ∷ hs) i = omega arith

      short-top : highest hs ⩽ pos reach
      short-top = under_top (highest hs) (tally (lifted 0) hs) (in_sum 0 (highest hs) hs member) at_zero

      later : {a b : ℕ} → a ≤ b → reach ≤ a → reach ≤ b
      later h k = omega arith

  pub least-is : (b : ℕ) → LeastAt hs b → b ≡ multiplier unit ts vs
  least-is zero l = absurd (none (sum_at hs 0) l.met at_zero)
    where
      none : (n : ℕ) → reach ≤ n → n < reach → ⊥
      none n h k = omega arith
  least-is (suc b) l = multiplier-unique unit value_limit ts vs b
      (multiplier-least unit value_limit ts vs c.is_odd alike small (omega arith) c.under)
      (short-of b ts vs (l.last b refl)) (met_of (suc b) ts vs l.met)

-- ---- where the search starts: all heights lifted to 2U together
up_least : (z : ℤ) → z ⩽ pos (up z)
up_least (pos n) = simp lin (omega arith_z)
up_least (negsuc n) = simp lin (omega arith_z)

lift-more : (h s : ℤ) (a k m n : ℕ) → h +ℤ pos a ⩽ pos m → s +ℤ pos k ⩽ pos n → (h +ℤ s) +ℤ pos (k + a) ⩽ pos (m + n)
lift-more h s a k m n = simp lin (omega arith_z)

all-lifted : (a : ℕ) (hs : List ℤ) → sum_z hs +ℤ pos (length hs * a) ⩽ pos (tally (lifted a) hs)
all-lifted a [] = simp lin (omega arith_z)
all-lifted a (h ∷ hs) = subst (λ k. (h +ℤ sum_z hs) +ℤ pos k ⩽ pos (lifted a h + tally (lifted a) hs)) (sym (suc-mul (length hs) a))
    (lift-more h (sum_z hs) a (length hs * a) (lifted a h) (tally (lifted a) hs) (up_least (h +ℤ pos a)) (all-lifted a hs))

enough : (s : ℤ) (t k n : ℕ) → pos t ≡ pos reach -ℤ s → t ≤ k → s +ℤ pos k ⩽ pos n → reach ≤ n
enough s t k n e h l = omega (arith, le_out (plain s t k n e h l))
  where
    plain : (s : ℤ) (t k n : ℕ) → pos t ≡ pos reach -ℤ s → t ≤ k → s +ℤ pos k ⩽ pos n → pos reach ⩽ pos n
    plain s t k n = simp lin (omega arith_z)

rounded-up : (t d : ℕ) → 0 < d → t ≤ d * ((t + (d - 1)) / d)
rounded-up t d h = subst (λ n. t ≤ n) (mul_comm ((t + (d - 1)) / d) d) (omega (arith, lt-div-mul-add {a = t + (d - 1)} {b = d} h))

pub level-met : (hs : List ℤ) (t : ℕ) → 0 < length hs → pos t ≡ lack hs → reach ≤ sum_at hs ((t + (length hs - 1)) / length hs)
unfolding sum_at
level-met hs t h e = enough (sum_z hs) t (length hs * ((t + (length hs - 1)) / length hs)) (tally (lifted ((t + (length hs - 1)) / length hs)) hs)
    e (rounded-up t (length hs) h) (all-lifted ((t + (length hs - 1)) / length hs) hs)

-- the heights of a cut are short of 2U together
sum-under : (hs : List ℤ) → sum_z hs ⩽ pos (tally (lifted 0) hs)
sum-under [] = simp lin (omega arith_z)
sum-under (h ∷ hs) = both h (sum_z hs) (lifted 0 h) (tally (lifted 0) hs) (up_least (h +ℤ pos 0)) (sum-under hs)
  where
    both : (h s : ℤ) (m n : ℕ) → h +ℤ pos 0 ⩽ pos m → s ⩽ pos n → h +ℤ s ⩽ pos (m + n)
    both h s m n = simp lin (omega arith_z)

pub lack-above : (hs : List ℤ) → sum_at hs 0 < reach → pos 0 ≤ℤ lack hs
unfolding sum_at
lack-above hs k = above (sum_z hs) (tally (lifted 0) hs) (sum-under hs) k
  where
    above : (z : ℤ) (n : ℕ) → z ⩽ pos n → n < reach → pos 0 ≤ℤ (pos reach -ℤ z)
    above z n = simp lin (omega arith_z)

pub start-above : (x : ℤ) → x ≤ℤ pos reach → pos 0 ≤ℤ (pos reach -ℤ x)
start-above x = simp lin (omega arith_z)

-- the first step is enough, and no more than the greatest height lacks
pub first-met : (hs : List ℤ) (top : ℤ) → Rising hs top → reach ≤ sum_at hs (first_step hs top)
unfolding first_step
first-met hs top r = lesser ((nat_abs (lack hs) + (length hs - 1)) / length hs) (nat_abs (pos reach -ℤ top)) (λ n. reach ≤ sum_at hs n)
    (level-met hs (nat_abs (lack hs)) r.some (abs-pos (lack hs) (lack-above hs r.short))) r.met
  where
    lesser : (a b : ℕ) (P : ℕ → Type 0) → P a → P b → P (min a b)
    lesser a b P p q = go (dec_le a b)
      where
        go : Dec (a ≤ b) → P (min a b)
        go (yes h) = subst P (sym (min-eq_left h)) p
        go (no f) = subst P (sym (min-eq_right (omega arith))) q

pub first-most : (hs : List ℤ) (top : ℤ) → first_step hs top ≤ nat_abs (pos reach -ℤ top)
unfolding first_step
first-most hs top = min-le_right ((nat_abs (lack hs) + (length hs - 1)) / length hs) (nat_abs (pos reach -ℤ top))

pub start-most : (x : ℤ) → neg_ℤ (pos lowest) ≤ℤ x → x ≤ℤ pos reach → nat_abs (pos reach -ℤ x) ≤ reach + lowest
start-most x h k = size (pos reach -ℤ x) (simp lin (omega arith_z)) (simp lin (omega arith_z))
  where
    size : (z : ℤ) → pos 0 ≤ℤ z → z ≤ℤ pos (reach + lowest) → nat_abs z ≤ reach + lowest
    size (pos n) h k = omega (arith, le_out k)
    size (negsuc n) h k = absurd (omega arith_z)

-- from there b falls, and no height is lifted above 2U
pub start_under : (hs : List ℤ) (x : ℤ) (b : ℕ) → AllUpTo x hs → x ≤ℤ pos reach → b ≤ nat_abs (pos reach -ℤ x) → AllUpTo (pos reach -ℤ pos b) hs
start_under hs x b a h k = up-to-more x (pos reach -ℤ pos b) hs (under x b (nat_abs (pos reach -ℤ x)) (abs-pos (pos reach -ℤ x) (left x h)) k) a
  where
    left : (x : ℤ) → x ≤ℤ pos reach → pos 0 ⩽ pos reach -ℤ x
    left x = simp lin (omega arith_z)

    under : (x : ℤ) (b n : ℕ) → pos n ≡ pos reach -ℤ x → b ≤ n → x ⩽ pos reach -ℤ pos b
    under x b n = simp lin (omega arith_z)
