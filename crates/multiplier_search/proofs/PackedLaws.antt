-- The sums of the search for the multiplier: of all heights, and of the lifted ones, in one number with how many these are. Assumes nothing.
use mathlib.Core.Path.{◌≡◌, refl, sym, ◌∙◌, ap}
use mathlib.Core.Bool.{true, false}
use mathlib.Core.List.{List, [], ◌∷◌, ◌++◌}
use Prim.Native.Nat.{ℕ, zero, suc, ◌+◌, ◌*◌, ◌/◌, ◌%◌, ◌≤◌, ◌<◌, min}
use native.Mathlib.Nat.{add_assoc, add_comm}
use native.Mathlib.Omega.{arith}
use native.Mathlib.Numerals.{add-one}
use lib.ListN.{length, get_or, take}
use lib.Seq.{take-suc, take_all}
use lib.IntN.{ℤ, pos, negsuc, nat_abs, ◌+ℤ◌, ◌-ℤ◌}
use lib.Signed.{◌<ℤ◌, lt_z}
use Rattle.rules.specs.Limits.{max_degree}
use Rattle.integers.specs.Linear.{lin, arith_z, ◌⩽◌, Within, up, le_out, lt_out}
use Rattle.integers.specs.Sum.{AllWithin}
use Rattle.multiplier_search.specs.Lifted.{lifted, lifting, tally, sum_at, count_at, one, packed, sum_z, AllUpTo, reach}

-- ---- of all heights: the first places, one more, and bounds
add-first : (x a b c : ℤ) → a ≡ b +ℤ c → x +ℤ a ≡ (x +ℤ b) +ℤ c
add-first x a b c = simp lin (omega arith_z)

sum-last : (xs : List ℤ) (y : ℤ) → sum_z (xs ++ (y ∷ [])) ≡ sum_z xs +ℤ y
sum-last [] y = alone y
  where
    alone : (y : ℤ) → y +ℤ pos 0 ≡ pos 0 +ℤ y
    alone y = simp lin (omega arith_z)
sum-last (x ∷ xs) y = add-first x (sum_z (xs ++ (y ∷ []))) (sum_z xs) y (sum-last xs y)

pub sum-take : (xs : List ℤ) (i : ℕ) → i < length xs → sum_z (take (i + 1) xs) ≡ sum_z (take i xs) +ℤ get_or xs i (pos 0)
sum-take xs i h = rw (add-one, take-suc xs i (pos 0)) (sum-last (take i xs) (get_or xs i (pos 0)))

within_step : (b n : ℕ) (x s : ℤ) → Within b x → Within (b * n) s → Within (b * suc n) (x +ℤ s)
within_step b n x s = simp lin (omega arith_z)

pub sum-within : (b : ℕ) (xs : List ℤ) → AllWithin b xs → Within (b * length xs) (sum_z xs)
sum-within b [] h = record { hi = omega arith; lo = omega arith }
sum-within b (x ∷ xs) h = within_step b (length xs) x (sum_z xs) h.0 (sum-within b xs h.1)

-- ---- of the lifted ones, the first i members
tally-take : (f : ℤ → ℕ) (i : ℕ) (hs : List ℤ) → i < length hs → tally f (take (suc i) hs) ≡ tally f (take i hs) + f (get_or hs i (pos 0))
tally-take f i [] k = absurd (omega arith)
tally-take f zero (h ∷ hs) k = add_comm (f h) 0
tally-take f (suc i) (h ∷ hs) k =
    ap (λ n. f h + n) (tally-take f i hs (omega arith))
    ∙ sym (add_assoc (f h) (tally f (take i hs)) (f (get_or hs i (pos 0))))

unfoldable pub packed_first : List ℤ → ℕ → ℕ → ℕ
packed_first hs b i = tally (packed b) (take i hs)

pub first-none : (hs : List ℤ) (b : ℕ) → 0 ≡ packed_first hs b 0
unfolding packed_first
first-none hs b = refl

pub first_next : (hs : List ℤ) (b i : ℕ) → i < length hs → packed_first hs b i + packed b (get_or hs i (pos 0)) ≡ packed_first hs b (i + 1)
unfolding packed_first
first_next hs b i k = sym (tally-take (packed b) i hs k) ∙ ap (λ n. tally (packed b) (take n hs)) (sym (add-one i))

-- ---- sum and number in one: a sum of at most 32 heights that are lifted to 2U at most is less than `one`
pub up-to-more : (s t : ℤ) (hs : List ℤ) → s ⩽ t → AllUpTo s hs → AllUpTo t hs
up-to-more s t [] l a = tt
up-to-more s t (h ∷ hs) l a = (trans h s t a.0 l, up-to-more s t hs l a.1)
  where
    trans : (h s t : ℤ) → h ⩽ s → s ⩽ t → h ⩽ t
    trans h s t = simp lin (omega arith_z)

lifted-le : (b : ℕ) (h : ℤ) → h ⩽ pos reach -ℤ pos b → lifted b h ≤ reach
lifted-le b h l = top (h +ℤ pos b) (raised b h l)
  where
    top : (z : ℤ) → z ⩽ pos reach → up z ≤ reach
    top (pos n) h = omega (arith, le_out h)
    top (negsuc n) h = omega arith

    raised : (b : ℕ) (h : ℤ) → h ⩽ pos reach -ℤ pos b → h +ℤ pos b ⩽ pos reach
    raised b h = simp lin (omega arith_z)

pub packed-le : (b : ℕ) (h : ℤ) → h ⩽ pos reach -ℤ pos b → packed b h ≤ one + reach
packed-le b h l = omega (arith, lifted-le b h l)

sum-le : (b : ℕ) (hs : List ℤ) → AllUpTo (pos reach -ℤ pos b) hs → tally (lifted b) hs ≤ reach * length hs
sum-le b [] a = omega arith
sum-le b (h ∷ hs) a = next (lifted b h) (tally (lifted b) hs) (length hs) (lifted-le b h a.0) (sum-le b hs a.1)
  where
    next : (x y n : ℕ) → x ≤ reach → y ≤ reach * n → x + y ≤ reach * suc n
    next x y n h k = omega arith

pub sum-most : (hs : List ℤ) (b : ℕ) → length hs ≤ max_degree → AllUpTo (pos reach -ℤ pos b) hs → sum_at hs b ≤ reach * max_degree
unfolding sum_at
sum-most hs b few a = most (length hs) (tally (lifted b) hs) few (sum-le b hs a)
  where
    most : (n x : ℕ) → n ≤ max_degree → x ≤ reach * n → x ≤ reach * max_degree
    most n x h k = omega arith

both : (b : ℕ) (hs : List ℤ) → tally (packed b) hs ≡ one * tally (lifting b) hs + tally (lifted b) hs
both b [] = refl
both b (h ∷ hs) = ap (λ n. packed b h + n) (both b hs) ∙ shuffle (lifting b h) (lifted b h) (tally (lifting b) hs) (tally (lifted b) hs)
  where
    shuffle : (k a n x : ℕ) → one * k + a + (one * n + x) ≡ one * (k + n) + (a + x)
    shuffle k a n x = omega arith

pub unpacked : (hs : List ℤ) (b i : ℕ) → length hs ≤ max_degree → AllUpTo (pos reach -ℤ pos b) hs → length hs ≤ i
    → (packed_first hs b i % one ≡ sum_at hs b) × (packed_first hs b i / one ≡ count_at hs b)
unfolding packed_first sum_at count_at
unpacked hs b i few a k =
    apart (tally (packed b) (take i hs)) (tally (lifting b) hs) (tally (lifted b) hs) (ap (tally (packed b)) (take_all i hs k) ∙ both b hs) (low (length hs) (tally (lifted b) hs) few (sum-le b hs a))
  where
    low : (n x : ℕ) → n ≤ max_degree → x ≤ reach * n → x < one
    low n x h k = omega arith

    apart : (p n x : ℕ) → p ≡ one * n + x → x < one → (p % one ≡ x) × (p / one ≡ n)
    apart p n x e h = (omega arith, omega arith)

-- ---- a member by the code's test
module _ (b : ℕ) (h : ℤ) where
  pub above-packed : lt_z (pos 0 -ℤ pos b) h ≡ true → one + nat_abs (pos b +ℤ h) ≡ packed b h
  above-packed t = ap (λ z. one + nat_abs z) (turned b h) ∙ some (h +ℤ pos b) (above b h t)
    where
      turned : (b : ℕ) (h : ℤ) → pos b +ℤ h ≡ h +ℤ pos b
      turned b h = simp lin (omega arith_z)

      above : (b : ℕ) (h : ℤ) → lt_z (pos 0 -ℤ pos b) h ≡ true → pos 0 <ℤ (h +ℤ pos b)
      above b h = simp lin (omega arith_z)

      some : (z : ℤ) → pos 0 <ℤ z → one + nat_abs z ≡ one * min (up z) 1 + up z
      some (pos n) h = omega (arith, lt_out h)
      some (negsuc n) h = absurd (omega arith_z)

  pub below-packed : lt_z (pos 0 -ℤ pos b) h ≡ false → 0 ≡ packed b h
  below-packed f = none (h +ℤ pos b) (below b h f)
    where
      below : (b : ℕ) (h : ℤ) → lt_z (pos 0 -ℤ pos b) h ≡ false → h +ℤ pos b ⩽ pos 0
      below b h = simp lin (omega arith_z)

      none : (z : ℤ) → z ⩽ pos 0 → 0 ≡ one * min (up z) 1 + up z
      none (pos n) h = omega (arith, le_out h)
      none (negsuc n) h = omega arith
