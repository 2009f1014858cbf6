-- What the search for the multiplier reads at a step b: each member's height lifted by b, not clipped from above. The inequality is met exactly if these
-- reach 2U together (document 01, "One round", step 2). Definitions only. Assumes nothing.
use Rattle.std.specs.Prelude.{◌≡◌, List, [], ◌∷◌, ℕ, suc, ◌+◌, ◌-◌, ◌*◌, ◌/◌, ◌^◌, ◌≤◌, ◌<◌, min, length, ℤ, pos, neg_ℤ, nat_abs, ◌+ℤ◌, ◌-ℤ◌, ◌≤ℤ◌}
use Rattle.rules.specs.Limits.{unit, max_degree, offset_limit, step_limit}
use Rattle.integers.specs.Linear.{up}
use Rattle.integers.specs.Sum.{AllWithin}

-- "at least 2U"
abbrev pub reach : ℕ
reach = 2 * unit

-- how far a height can be below 0: a value's size is at most U and an offset's, which 43 holds to 8,192 × 1,023
abbrev pub lowest : ℕ
lowest = offset_limit

-- the most that a check's heights lack together
abbrev pub lack_limit : ℕ
lack_limit = reach + max_degree * lowest

-- a height and b, and 0 for what is negative
abbrev pub lifted : ℕ → ℤ → ℕ
lifted b h = up (h +ℤ pos b)

-- 1 for a member above 0
abbrev pub lifting : ℕ → ℤ → ℕ
lifting b h = min (lifted b h) 1

-- a sum over the members
abbrev pub tally : (ℤ → ℕ) → List ℤ → ℕ
tally f [] = 0
tally f (h ∷ hs) = f h + tally f hs

unfoldable pub sum_at : List ℤ → ℕ → ℕ
sum_at hs b = tally (lifted b) hs

unfoldable pub count_at : List ℤ → ℕ → ℕ
count_at hs b = tally (lifting b) hs

-- both in one number: what a member above 0 counts there, more than any sum
abbrev pub one : ℕ
one = 2 ^ 20

-- a member's share of it
abbrev pub packed : ℕ → ℤ → ℕ
packed b h = one * lifting b h + lifted b h

-- all heights together
abbrev pub sum_z : List ℤ → ℤ
sum_z [] = pos 0
sum_z (h ∷ hs) = h +ℤ sum_z hs

-- what they lack of 2U together
abbrev pub lack : List ℤ → ℤ
lack hs = pos reach -ℤ sum_z hs

-- where the search starts, enough for them: the lesser of the step that lifts all to 2U together and the one that lifts the greatest alone
unfoldable pub first_step : List ℤ → ℤ → ℕ
first_step hs top = min ((nat_abs (lack hs) + (length hs - 1)) / length hs) (nat_abs (pos reach -ℤ top))

-- how far a step that is enough can fall at once
unfoldable pub fall_at : List ℤ → ℕ → ℕ
fall_at hs b = (sum_at hs b - reach) / count_at hs b

-- no height is above t
abbrev pub AllUpTo : ℤ → List ℤ → Type 0
AllUpTo t [] = Unit {0}
AllUpTo t (h ∷ hs) = (h ≤ℤ t) × AllUpTo t hs

-- the heights of a cut, and the greatest of them: lifted to 2U alone, that one meets the inequality
pub record Rising (hs : List ℤ) (top : ℤ) : Type 0 where
  pub some : 0 < length hs
  pub few : length hs ≤ max_degree
  pub small : AllWithin lowest hs
  pub short : sum_at hs 0 < reach
  pub low : neg_ℤ (pos lowest) ≤ℤ top
  pub high : top ≤ℤ pos reach
  pub most : AllUpTo top hs
  pub met : reach ≤ sum_at hs (nat_abs (pos reach -ℤ top))

-- b is the least step at which the heights reach 2U
pub record LeastAt (hs : List ℤ) (b : ℕ) : Type 0 where
  pub met : reach ≤ sum_at hs b
  pub last : (a : ℕ) → b ≡ suc a → sum_at hs a < reach
  pub bounded : b ≤ step_limit

-- the multiplier of a mask, 0 of none
pub record MultiplierOf (mask : ℕ) (hs : List ℤ) (b : ℕ) : Type 0 where
  pub none : mask ≡ 0 → b ≡ 0
  pub some : (mask ≡ 0 → ⊥) → LeastAt hs b
