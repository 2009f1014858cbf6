-- Heights: the greatest of them, one of them changed, and the heights as the negative values see them. Assumes nothing.
use mathlib.Core.Path.{◌≡◌, refl, sym, ◌∙◌, ap, subst}
use mathlib.Core.Bool.{Bool, true, false, cond}
use mathlib.Core.Logic.{◌⊎◌, inl, inr}
use mathlib.Core.List.{List, [], ◌∷◌, ◌++◌}
use Prim.Native.Nat.{ℕ, zero, suc, ◌<◌}
use native.Mathlib.Omega.{arith}
use native.Mathlib.Nat.{le_of_suc-le-suc}
use lib.Dec.{eqb}
use lib.ListN.{length, set}
use lib.Seq.{get_or-set_same, get_or-set_other}
use lib.IntN.{ℤ, pos, negsuc}
use lib.Signed.{◌≤ℤ◌, ◌<ℤ◌, lt_z, ≤ℤ_refl}
use mir.Syntax.{w32}
use mir.Val.{SFits}
use borrow.Author.Tests.{eqb-true, eqb-false}
use Rattle.integers.specs.Linear.{lin, arith_z, ◌⩽◌, lt-lt_z, le-lt_z}
use Rattle.integers.specs.Order.{le_trans, le_antisym, le-or-lt, le_total, nlt_z-le}
use Rattle.rules.specs.Limits.{unit}
use Rattle.rules.specs.Table.{at}
use Rattle.rules.specs.Cut.{is_neg}
use Rattle.cut.specs.Heights.{height, higher, highest}
use Rattle.cut.specs.Scan.{sights}

-- the least height
abbrev pub floor : ℤ
floor = highest []

-- ---- the higher of two
pub is-above : (a b : ℤ) → lt_z a b ≡ true → a ⩽ b
is-above a b = simp lin (omega arith_z)

pub higher-left : (a b : ℤ) → b ⩽ a → higher a b ≡ a
higher-left a b h = ap (λ t. cond t b a) (le-lt_z a b h)

pub higher-right : (a b : ℤ) → a ⩽ b → higher a b ≡ b
higher-right a b h = go (le-or-lt b a)
  where
    go : (b ≤ℤ a) ⊎ (a <ℤ b) → higher a b ≡ b
    go (inl k) = higher-left a b k ∙ le_antisym a b h k
    go (inr k) = ap (λ t. cond t b a) (lt-lt_z a b k)

higher-first : (a b : ℤ) → a ⩽ higher a b
higher-first a b = go (lt_z a b) refl
  where
    go : (t : Bool) → lt_z a b ≡ t → a ⩽ cond t b a
    go true e = is-above a b e
    go false e = ≤ℤ_refl a

higher-second : (a b : ℤ) → b ⩽ higher a b
higher-second a b = go (lt_z a b) refl
  where
    go : (t : Bool) → lt_z a b ≡ t → b ⩽ cond t b a
    go true e = ≤ℤ_refl b
    go false e = nlt_z-le a b e

higher-most : (a b c : ℤ) → a ⩽ c → b ⩽ c → higher a b ⩽ c
higher-most a b c h k = go (lt_z a b)
  where
    go : (t : Bool) → cond t b a ⩽ c
    go true = k
    go false = h

higher-assoc : (a b c : ℤ) → higher a (higher b c) ≡ higher (higher a b) c
higher-assoc a b c = go (le_total a b) (le_total b c)
  where
    go : (a ≤ℤ b) ⊎ (b ≤ℤ a) → (b ≤ℤ c) ⊎ (c ≤ℤ b) → higher a (higher b c) ≡ higher (higher a b) c
    go (inl h) (inl k) = ap (higher a) (higher-right b c k) ∙ higher-right a c (le_trans a b c h k) ∙ sym (ap (λ x. higher x c) (higher-right a b h) ∙ higher-right b c k)
    go (inl h) (inr k) = ap (higher a) (higher-left b c k) ∙ higher-right a b h ∙ sym (ap (λ x. higher x c) (higher-right a b h) ∙ higher-left b c k)
    go (inr h) (inl k) = ap (higher a) (higher-right b c k) ∙ sym (ap (λ x. higher x c) (higher-left a b h))
    go (inr h) (inr k) = ap (higher a) (higher-left b c k) ∙ higher-left a b h ∙ sym (ap (λ x. higher x c) (higher-left a b h) ∙ higher-left a c (le_trans c b a k h))

-- ---- the highest of a list
pub highest-more : (hs : List ℤ) (h : ℤ) → floor ⩽ h → highest (hs ++ (h ∷ [])) ≡ higher (highest hs) h
highest-more [] h f = higher-left h floor f ∙ sym (higher-right floor h f)
highest-more (a ∷ hs) h f = ap (higher a) (highest-more hs h f) ∙ higher-assoc a (highest hs) h

-- a height that is raised above all others
pub highest-set : (hs : List ℤ) (k : ℕ) (z : ℤ) → k < length hs → highest hs ⩽ z → highest (set hs k z) ≡ z
highest-set [] k z h t = absurd (omega arith)
highest-set (a ∷ hs) zero z h t = higher-left z (highest hs) (le_trans (highest hs) (higher a (highest hs)) z (higher-second a (highest hs)) t)
highest-set (a ∷ hs) (suc k) z h t =
    ap (higher a) (highest-set hs k z (le_of_suc-le-suc h) (le_trans (highest hs) (higher a (highest hs)) z (higher-second a (highest hs)) t))
    ∙ higher-right a z (le_trans a (higher a (highest hs)) z (higher-first a (highest hs)) t)

-- ---- a list with z in place k, place by place
pub set-picks : (hs : List ℤ) (k i : ℕ) (z : ℤ) → i < length hs → at (set hs k z) i ≡ cond (eqb i k) z (at hs i)
set-picks hs k i z h = go (eqb i k) refl
  where
    go : (b : Bool) → eqb i k ≡ b → at (set hs k z) i ≡ cond b z (at hs i)
    go true e = ap (at (set hs k z)) (eqb-true i k e) ∙ get_or-set_same hs k z (pos 0) (subst (λ n. n < length hs) (eqb-true i k e) h)
    go false e = get_or-set_other hs k i z (pos 0) (eqb-false i k e)

-- ---- as the negative values see them
pub height-low : (v : ℤ) → SFits w32 v → floor ⩽ height (is_neg v) v
height-low (pos n) = simp lin (omega arith_z)
height-low (negsuc n) = simp lin (omega arith_z)

pub height-top : (v : ℤ) → height (is_neg v) v ⩽ pos unit
height-top (pos n) = simp lin (omega arith_z)
height-top (negsuc n) = simp lin (omega arith_z)

floor-top : floor ⩽ pos unit
floor-top = simp lin (omega arith_z)

pub sights-top : (vs : List ℤ) → highest (sights vs) ⩽ pos unit
sights-top [] = floor-top
sights-top (v ∷ vs) = higher-most (height (is_neg v) v) (highest (sights vs)) (pos unit) (height-top v) (sights-top vs)

pub sights-length : (vs : List ℤ) → length (sights vs) ≡ length vs
sights-length [] = refl
sights-length (v ∷ vs) = ap suc (sights-length vs)

pub sights-more : (vs : List ℤ) (v : ℤ) → sights (vs ++ (v ∷ [])) ≡ sights vs ++ (height (is_neg v) v ∷ [])
sights-more [] v = refl
sights-more (a ∷ vs) v = ap (λ l. height (is_neg a) a ∷ l) (sights-more vs v)
