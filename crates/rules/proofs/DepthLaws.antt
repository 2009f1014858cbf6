-- The depth of a cut is 2U less the left side of its inequality: from 1 to 2U, the greatest shortfall of all odd sets, and 0 exactly without a cut
-- (document 02, #101). A codeword leaves a set's shortfall as it is. Assumes nothing.
use mathlib.Core.Path.{◌≡◌, refl, sym, ◌∙◌, ap}
use mathlib.Core.Bool.{Bool, true}
use mathlib.Core.Logic.{◌⊎◌, inl, inr, ◌↔◌}
use mathlib.Core.List.{List}
use mathlib.Core.Option.{Option, some, none}
use Prim.Native.Nat.{ℕ, ◌*◌, ◌≤◌}
use native.Mathlib.Omega.{arith}
use lib.IntN.{ℤ, pos, negsuc, ◌+ℤ◌, ◌-ℤ◌}
use lib.Signed.{◌≤ℤ◌, ◌<ℤ◌}
use Rattle.integers.specs.Linear.{lin, arith_z, ◌⩽◌, up}
use Rattle.integers.specs.Order.{le-or-lt, up_none, up-mono}
use Rattle.integers.specs.Sum.{AllWithin}
use Rattle.rules.specs.Parity.{plus, turns, odd, Alike, left}
use Rattle.rules.specs.Cut.{cut, shortfall, depth_by, depth, Violation, with_depth, measured, violation}
use Rattle.rules.proofs.Basics.{none≢some, some_inj}
use Rattle.rules.proofs.Signs.{left-turn}
use Rattle.rules.proofs.CutRule.{sum_nonneg, Cuts, cut-sound, cut-finds}

-- ---- one set's shortfall
less_none : (k l : ℤ) → k ⩽ l → k -ℤ l ⩽ pos 0
less_none k l = simp lin (omega arith_z)

less-some : (k l : ℤ) → l <ℤ k → pos 1 ⩽ k -ℤ l
less-some k l = simp lin (omega arith_z)

less-most : (k l : ℤ) → pos 0 ⩽ l → k -ℤ l ⩽ k
less-most k l = simp lin (omega arith_z)

half : (l : ℤ) → pos 0 ⩽ l +ℤ l → pos 0 ⩽ l
half l = simp lin (omega arith_z)

pos-up : (z : ℤ) → pos 1 ⩽ z → pos (up z) ≡ z
pos-up (pos n) h = refl
pos-up (negsuc n) h = absurd h.le

module _ (u : ℕ) (vs : List Bool) (ss : List ℤ) where
  -- the inequality holds
  shortfall-none : pos (2 * u) ⩽ left u vs ss → shortfall u vs ss ≡ 0
  shortfall-none h = up_none (pos (2 * u) -ℤ left u vs ss) (less_none (pos (2 * u)) (left u vs ss) h)

  -- it is violated: the number is just "2U less the left side"
  pub shortfall-is : Cuts u vs ss → pos (shortfall u vs ss) ≡ pos (2 * u) -ℤ left u vs ss
  shortfall-is c = pos-up (pos (2 * u) -ℤ left u vs ss) (less-some (pos (2 * u)) (left u vs ss) c.under)

  shortfall-some : Cuts u vs ss → 1 ≤ shortfall u vs ss
  shortfall-some c = up-mono (pos 1) (pos (2 * u) -ℤ left u vs ss) (less-some (pos (2 * u)) (left u vs ss) c.under)

  shortfall-most : AllWithin u ss → Alike vs ss → shortfall u vs ss ≤ 2 * u
  shortfall-most w h = up-mono (pos (2 * u) -ℤ left u vs ss) (pos (2 * u)) (less-most (pos (2 * u)) (left u vs ss) (half (left u vs ss) (sum_nonneg u ss vs vs w h h)))

  pub shortfall-turn : (cs : List Bool) → Alike cs ss → Alike vs ss → shortfall u (plus cs vs) (turns cs ss) ≡ shortfall u vs ss
  shortfall-turn cs h k = ap (λ l. up (pos (2 * u) -ℤ l)) (left-turn u cs vs ss h k)

-- ---- the check's depth
module _ (u : ℕ) (ss : List ℤ) where
  pub depth-cut : (vs : List Bool) → cut u ss ≡ some vs → depth u ss ≡ shortfall u vs ss
  unfolding depth
  depth-cut vs e = ap (depth_by u ss) e

  pub depth-none : cut u ss ≡ none → depth u ss ≡ 0
  unfolding depth
  depth-none e = ap (depth_by u ss) e

  -- "from 1 to 8,192"
  pub depth-range : (vs : List Bool) → AllWithin u ss → cut u ss ≡ some vs → (1 ≤ depth u ss) × (depth u ss ≤ 2 * u)
  depth-range vs w e =
      let c = cut-sound u ss vs e in
      let d = depth-cut vs e in
      (omega (arith, d, shortfall-some u vs ss c), omega (arith, d, shortfall-most u vs ss w c.long))

  -- of any check, none included
  pub depth-most : AllWithin u ss → depth u ss ≤ 2 * u
  depth-most w = go (cut u ss) refl
    where
      go : (o : Option (List Bool)) → cut u ss ≡ o → depth u ss ≤ 2 * u
      go none e = omega (arith, depth-none e)
      go (some vs) e = (depth-range vs w e).1

  -- "0 for none", and for none alone
  pub depth-zero⇔ : (depth u ss ≡ 0) ↔ (cut u ss ≡ none)
  depth-zero⇔ = (λ z. go z (cut u ss) refl, depth-none)
    where
      go : depth u ss ≡ 0 → (o : Option (List Bool)) → cut u ss ≡ o → cut u ss ≡ none
      go z none e = e
      go z (some vs) e = absurd (omega (arith, z, depth-cut vs e, shortfall-some u vs ss (cut-sound u ss vs e)))

  -- no odd set falls short by more: one that falls short at all is the cut
  pub depth-greatest : (vs : List Bool) → AllWithin u ss → odd vs ≡ true → Alike vs ss → shortfall u vs ss ≤ depth u ss
  depth-greatest vs w o h = go (le-or-lt (pos (2 * u)) (left u vs ss))
    where
      go : (pos (2 * u) ≤ℤ left u vs ss) ⊎ (left u vs ss <ℤ pos (2 * u)) → shortfall u vs ss ≤ depth u ss
      go (inl k) = omega (arith, shortfall-none u vs ss k)
      go (inr k) = omega (arith, depth-cut vs (cut-finds u ss vs w (record { is_odd = o; long = h; under = k })))

-- ---- "The old mask is still the right one"
abbrev pub set_in : {A : Type 0} → Option (Violation A) → Option A
set_in none = none
set_in (some v) = some v.set

module _ (u : ℕ) (ss : List ℤ) where
  set-measured : (o : Option (List Bool)) → set_in (measured u ss o) ≡ o
  set-measured none = refl
  set-measured (some vs) = refl

  pub violation-set : set_in (violation u ss) ≡ cut u ss
  unfolding violation
  violation-set = set-measured (cut u ss)

  -- the set tells the depth
  pub violation-is⇔ : (o : Option (List Bool)) → (violation u ss ≡ measured u ss o) ↔ (cut u ss ≡ o)
  unfolding violation
  violation-is⇔ o = (λ e. sym violation-set ∙ ap set_in e ∙ set-measured o, λ e. ap (measured u ss) e)

  pub violation-depth : (v : Violation (List Bool)) → violation u ss ≡ some v → v ≡ with_depth u ss v.set
  unfolding violation
  violation-depth v e = go (cut u ss) e
    where
      go : (o : Option (List Bool)) → measured u ss o ≡ some v → v ≡ with_depth u ss v.set
      go none p = absurd (none≢some p)
      go (some vs) p = let same = some_inj (with_depth u ss vs) v p in sym same ∙ ap (λ x. with_depth u ss x.set) same
