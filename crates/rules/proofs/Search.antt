-- The search by digits ends where its test turns, and never passes 2 ^ k. Assumes nothing.
use mathlib.Core.Path.{◌≡◌, refl, sym, ◌∙◌, ap}
use mathlib.Core.Bool.{Bool, true, false, cond}
use Prim.Native.Nat.{ℕ, zero, suc, ◌+◌, ◌^◌, ◌<◌}
use native.Mathlib.Omega.{arith}
use native.Mathlib.Nat.{pow-suc}
use Rattle.rules.specs.Step.{last_where}

-- where the test turns
pub record Turns (test : ℕ → Bool) (r : ℕ) : Type 0 where
  pub holds : test r ≡ true
  pub fails : test (suc r) ≡ false

add-last : (a : ℕ) → a + 2 ^ 0 ≡ suc a
add-last a = omega arith

add-pow : (a k : ℕ) → a + 2 ^ k + 2 ^ k ≡ a + 2 ^ suc k
add-pow a k = omega (arith, pow-suc 2 k)

-- k halvings from a on find a turn
abbrev Finds : (ℕ → Bool) → ℕ → ℕ → Type 0
Finds test k a = test a ≡ true → test (a + 2 ^ k) ≡ false → Turns test (last_where test k a)

pub last-turns : (test : ℕ → Bool) (k a : ℕ) → test a ≡ true → test (a + 2 ^ k) ≡ false → Turns test (last_where test k a)
unfolding last_where
last-turns test zero a h l = record { holds = h; fails = ap test (sym (add-last a)) ∙ l }
last-turns test (suc k) a h l = go (test (a + 2 ^ k)) refl (last-turns test k a) (last-turns test k (a + 2 ^ k))
  where
    go : (b : Bool) → test (a + 2 ^ k) ≡ b → Finds test k a → Finds test k (a + 2 ^ k)
        → Turns test (last_where test k (cond b (a + 2 ^ k) a))
    go true e f g = g e (ap test (add-pow a k) ∙ l)
    go false e f g = f h e

-- and it never passes 2 ^ k
pub last-below : (test : ℕ → Bool) (k a : ℕ) → last_where test k a < a + 2 ^ k
unfolding last_where
last-below test zero a = omega (arith, add-last a)
last-below test (suc k) a = go (test (a + 2 ^ k)) (last-below test k a) (last-below test k (a + 2 ^ k))
  where
    more : (r : ℕ) → r < a + 2 ^ k + 2 ^ k → r < a + 2 ^ suc k
    more r h = omega (arith, pow-suc 2 k)

    less : (r : ℕ) → r < a + 2 ^ k → r < a + 2 ^ suc k
    less r h = omega (arith, pow-suc 2 k)

    go : (b : Bool) → last_where test k a < a + 2 ^ k → last_where test k (a + 2 ^ k) < a + 2 ^ k + 2 ^ k → last_where test k (cond b (a + 2 ^ k) a) < a + 2 ^ suc k
    go true f g = more (last_where test k (a + 2 ^ k)) g
    go false f g = less (last_where test k a) f
