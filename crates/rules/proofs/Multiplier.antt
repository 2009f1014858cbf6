-- The multiplier is the least whole number at which V's inequality is met; it is at least 1, and at most u plus the largest |v|. Assumes nothing.
use mathlib.Core.Path.{◌≡◌, refl, sym, ◌∙◌, ap, ap₂, subst}
use mathlib.Core.Bool.{Bool, true, false, true≢false, false≢true}
use mathlib.Core.List.{List, [], ◌∷◌}
use Prim.Native.Nat.{ℕ, suc, ◌+◌, ◌*◌, ◌^◌, ◌≤◌, ◌<◌}
use native.Mathlib.Omega.{arith}
use native.Mathlib.Nat.{le_of_suc-le-suc, lt_of_not-le}
use native.Mathlib.Decide.{dec_le}
use lib.IntN.{ℤ, pos, neg_ℤ, ◌+ℤ◌}
use lib.Signed.{◌<ℤ◌}
use Rattle.integers.specs.Linear.{lin, arith_z, ◌⩽◌, Within, lt-lt_z, le-lt_z}
use Rattle.integers.specs.Order.{neg-mono, pos-le, le_lt_trans, lt_z-lt}
use Rattle.integers.specs.Clip.{clip_z, clip-mono, clip-top, clip-bottom}
use Rattle.integers.specs.Sum.{AllWithin}
use Rattle.rules.specs.Parity.{side, odd, Alike, left}
use Rattle.rules.specs.Step.{clips, move, moves, short, last_where, multiplier}
use Rattle.rules.proofs.Search.{Turns, last-turns}

-- ---- the left side does not fall as b grows
add-le : (v a b : ℤ) → a ⩽ b → v +ℤ a ⩽ v +ℤ b
add-le v a b = simp lin (omega arith_z)

side-mono : (u a b : ℕ) (t : Bool) (v : ℤ) → a ≤ b → side t (move u a t v) ⩽ side t (move u b t v)
side-mono u a b true v h = clip-mono u (v +ℤ pos a) (v +ℤ pos b) (add-le v (pos a) (pos b) (pos-le a b h))
side-mono u a b false v h = neg-mono (clip_z u (v +ℤ neg_ℤ (pos b))) (clip_z u (v +ℤ neg_ℤ (pos a)))
    (clip-mono u (v +ℤ neg_ℤ (pos b)) (v +ℤ neg_ℤ (pos a)) (add-le v (neg_ℤ (pos b)) (neg_ℤ (pos a)) (neg-mono (pos a) (pos b) (pos-le a b h))))

sum-le : (u : ℕ) (a b x y : ℤ) → a ⩽ b → x ⩽ y → (pos u +ℤ a) +ℤ x ⩽ (pos u +ℤ b) +ℤ y
sum-le u a b x y = simp lin (omega arith_z)

pub reach-mono : (u a b : ℕ) (ts : List Bool) (vs : List ℤ) → a ≤ b → left u ts (moves u a ts vs) ⩽ left u ts (moves u b ts vs)
reach-mono u a b [] vs h = record { le = tt }
reach-mono u a b (t ∷ ts) [] h = record { le = tt }
reach-mono u a b (t ∷ ts) (v ∷ vs) h = sum-le u (side t (move u a t v)) (side t (move u b t v)) (left u ts (moves u a ts vs)) (left u ts (moves u b ts vs))
    (side-mono u a b t v h) (reach-mono u a b ts vs h)

pub short-mono : (u : ℕ) (ts : List Bool) (vs : List ℤ) (a b : ℕ) → a ≤ b → short u ts vs b ≡ true → short u ts vs a ≡ true
short-mono u ts vs a b h e =
    let near = left u ts (moves u a ts vs) in
    let far = left u ts (moves u b ts vs) in
    lt-lt_z near (pos (2 * u)) (le_lt_trans near far (pos (2 * u)) (reach-mono u a b ts vs h) (lt_z-lt far (pos (2 * u)) e))

-- ---- far out every member is at u
top_in : (u m b : ℕ) (v : ℤ) → Within m v → u + m ≤ b → pos u ⩽ v +ℤ pos b
top_in u m b v = simp lin (omega arith_z)

bottom-in : (u m b : ℕ) (v : ℤ) → Within m v → u + m ≤ b → v +ℤ neg_ℤ (pos b) ⩽ neg_ℤ (pos u)
bottom-in u m b v = simp lin (omega arith_z)

far : (u m b : ℕ) (t : Bool) (v : ℤ) → Within m v → u + m ≤ b → side t (move u b t v) ≡ pos u
far u m b true v w h = clip-top u (v +ℤ pos b) (top_in u m b v w h)
far u m b false v w h = clip-bottom u (v +ℤ neg_ℤ (pos b)) (bottom-in u m b v w h)

far-step : (u : ℕ) (a x : ℤ) → a ≡ pos u → pos 0 ⩽ x → pos 0 ⩽ (pos u +ℤ a) +ℤ x
far-step u a x = simp lin (omega arith_z)

far-nonneg : (u m b : ℕ) (ts : List Bool) (vs : List ℤ) → AllWithin m vs → u + m ≤ b → pos 0 ⩽ left u ts (moves u b ts vs)
far-nonneg u m b [] vs w h = record { le = tt }
far-nonneg u m b (t ∷ ts) [] w h = record { le = tt }
far-nonneg u m b (t ∷ ts) (v ∷ vs) w h = far-step u (side t (move u b t v)) (left u ts (moves u b ts vs)) (far u m b t v w.0 h) (far-nonneg u m b ts vs w.1 h)

far-end : (u : ℕ) (a x : ℤ) → a ≡ pos u → pos 0 ⩽ x → pos (2 * u) ⩽ (pos u +ℤ a) +ℤ x
far-end u a x = simp lin (omega arith_z)

pub far-met : (u m b : ℕ) (ts : List Bool) (vs : List ℤ) → odd ts ≡ true → Alike ts vs → AllWithin m vs → u + m ≤ b → short u ts vs b ≡ false
far-met u m b [] vs o k w h = absurd (false≢true o)
far-met u m b (t ∷ ts) [] o k w h = absurd k
far-met u m b (t ∷ ts) (v ∷ vs) o k w h = le-lt_z (left u (t ∷ ts) (moves u b (t ∷ ts) (v ∷ vs))) (pos (2 * u))
    (far-end u (side t (move u b t v)) (left u ts (moves u b ts vs)) (far u m b t v w.0 h) (far-nonneg u m b ts vs w.1 h))

-- ---- and at 0 they are the clipped numbers
stay : (t : Bool) (v : ℤ) → v +ℤ side t (pos 0) ≡ v
stay true v = simp lin (omega arith_z)
stay false v = simp lin (omega arith_z)

pub moves-zero : (u : ℕ) (ts : List Bool) (vs : List ℤ) → Alike ts vs → moves u 0 ts vs ≡ clips u vs
moves-zero u [] [] h = refl
moves-zero u [] (v ∷ vs) h = absurd h
moves-zero u (t ∷ ts) [] h = absurd h
moves-zero u (t ∷ ts) (v ∷ vs) h = ap₂ ◌∷◌ (ap (clip_z u) (stay t v)) (moves-zero u ts vs h)

-- ---- the law
pub record Least (u m : ℕ) (ts : List Bool) (vs : List ℤ) : Type 0 where
  pub meets : short u ts vs (multiplier u ts vs) ≡ false
  pub none-less : (b : ℕ) → b < multiplier u ts vs → short u ts vs b ≡ true
  pub bounded : multiplier u ts vs ≤ u + m

pub multiplier-least : (u m : ℕ) (ts : List Bool) (vs : List ℤ) → odd ts ≡ true → Alike ts vs → AllWithin m vs → u + m ≤ 2 ^ 24
    → left u ts (clips u vs) <ℤ pos (2 * u) → Least u m ts vs
unfolding multiplier
multiplier-least u m ts vs o k w h l = record {
  meets = t.fails;
  none-less = λ b lt. short-mono u ts vs b (last_where (short u ts vs) 24 0) (omega arith) t.holds;
  bounded = go (dec_le (suc (last_where (short u ts vs) 24 0)) (u + m));
}
  where
    t : Turns (short u ts vs) (last_where (short u ts vs) 24 0)
    t = last-turns (short u ts vs) 24 0 (lt-lt_z (left u ts (moves u 0 ts vs)) (pos (2 * u)) (subst (λ z. left u ts z <ℤ pos (2 * u)) (sym (moves-zero u ts vs k)) l))
        (far-met u m (0 + 2 ^ 24) ts vs o k w (omega arith))

    go : Dec (suc (last_where (short u ts vs) 24 0) ≤ u + m) → suc (last_where (short u ts vs) 24 0) ≤ u + m
    go (yes p) = p
    go (no f) = absurd (true≢false (sym t.holds ∙ far-met u m (last_where (short u ts vs) 24 0) ts vs o k w (le_of_suc-le-suc (lt_of_not-le f))))

-- a search of any kind that ends where the test turns has found it
pub multiplier-unique : (u m : ℕ) (ts : List Bool) (vs : List ℤ) (b : ℕ) → Least u m ts vs → short u ts vs b ≡ true → short u ts vs (suc b) ≡ false → suc b ≡ multiplier u ts vs
multiplier-unique u m ts vs b h lo hi = go (dec_le (suc b) (multiplier u ts vs)) (dec_le (multiplier u ts vs) (suc b))
  where
    after : ¬ (suc b ≤ multiplier u ts vs) → ⊥
    after f = true≢false (sym (short-mono u ts vs (multiplier u ts vs) b (le_of_suc-le-suc (lt_of_not-le f)) lo) ∙ h.meets)

    before : ¬ (multiplier u ts vs ≤ suc b) → ⊥
    before f = true≢false (sym (h.none-less (suc b) (lt_of_not-le f)) ∙ hi)

    go : Dec (suc b ≤ multiplier u ts vs) → Dec (multiplier u ts vs ≤ suc b) → suc b ≡ multiplier u ts vs
    go (yes p) (yes q) = omega arith
    go (yes p) (no g) = absurd (before g)
    go (no f) q = absurd (after f)
