-- The known method's set has the least left side among the odd sets. Assumes nothing.
use mathlib.Core.Path.{◌≡◌, refl, sym, ◌∙◌, ap, subst}
use mathlib.Core.Bool.{Bool, true, false, not, cond, false≢true}
use mathlib.Core.List.{List, [], ◌∷◌}
use Prim.Native.Nat.{ℕ, suc, ◌*◌, ◌≤◌, ◌<◌, min}
use lib.Dec.{leb}
use borrow.Author.Tests.{leb-true, leb-false, le-leb}
use lib.IntN.{ℤ, pos, negsuc, neg_ℤ, ◌+ℤ◌, ◌-ℤ◌, nat_abs}
use Rattle.integers.specs.Linear.{lin, arith_z, ◌⩽◌}
use Rattle.integers.specs.Order.{le_trans, add-mono}
use Rattle.integers.specs.Product.{nat_abs-≤}
use Rattle.integers.specs.Sum.{AllWithin}
use Rattle.rules.specs.Parity.{◌⊕◌, side, odd, Alike, left}
use Rattle.rules.specs.Cut.{is_neg, negatives, smallest, side_changed, method}
use Rattle.rules.proofs.Basics.{not_inj}
use Rattle.rules.proofs.Signs.{not-⊕, ⊕-not}

-- ---- the method's set has the smallest left side
low-side : (u : ℕ) (v : Bool) (s : ℤ) → pos u +ℤ side (is_neg s) s ⩽ pos u +ℤ side v s
low-side u true (pos n) = simp lin (omega arith_z)
low-side u false (pos n) = simp lin (omega arith_z)
low-side u true (negsuc n) = simp lin (omega arith_z)
low-side u false (negsuc n) = simp lin (omega arith_z)

pub lowest : (u : ℕ) (vs : List Bool) (ss : List ℤ) → Alike vs ss → left u (negatives ss) ss ⩽ left u vs ss
lowest u [] [] h = record { le = tt }
lowest u [] (s ∷ ss) h = absurd h
lowest u (v ∷ vs) [] h = absurd h
lowest u (v ∷ vs) (s ∷ ss) h = add-mono (pos u +ℤ side (is_neg s) s) (pos u +ℤ side v s) (left u (negatives ss) ss) (left u vs ss) (low-side u v s) (lowest u vs ss h)

-- a set of the other parity pays twice the smallest absolute spin at smallest
gain-same : (t x y : ℤ) (n m : ℕ) → x +ℤ pos (2 * m) ⩽ y → (t +ℤ x) +ℤ pos (2 * min n m) ⩽ t +ℤ y
gain-same t x y n m = simp lin (omega arith_z)

gain-other : (u n m : ℕ) (x y : ℤ) → x ⩽ y → ((pos u -ℤ pos n) +ℤ x) +ℤ pos (2 * min n m) ⩽ (pos u +ℤ pos n) +ℤ y
gain-other u n m x y = simp lin (omega arith_z)

pub gain : (u : ℕ) (vs : List Bool) (ss : List ℤ) → Alike vs ss → odd vs ≡ not (odd (negatives ss)) → left u (negatives ss) ss +ℤ pos (2 * smallest u ss) ⩽ left u vs ss
gain u [] [] h e = absurd (false≢true e)
gain u [] (s ∷ ss) h e = absurd h
gain u (v ∷ vs) [] h e = absurd h
gain u (true ∷ vs) (pos n ∷ ss) h e = gain-other u n (smallest u ss) (left u (negatives ss) ss) (left u vs ss) (lowest u vs ss h)
gain u (false ∷ vs) (pos n ∷ ss) h e = gain-same (pos u +ℤ neg_ℤ (pos n)) (left u (negatives ss) ss) (left u vs ss) n (smallest u ss) (gain u vs ss h e)
gain u (true ∷ vs) (negsuc n ∷ ss) h e =
    let others = gain u vs ss h (not_inj (odd vs) (not (odd (negatives ss))) e) in
    gain-same (pos u +ℤ negsuc n) (left u (negatives ss) ss) (left u vs ss) (suc n) (smallest u ss) others
gain u (false ∷ vs) (negsuc n ∷ ss) h e = gain-other u (suc n) (smallest u ss) (left u (negatives ss) ss) (left u vs ss) (lowest u vs ss h)

-- the side_changed pays just that
changed-here : (u : ℕ) (s x : ℤ) (m : ℕ) → nat_abs s ≤ m → (pos u +ℤ side (not (is_neg s)) s) +ℤ x ⩽ ((pos u +ℤ side (is_neg s) s) +ℤ x) +ℤ pos (2 * min (nat_abs s) m)
changed-here u (pos n) x m = simp lin (omega arith_z)
changed-here u (negsuc n) x m = simp lin (omega arith_z)

changed-there : (t x y : ℤ) (n m : ℕ) → m < n → x ⩽ y +ℤ pos (2 * m) → t +ℤ x ⩽ (t +ℤ y) +ℤ pos (2 * min n m)
changed-there t x y n m = simp lin (omega arith_z)

changed-end : (u : ℕ) → pos 0 ⩽ pos 0 +ℤ pos (2 * u)
changed-end u = simp lin (omega arith_z)

-- a set whose left side is at most the smallest and twice the smallest absolute spin
abbrev pub Pays : ℕ → List Bool → List ℤ → Type 0
Pays u vs ss = left u vs ss ⩽ left u (negatives ss) ss +ℤ pos (2 * smallest u ss)

-- the first of the members changes sides, or one behind it
abbrev changed_if : Bool → ℕ → ℤ → List ℤ → List Bool
changed_if here u s ss = cond here (not (is_neg s) ∷ negatives ss) (is_neg s ∷ side_changed u ss)

pub changed-pays : (u : ℕ) (ss : List ℤ) → Pays u (side_changed u ss) ss
changed-pays u [] = changed-end u
changed-pays u (s ∷ ss) = go (leb (nat_abs s) (smallest u ss)) refl (changed-pays u ss)
  where
    go : (here : Bool) → leb (nat_abs s) (smallest u ss) ≡ here → Pays u (side_changed u ss) ss → Pays u (changed_if here u s ss) (s ∷ ss)
    go true e ih = changed-here u s (left u (negatives ss) ss) (smallest u ss) (leb-true (nat_abs s) (smallest u ss) e)
    go false e ih = changed-there (pos u +ℤ side (is_neg s) s) (left u (side_changed u ss) ss) (left u (negatives ss) ss) (nat_abs s) (smallest u ss) (leb-false (nat_abs s) (smallest u ss) e) ih

pub changed-odd : (u : ℕ) (s : ℤ) (ss : List ℤ) → AllWithin u (s ∷ ss) → odd (side_changed u (s ∷ ss)) ≡ not (odd (negatives (s ∷ ss)))
changed-odd u s [] h = ap (λ here. odd (changed_if here u s [])) (le-leb (nat_abs s) u (nat_abs-≤ s u h.0)) ∙ not-⊕ (is_neg s) false
changed-odd u s (t ∷ ss) h = go (leb (nat_abs s) (smallest u (t ∷ ss))) (changed-odd u t ss h.1)
  where
    go : (here : Bool) → odd (side_changed u (t ∷ ss)) ≡ not (odd (negatives (t ∷ ss))) → odd (changed_if here u s (t ∷ ss)) ≡ not (odd (negatives (s ∷ t ∷ ss)))
    go true ih = not-⊕ (is_neg s) (odd (negatives (t ∷ ss)))
    go false ih = ap (λ b. is_neg s ⊕ b) ih ∙ ⊕-not (is_neg s) (odd (negatives (t ∷ ss)))

pub negatives-alike : (ss : List ℤ) → Alike (negatives ss) ss
negatives-alike [] = tt
negatives-alike (s ∷ ss) = negatives-alike ss

pub changed-alike : (u : ℕ) (ss : List ℤ) → Alike (side_changed u ss) ss
changed-alike u [] = tt
changed-alike u (s ∷ ss) = go (leb (nat_abs s) (smallest u ss)) (changed-alike u ss)
  where
    go : (here : Bool) → Alike (side_changed u ss) ss → Alike (changed_if here u s ss) (s ∷ ss)
    go true ih = negatives-alike ss
    go false ih = ih

pub method-alike : (u : ℕ) (ss : List ℤ) → Alike (method u ss) ss
method-alike u ss = go (odd (negatives ss))
  where
    go : (b : Bool) → Alike (cond b (negatives ss) (side_changed u ss)) ss
    go true = negatives-alike ss
    go false = changed-alike u ss

-- among the odd sets the method's has the smallest left side; it is odd where any odd set is
pub record Best (u : ℕ) (vs : List Bool) (ss : List ℤ) : Type 0 where
  pub is_odd : odd (method u ss) ≡ true
  pub below : left u (method u ss) ss ⩽ left u vs ss

pub method-best : (u : ℕ) (vs : List Bool) (ss : List ℤ) → AllWithin u ss → Alike vs ss → odd vs ≡ true → Best u vs ss
method-best u vs ss w h o = go (odd (negatives ss)) refl
  where
    even_odd : (ss : List ℤ) → Alike vs ss → AllWithin u ss → odd (negatives ss) ≡ false → odd (side_changed u ss) ≡ true
    even_odd [] h w e = absurd (nil vs h o)
      where
        nil : (vs : List Bool) → Alike {B = ℤ} vs [] → odd vs ≡ true → ⊥
        nil [] h o = false≢true o
        nil (v ∷ vs) h o = absurd h
    even_odd (s ∷ ss) h w e = changed-odd u s ss w ∙ ap not e

    go : (b : Bool) → odd (negatives ss) ≡ b → Best u vs ss
    go true e = record {
      is_odd = ap (λ t. odd (cond t (negatives ss) (side_changed u ss))) e ∙ e;
      below = subst (λ t. left u (cond t (negatives ss) (side_changed u ss)) ss ⩽ left u vs ss) (sym e) (lowest u vs ss h);
    }
    go false e = record {
      is_odd = ap (λ t. odd (cond t (negatives ss) (side_changed u ss))) e ∙ even_odd ss h w e;
      below = subst (λ t. left u (cond t (negatives ss) (side_changed u ss)) ss ⩽ left u vs ss) (sym e)
          (le_trans (left u (side_changed u ss) ss) (left u (negatives ss) ss +ℤ pos (2 * smallest u ss)) (left u vs ss) (changed-pays u ss) (gain u vs ss h (o ∙ sym (ap not e))));
    }
