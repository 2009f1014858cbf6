-- The cut for code: any odd set with the least left side decides, and so does the negative spins' set with one member's side changed. On a tie any
-- smallest member serves: "at most one ever is" violated. Assumes nothing.
use mathlib.Core.Path.{◌≡◌, refl, sym, ◌∙◌, ap, subst}
use mathlib.Core.Bool.{Bool, true, false, not}
use mathlib.Core.List.{List, [], ◌∷◌}
use mathlib.Core.Option.{Option}
use Prim.Native.Nat.{ℕ, zero, suc, ◌*◌, ◌<◌}
use native.Mathlib.Omega.{arith}
use native.Mathlib.Nat.{le_of_suc-le-suc}
use lib.ListN.{length}
use lib.IntN.{ℤ, pos, negsuc, ◌+ℤ◌, nat_abs}
use lib.Signed.{◌<ℤ◌, lt_z}
use Rattle.integers.specs.Linear.{lin, arith_z, ◌⩽◌}
use Rattle.integers.specs.Order.{lt_z-lt}
use Rattle.integers.specs.Sum.{AllWithin}
use Rattle.rules.specs.Table.{at}
use Rattle.rules.specs.Parity.{◌⊕◌, side, odd, Alike, left}
use Rattle.rules.specs.Cut.{is_neg, negatives, smallest, keep, cut}
use Rattle.rules.proofs.Signs.{not-⊕, ⊕-not}
use Rattle.rules.proofs.CutMethod.{lowest, gain, negatives-alike}
use Rattle.rules.proofs.CutRule.{cut-finds, none-cut}
use Rattle.cut.proofs.ScanLaws.{negatives-length}

-- ---- any search
no_less : (u : ℕ) (a b : ℤ) → lt_z a (pos (2 * u)) ≡ false → a ⩽ b → b <ℤ pos (2 * u) → ⊥
no_less u a b = simp lin (omega arith_z)

-- no odd set has a lesser left side
abbrev Least : ℕ → List Bool → List ℤ → Type 0
Least u vs ss = (ts : List Bool) → odd ts ≡ true → Alike ts ss → left u vs ss ⩽ left u ts ss

-- the set, if its left side is below 2U
abbrev pub keep_below : ℕ → List Bool → List ℤ → Option (List Bool)
keep_below u vs ss = keep (lt_z (left u vs ss) (pos (2 * u))) vs

cut-any : (u : ℕ) (ss : List ℤ) (vs : List Bool) → AllWithin u ss → odd vs ≡ true → Alike vs ss → Least u vs ss → cut u ss ≡ keep_below u vs ss
cut-any u ss vs w o k below = go (lt_z (left u vs ss) (pos (2 * u))) refl
  where
    go : (b : Bool) → lt_z (left u vs ss) (pos (2 * u)) ≡ b → cut u ss ≡ keep b vs
    go true e = cut-finds u ss vs w (record { is_odd = o; long = k; under = lt_z-lt (left u vs ss) (pos (2 * u)) e })
    go false e = none-cut u ss (λ ts c. no_less u (left u vs ss) (left u ts ss) e (below ts c.is_odd c.long) c.under)

-- the negative spins, where they are odd
pub cut-odd : (u : ℕ) (ss : List ℤ) → AllWithin u ss → odd (negatives ss) ≡ true → cut u ss ≡ keep_below u (negatives ss) ss
cut-odd u ss w o = cut-any u ss (negatives ss) w o (negatives-alike ss) (λ ts p k. lowest u ts ss k)

-- ---- member k changes sides
abbrev pub change_side : ℕ → List Bool → List Bool
change_side k [] = []
change_side zero (v ∷ vs) = not v ∷ vs
change_side (suc k) (v ∷ vs) = v ∷ change_side k vs

change-odd : (k : ℕ) (vs : List Bool) → k < length vs → odd (change_side k vs) ≡ not (odd vs)
change-odd k [] h = absurd (omega arith)
change-odd zero (v ∷ vs) h = not-⊕ v (odd vs)
change-odd (suc k) (v ∷ vs) h = ap (λ b. v ⊕ b) (change-odd k vs (le_of_suc-le-suc h)) ∙ ⊕-not v (odd vs)

change-alike : (k : ℕ) (vs : List Bool) (ss : List ℤ) → Alike vs ss → Alike (change_side k vs) ss
change-alike k [] ss h = h
change-alike zero (v ∷ vs) [] h = h
change-alike zero (v ∷ vs) (s ∷ ss) h = h
change-alike (suc k) (v ∷ vs) [] h = h
change-alike (suc k) (v ∷ vs) (s ∷ ss) h = change-alike k vs ss h

change-here : (u : ℕ) (s x : ℤ) → (pos u +ℤ side (not (is_neg s)) s) +ℤ x ≡ ((pos u +ℤ side (is_neg s) s) +ℤ x) +ℤ pos (2 * nat_abs s)
change-here u (pos n) x = simp lin (omega arith_z)
change-here u (negsuc n) x = simp lin (omega arith_z)

change-there : (t x y : ℤ) (n : ℕ) → x ≡ y +ℤ pos (2 * n) → t +ℤ x ≡ (t +ℤ y) +ℤ pos (2 * n)
change-there t x y n = simp lin (omega arith_z)

-- it pays twice its size
pub change-pays : (u k : ℕ) (ss : List ℤ) → k < length ss → left u (change_side k (negatives ss)) ss ≡ left u (negatives ss) ss +ℤ pos (2 * nat_abs (at ss k))
change-pays u k [] h = absurd (omega arith)
change-pays u zero (s ∷ ss) h = change-here u s (left u (negatives ss) ss)
change-pays u (suc k) (s ∷ ss) h =
    change-there (pos u +ℤ side (is_neg s) s) (left u (change_side k (negatives ss)) ss) (left u (negatives ss) ss) (nat_abs (at ss k)) (change-pays u k ss (le_of_suc-le-suc h))

changed-low : (x y c : ℤ) (n m : ℕ) → x ≡ y +ℤ pos (2 * n) → n ≡ m → y +ℤ pos (2 * m) ⩽ c → x ⩽ c
changed-low x y c n m = simp lin (omega arith_z)

pub cut-even : (u k : ℕ) (ss : List ℤ) → AllWithin u ss → odd (negatives ss) ≡ false → k < length ss → nat_abs (at ss k) ≡ smallest u ss
    → cut u ss ≡ keep_below u (change_side k (negatives ss)) ss
cut-even u k ss w e h m =
    cut-any u ss (change_side k (negatives ss)) w (change-odd k (negatives ss) (subst (λ n. k < n) (sym (negatives-length ss)) h) ∙ ap not e)
    (change-alike k (negatives ss) ss (negatives-alike ss))
    (λ ts o a. changed-low (left u (change_side k (negatives ss)) ss) (left u (negatives ss) ss) (left u ts ss) (nat_abs (at ss k)) (smallest u ss) (change-pays u k ss h) m
    (gain u ts ss a (o ∙ sym (ap not e))))
