-- The cut rule, both ways: the method answers V exactly if V is odd and violated, none exactly if no odd V is, and at most one ever is. A codeword
-- turns the cut, by the rule alone. Assumes nothing.
use mathlib.Core.Path.{◌≡◌, refl, sym, ◌∙◌, ap, ap₂, subst}
use mathlib.Core.Bool.{Bool, true, false, not, ◌&&◌, false≢true}
use mathlib.Core.Logic.{◌⊎◌, inl, inr, ◌↔◌}
use mathlib.Core.List.{List, [], ◌∷◌}
use mathlib.Core.Option.{Option, some, none}
use Prim.Native.Nat.{ℕ, ◌*◌}
use lib.IntN.{ℤ, pos, neg_ℤ, ◌+ℤ◌, +ℤ_idr}
use lib.Signed.{◌<ℤ◌, lt_z}
use Rattle.integers.specs.Linear.{lin, arith_z, ◌⩽◌, Within, lt-lt_z}
use Rattle.integers.specs.Order.{le_lt_trans, lt_z-lt}
use Rattle.integers.specs.Sum.{AllWithin}
use Rattle.rules.specs.Parity.{◌⊕◌, side, plus, turns, odd, Alike, left}
use Rattle.rules.specs.Cut.{cut, keep, violated, method}
use Rattle.rules.proofs.Basics.{not_inj, and_both, none≢some, some_inj}
use Rattle.rules.proofs.Signs.{odd-plus, left-turn, turns-twice, turns-within, alike-plus, alike-turns}
use Rattle.rules.proofs.CutMethod.{method-alike, method-best, Best}

-- ---- two sets at one point
pair_same : (u : ℕ) (a : Bool) (x l r k : ℤ) → Within u x → k ⩽ l +ℤ r → k ⩽ ((pos u +ℤ side a x) +ℤ l) +ℤ ((pos u +ℤ side a x) +ℤ r)
pair_same u true x l r k = simp lin (omega arith_z)
pair_same u false x l r k = simp lin (omega arith_z)

pair-tf : (u : ℕ) (x l r k : ℤ) → k ⩽ l +ℤ r → pos (2 * u) +ℤ k ⩽ ((pos u +ℤ x) +ℤ l) +ℤ ((pos u +ℤ neg_ℤ x) +ℤ r)
pair-tf u x l r k = simp lin (omega arith_z)

pair-ft : (u : ℕ) (x l r k : ℤ) → k ⩽ l +ℤ r → pos (2 * u) +ℤ k ⩽ ((pos u +ℤ neg_ℤ x) +ℤ l) +ℤ ((pos u +ℤ x) +ℤ r)
pair-ft u x l r k = simp lin (omega arith_z)

up_from : (k l : ℤ) (u : ℕ) → pos (2 * u) +ℤ k ⩽ l → k ⩽ l
up_from k l u = simp lin (omega arith_z)

pub sum_nonneg : (u : ℕ) (ss : List ℤ) (σ τ : List Bool) → AllWithin u ss → Alike σ ss → Alike τ ss → pos 0 ⩽ left u σ ss +ℤ left u τ ss
sum_nonneg u [] [] [] w h k = record { le = tt }
sum_nonneg u [] [] (t ∷ τ) w h k = absurd k
sum_nonneg u [] (s ∷ σ) τ w h k = absurd h
sum_nonneg u (x ∷ ss) [] τ w h k = absurd h
sum_nonneg u (x ∷ ss) (s ∷ σ) [] w h k = absurd k
sum_nonneg u (x ∷ ss) (true ∷ σ) (true ∷ τ) w h k = pair_same u true x (left u σ ss) (left u τ ss) (pos 0) w.0 (sum_nonneg u ss σ τ w.1 h k)
sum_nonneg u (x ∷ ss) (false ∷ σ) (false ∷ τ) w h k = pair_same u false x (left u σ ss) (left u τ ss) (pos 0) w.0 (sum_nonneg u ss σ τ w.1 h k)
sum_nonneg u (x ∷ ss) (true ∷ σ) (false ∷ τ) w h k = up_from (pos 0) (left u (true ∷ σ) (x ∷ ss) +ℤ left u (false ∷ τ) (x ∷ ss)) u
    (pair-tf u x (left u σ ss) (left u τ ss) (pos 0) (sum_nonneg u ss σ τ w.1 h k))
sum_nonneg u (x ∷ ss) (false ∷ σ) (true ∷ τ) w h k = up_from (pos 0) (left u (false ∷ σ) (x ∷ ss) +ℤ left u (true ∷ τ) (x ∷ ss)) u
    (pair-ft u x (left u σ ss) (left u τ ss) (pos 0) (sum_nonneg u ss σ τ w.1 h k))

not-sym : (a b : Bool) → not a ≡ b → a ≡ not b
not-sym true b e = ap not e
not-sym false b e = ap not e

-- of unlike parity: they differ in a place
pub sum-unlike : (u : ℕ) (ss : List ℤ) (σ τ : List Bool) → AllWithin u ss → Alike σ ss → Alike τ ss → odd σ ≡ not (odd τ) → pos (2 * u) ⩽ left u σ ss +ℤ left u τ ss
sum-unlike u [] [] [] w h k e = absurd (false≢true e)
sum-unlike u [] [] (t ∷ τ) w h k e = absurd k
sum-unlike u [] (s ∷ σ) τ w h k e = absurd h
sum-unlike u (x ∷ ss) [] τ w h k e = absurd h
sum-unlike u (x ∷ ss) (s ∷ σ) [] w h k e = absurd k
sum-unlike u (x ∷ ss) (true ∷ σ) (true ∷ τ) w h k e = pair_same u true x (left u σ ss) (left u τ ss) (pos (2 * u)) w.0 (sum-unlike u ss σ τ w.1 h k (not_inj (odd σ) (not (odd τ)) e))
sum-unlike u (x ∷ ss) (false ∷ σ) (false ∷ τ) w h k e = pair_same u false x (left u σ ss) (left u τ ss) (pos (2 * u)) w.0 (sum-unlike u ss σ τ w.1 h k e)
sum-unlike u (x ∷ ss) (true ∷ σ) (false ∷ τ) w h k e = rw (+ℤ_idr (pos (2 * u))) at (pair-tf u x (left u σ ss) (left u τ ss) (pos 0) (sum_nonneg u ss σ τ w.1 h k))
sum-unlike u (x ∷ ss) (false ∷ σ) (true ∷ τ) w h k e = rw (+ℤ_idr (pos (2 * u))) at (pair-ft u x (left u σ ss) (left u τ ss) (pos 0) (sum_nonneg u ss σ τ w.1 h k))

-- the same set, or sets whose left sides come to 4U together
abbrev pub SameOrFar : ℕ → List ℤ → List Bool → List Bool → Type 0
SameOrFar u ss σ τ = (σ ≡ τ) ⊎ (pos (2 * u) +ℤ pos (2 * u) ⩽ left u σ ss +ℤ left u τ ss)

-- one member more on the same side in both
like-more : (u : ℕ) (a : Bool) (x : ℤ) (ss : List ℤ) (σ τ : List Bool) → Within u x → SameOrFar u ss σ τ → SameOrFar u (x ∷ ss) (a ∷ σ) (a ∷ τ)
like-more u a x ss σ τ w (inl p) = inl (ap (λ l. a ∷ l) p)
like-more u a x ss σ τ w (inr l) = inr (pair_same u a x (left u σ ss) (left u τ ss) (pos (2 * u) +ℤ pos (2 * u)) w l)

-- of like parity and not the same: they differ in two places
pub sum_like : (u : ℕ) (ss : List ℤ) (σ τ : List Bool) → AllWithin u ss → Alike σ ss → Alike τ ss → odd σ ≡ odd τ → SameOrFar u ss σ τ
sum_like u [] [] [] w h k e = inl refl
sum_like u [] [] (t ∷ τ) w h k e = absurd k
sum_like u [] (s ∷ σ) τ w h k e = absurd h
sum_like u (x ∷ ss) [] τ w h k e = absurd h
sum_like u (x ∷ ss) (s ∷ σ) [] w h k e = absurd k
sum_like u (x ∷ ss) (true ∷ σ) (true ∷ τ) w h k e = like-more u true x ss σ τ w.0 (sum_like u ss σ τ w.1 h k (not_inj (odd σ) (odd τ) e))
sum_like u (x ∷ ss) (false ∷ σ) (false ∷ τ) w h k e = like-more u false x ss σ τ w.0 (sum_like u ss σ τ w.1 h k e)
sum_like u (x ∷ ss) (true ∷ σ) (false ∷ τ) w h k e = inr (pair-tf u x (left u σ ss) (left u τ ss) (pos (2 * u)) (sum-unlike u ss σ τ w.1 h k (not-sym (odd σ) (odd τ) e)))
sum_like u (x ∷ ss) (false ∷ σ) (true ∷ τ) w h k e = inr (pair-ft u x (left u σ ss) (left u τ ss) (pos (2 * u)) (sum-unlike u ss σ τ w.1 h k e))

not-both : (u : ℕ) (l r : ℤ) → l <ℤ pos (2 * u) → r <ℤ pos (2 * u) → pos (2 * u) +ℤ pos (2 * u) ⩽ l +ℤ r → ⊥
not-both u l r = simp lin (omega arith_z)

-- an odd violated set of a check
pub record Cuts (u : ℕ) (vs : List Bool) (ss : List ℤ) : Type 0 where
  pub is_odd : odd vs ≡ true
  pub long : Alike vs ss
  pub under : left u vs ss <ℤ pos (2 * u)

pub at_most_one : (u : ℕ) (ss : List ℤ) (σ τ : List Bool) → AllWithin u ss → Cuts u σ ss → Cuts u τ ss → σ ≡ τ
at_most_one u ss σ τ w p q = go (sum_like u ss σ τ w p.long q.long (p.is_odd ∙ sym q.is_odd))
  where
    go : SameOrFar u ss σ τ → σ ≡ τ
    go (inl e) = e
    go (inr l) = absurd (not-both u (left u σ ss) (left u τ ss) p.under q.under l)

-- ---- the rule
violated-cuts : (u : ℕ) (vs : List Bool) (ss : List ℤ) → Alike vs ss → violated u vs ss ≡ true → Cuts u vs ss
violated-cuts u vs ss h e =
    let both = and_both (odd vs) (lt_z (left u vs ss) (pos (2 * u))) e in
    record { is_odd = both.0; long = h; under = lt_z-lt (left u vs ss) (pos (2 * u)) both.1 }

pub cut-sound : (u : ℕ) (ss : List ℤ) (vs : List Bool) → cut u ss ≡ some vs → Cuts u vs ss
unfolding cut
cut-sound u ss vs e = go (violated u (method u ss) ss) refl e
  where
    go : (b : Bool) → violated u (method u ss) ss ≡ b → keep b (method u ss) ≡ some vs → Cuts u vs ss
    go true p q = subst (λ v. Cuts u v ss) (some_inj (method u ss) vs q) (violated-cuts u (method u ss) ss (method-alike u ss) p)
    go false p q = absurd (none≢some q)

pub cut-finds : (u : ℕ) (ss : List ℤ) (vs : List Bool) → AllWithin u ss → Cuts u vs ss → cut u ss ≡ some vs
unfolding cut
cut-finds u ss vs w c = ap₂ (λ a b. keep (a && b) (method u ss)) m.is_odd (lt-lt_z (left u (method u ss) ss) (pos (2 * u)) lt)
    ∙ ap some (at_most_one u ss (method u ss) vs w (record { is_odd = m.is_odd; long = method-alike u ss; under = lt }) c)
  where
    m : Best u vs ss
    m = method-best u vs ss w c.long c.is_odd

    lt : left u (method u ss) ss <ℤ pos (2 * u)
    lt = le_lt_trans (left u (method u ss) ss) (left u vs ss) (pos (2 * u)) m.below c.under

-- none exactly if no odd set is violated
pub cut-none : (u : ℕ) (ss : List ℤ) (vs : List Bool) → AllWithin u ss → cut u ss ≡ none → Cuts u vs ss → ⊥
cut-none u ss vs w e c = none≢some (sym e ∙ cut-finds u ss vs w c)

pub none-cut : (u : ℕ) (ss : List ℤ) → ((vs : List Bool) → Cuts u vs ss → ⊥) → cut u ss ≡ none
none-cut u ss f = go (cut u ss) refl
  where
    go : (o : Option (List Bool)) → cut u ss ≡ o → cut u ss ≡ none
    go none e = e
    go (some vs) e = absurd (f vs (cut-sound u ss vs e))

-- ---- the rule, as it is asked for
pub cut-some⇔ : (u : ℕ) (ss : List ℤ) (vs : List Bool) → AllWithin u ss → (cut u ss ≡ some vs) ↔ Cuts u vs ss
cut-some⇔ u ss vs w = (λ e. cut-sound u ss vs e, λ c. cut-finds u ss vs w c)

pub cut-none⇔ : (u : ℕ) (ss : List ℤ) → AllWithin u ss → (cut u ss ≡ none) ↔ ((vs : List Bool) → Cuts u vs ss → ⊥)
cut-none⇔ u ss w = (λ e vs c. cut-none u ss vs w e c, λ f. none-cut u ss f)

-- ---- a codeword's bits on the check, even in number, turn the cut
abbrev pub plus_o : List Bool → Option (List Bool) → Option (List Bool)
plus_o cs none = none
plus_o cs (some vs) = some (plus cs vs)

pub cuts-turn : (u : ℕ) (cs vs : List Bool) (ss : List ℤ) → odd cs ≡ false → Alike cs ss → Cuts u vs ss → Cuts u (plus cs vs) (turns cs ss)
cuts-turn u cs vs ss e h c = record {
  is_odd = odd-plus cs vs ∙ ap₂ ◌⊕◌ e c.is_odd;
  long = alike-turns cs ss (plus cs vs) (alike-plus cs vs ss h c.long);
  under = subst (λ x. x <ℤ pos (2 * u)) (sym (left-turn u cs vs ss h c.long)) c.under;
}

pub cut-turns : (u : ℕ) (cs : List Bool) (ss : List ℤ) → odd cs ≡ false → Alike cs ss → AllWithin u ss → cut u (turns cs ss) ≡ plus_o cs (cut u ss)
cut-turns u cs ss e h w = go (cut u ss) refl
  where
    go : (o : Option (List Bool)) → cut u ss ≡ o → cut u (turns cs ss) ≡ plus_o cs o
    go (some vs) p = cut-finds u (turns cs ss) (plus cs vs) (turns-within u cs ss w) (cuts-turn u cs vs ss e h (cut-sound u ss vs p))
    go none p = none-cut u (turns cs ss) (λ vs c. cut-none u ss (plus cs vs) w p (subst (Cuts u (plus cs vs)) (turns-twice cs ss) (cuts-turn u cs vs (turns cs ss) e (alike-turns cs ss cs h) c)))
