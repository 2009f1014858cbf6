-- One check's step: its lengths and limits, and how a codeword turns it. Assumes nothing.
use mathlib.Core.Path.{◌≡◌, refl, sym, ◌∙◌, ap, ap₂, subst, fun_ext}
use mathlib.Core.Bool.{Bool, true, false}
use mathlib.Core.Logic.{◌↔◌}
use mathlib.Core.List.{List, [], ◌∷◌}
use mathlib.Core.Option.{Option, some, none}
use Prim.Native.Nat.{ℕ, zero, suc, ◌+◌, ◌*◌, ◌^◌, ◌<◌, ◌≤◌}
use native.Mathlib.Omega.{arith}
use native.Mathlib.Nat.{le_of_suc-le-suc, suc_inj}
use lib.ListN.{length, take, drop}
use lib.IntN.{ℤ, pos, ◌+ℤ◌, ◌-ℤ◌}
use lib.Signed.{lt_z}
use Rattle.integers.specs.Linear.{lin, arith_z}
use Rattle.integers.specs.Order.{within-sub}
use Rattle.integers.specs.Clip.{clip_z, clip-within}
use Rattle.integers.specs.Sum.{AllWithin}
use Rattle.rules.specs.Table.{at}
use Rattle.rules.specs.Parity.{◌⊕◌, turn, side, plus, turns, odd, Alike, left}
use Rattle.rules.specs.Cut.{cut, shortfall, depth}
use Rattle.rules.specs.Step.{clips, move, moves, short, last_where, multiplier, Entry, inactive, active, Step, minus, settle, step_by, step}
use Rattle.rules.specs.Buffers.{multiplier_of}
use Rattle.rules.proofs.Signs.{turn-sum, turn-diff, turn-side, clip-turn, left-turn, alike-sym, alike-trans}
use Rattle.rules.proofs.Basics.{none≢some}
use Rattle.rules.proofs.CutRule.{cut-sound, cut-turns, plus_o}
use Rattle.rules.proofs.DepthLaws.{shortfall-turn, depth-cut, depth-most, depth-zero⇔}
use Rattle.rules.proofs.Multiplier.{multiplier-least}

-- ---- clipped, moved and subtracted lists
pub clips-within : (u : ℕ) (vs : List ℤ) → AllWithin u (clips u vs)
clips-within u [] = tt
clips-within u (v ∷ vs) = (clip-within u v, clips-within u vs)

pub clips-length : (u : ℕ) (vs : List ℤ) → length (clips u vs) ≡ length vs
clips-length u [] = refl
clips-length u (v ∷ vs) = ap suc (clips-length u vs)

pub clips-at : (u : ℕ) (vs : List ℤ) (i : ℕ) → i < length vs → at (clips u vs) i ≡ clip_z u (at vs i)
clips-at u [] i h = absurd (omega arith)
clips-at u (v ∷ vs) zero h = refl
clips-at u (v ∷ vs) (suc i) h = clips-at u vs i (le_of_suc-le-suc h)

clips-turn : (u : ℕ) (cs : List Bool) (vs : List ℤ) → clips u (turns cs vs) ≡ turns cs (clips u vs)
clips-turn u [] vs = refl
clips-turn u (c ∷ cs) [] = refl
clips-turn u (c ∷ cs) (v ∷ vs) = ap₂ ◌∷◌ (clip-turn u c v) (clips-turn u cs vs)

pub clips-alike : (u : ℕ) (vs : List ℤ) → Alike vs (clips u vs)
clips-alike u [] = tt
clips-alike u (v ∷ vs) = clips-alike u vs

moves-within : (u b : ℕ) (ts : List Bool) (vs : List ℤ) → AllWithin u (moves u b ts vs)
moves-within u b [] vs = tt
moves-within u b (t ∷ ts) [] = tt
moves-within u b (t ∷ ts) (v ∷ vs) = (clip-within u (v +ℤ side t (pos b)), moves-within u b ts vs)

move-turn : (u b : ℕ) (c t : Bool) (v : ℤ) → move u b (c ⊕ t) (turn c v) ≡ turn c (move u b t v)
move-turn u b c t v = ap (clip_z u) (ap (λ x. turn c v +ℤ x) (turn-side c t (pos b)) ∙ turn-sum c v (side t (pos b))) ∙ clip-turn u c (v +ℤ side t (pos b))

moves-turn : (u b : ℕ) (cs ts : List Bool) (vs : List ℤ) → Alike cs vs → Alike ts vs → moves u b (plus cs ts) (turns cs vs) ≡ turns cs (moves u b ts vs)
moves-turn u b [] ts vs h k = refl
moves-turn u b (c ∷ cs) ts [] h k = absurd h
moves-turn u b (c ∷ cs) [] (v ∷ vs) h k = absurd k
moves-turn u b (c ∷ cs) (t ∷ ts) (v ∷ vs) h k = ap₂ ◌∷◌ (move-turn u b c t v) (moves-turn u b cs ts vs h k)

moves-alike : (u b : ℕ) (ts : List Bool) (vs : List ℤ) → Alike ts vs → Alike vs (moves u b ts vs)
moves-alike u b [] [] h = tt
moves-alike u b [] (v ∷ vs) h = absurd h
moves-alike u b (t ∷ ts) [] h = absurd h
moves-alike u b (t ∷ ts) (v ∷ vs) h = moves-alike u b ts vs h

pub minus-turn : (xs : List Bool) (vs zs : List ℤ) → minus (turns xs vs) (turns xs zs) ≡ turns xs (minus vs zs)
minus-turn [] vs zs = refl
minus-turn (x ∷ xs) [] zs = refl
minus-turn (x ∷ xs) (v ∷ vs) [] = refl
minus-turn (x ∷ xs) (v ∷ vs) (z ∷ zs) = ap₂ ◌∷◌ (turn-diff x v z) (minus-turn xs vs zs)

minus-alike : (vs zs : List ℤ) → Alike vs zs → Alike vs (minus vs zs)
minus-alike [] [] h = tt
minus-alike [] (z ∷ zs) h = absurd h
minus-alike (v ∷ vs) [] h = absurd h
minus-alike (v ∷ vs) (z ∷ zs) h = minus-alike vs zs h

pub minus-within : (a b : ℕ) (vs zs : List ℤ) → AllWithin a vs → AllWithin b zs → AllWithin (a + b) (minus vs zs)
minus-within a b [] zs h k = tt
minus-within a b (v ∷ vs) [] h k = tt
minus-within a b (v ∷ vs) (z ∷ zs) h k = (within-sub a b v z h.0 k.0, minus-within a b vs zs h.1 k.1)

pub minus-length : (vs zs : List ℤ) → length vs ≡ length zs → length (minus vs zs) ≡ length vs
minus-length [] zs h = refl
minus-length (v ∷ vs) [] h = absurd (omega arith)
minus-length (v ∷ vs) (z ∷ zs) h = ap suc (minus-length vs zs (suc_inj h))

pub minus-at : (vs zs : List ℤ) (k : ℕ) → k < length vs → k < length zs → at (minus vs zs) k ≡ at vs k -ℤ at zs k
minus-at [] zs k h l = absurd (omega arith)
minus-at (v ∷ vs) [] k h l = absurd (omega arith)
minus-at (v ∷ vs) (z ∷ zs) zero h l = refl
minus-at (v ∷ vs) (z ∷ zs) (suc k) h l = minus-at vs zs k (le_of_suc-le-suc h) (le_of_suc-le-suc l)

minus-nil : (vs : List ℤ) → minus vs [] ≡ []
minus-nil [] = refl
minus-nil (v ∷ vs) = refl

pub minus-drop : (k : ℕ) (vs zs : List ℤ) → drop k (minus vs zs) ≡ minus (drop k vs) (drop k zs)
minus-drop zero vs zs = refl
minus-drop (suc k) [] zs = refl
minus-drop (suc k) (v ∷ vs) [] = sym (minus-nil (drop k vs))
minus-drop (suc k) (v ∷ vs) (z ∷ zs) = minus-drop k vs zs

pub minus-take : (k : ℕ) (vs zs : List ℤ) → take k (minus vs zs) ≡ minus (take k vs) (take k zs)
minus-take zero vs zs = refl
minus-take (suc k) [] zs = refl
minus-take (suc k) (v ∷ vs) [] = refl
minus-take (suc k) (v ∷ vs) (z ∷ zs) = ap (λ l. (v -ℤ z) ∷ l) (minus-take k vs zs)

-- the cut that a check has is as long as the check
cut-long : (u : ℕ) (vs : List ℤ) (ts : List Bool) → cut u (clips u vs) ≡ some ts → Alike ts vs
cut-long u vs ts e = alike-trans ts (clips u vs) vs (cut-sound u (clips u vs) ts e).long (alike-sym vs (clips u vs) (clips-alike u vs))

-- ---- lengths and limits
-- an active entry has an odd set as long as the check, and a multiplier of 1 or more
abbrev pub Proper : {A : Type 0} → List A → Entry → Type 0
Proper ms inactive = Unit {0}
Proper ms (active b ts) = (odd ts ≡ true) × Alike ts ms × (1 ≤ b)

pub record Shape (u : ℕ) (vs : List ℤ) (s : Step) : Type 0 where
  pub copies : Alike vs s.copies
  pub offsets : Alike vs s.offsets
  pub within : AllWithin u s.copies
  pub limit : (m : ℕ) → AllWithin m vs → AllWithin (m + u) s.offsets
  pub proper : Proper vs s.entry
  pub priced : (m : ℕ) → AllWithin m vs → u + m ≤ 2 ^ 24 → multiplier_of s.entry ≤ u + m

settle-shape : (u : ℕ) (vs zs : List ℤ) (e : Entry) (d : ℕ) → Alike vs zs → AllWithin u zs → Proper vs e
    → ((m : ℕ) → AllWithin m vs → u + m ≤ 2 ^ 24 → multiplier_of e ≤ u + m) → Shape u vs (settle vs zs e d)
settle-shape u vs zs e d h w p q = record {
  copies = h;
  offsets = minus-alike vs zs h;
  within = w;
  limit = λ m k. minus-within m u vs zs k w;
  proper = p;
  priced = q;
}

pub step-shape : (u : ℕ) (vs : List ℤ) → Shape u vs (step u vs)
unfolding step multiplier
step-shape u vs = go (cut u (clips u vs)) refl
  where
    go : (o : Option (List Bool)) → cut u (clips u vs) ≡ o → Shape u vs (step_by u vs o)
    go none e = settle-shape u vs (clips u vs) inactive 0 (clips-alike u vs) (clips-within u vs) tt (λ m w h. omega arith)
    go (some ts) e = settle-shape u vs (moves u (multiplier u ts vs) ts vs) (active (multiplier u ts vs) ts) _
        (moves-alike u (multiplier u ts vs) ts vs (cut-long u vs ts e)) (moves-within u (multiplier u ts vs) ts vs)
        ((cut-sound u (clips u vs) ts e).is_odd, cut-long u vs ts e, omega arith)
        (λ m w h. (multiplier-least u m ts vs (cut-sound u (clips u vs) ts e).is_odd (cut-long u vs ts e) w h (cut-sound u (clips u vs) ts e).under).bounded)

-- ---- turned by a codeword's bits on the check
abbrev pub turn_entry : List Bool → Entry → Entry
turn_entry cs inactive = inactive
turn_entry cs (active b ts) = active b (plus cs ts)

abbrev pub turn_step : List Bool → Step → Step
turn_step cs s = record { copies = turns cs s.copies; offsets = turns cs s.offsets; entry = turn_entry cs s.entry; depth = s.depth }

short-turn : (u : ℕ) (cs ts : List Bool) (vs : List ℤ) → Alike cs vs → Alike ts vs → (b : ℕ) → short u (plus cs ts) (turns cs vs) b ≡ short u ts vs b
short-turn u cs ts vs h k b = ap (λ l. lt_z l (pos (2 * u))) (ap (left u (plus cs ts)) (moves-turn u b cs ts vs h k)
    ∙ left-turn u cs ts (moves u b ts vs) (alike-trans cs vs (moves u b ts vs) h (moves-alike u b ts vs k)) (alike-trans ts vs (moves u b ts vs) k (moves-alike u b ts vs k)))

pub multiplier-turn : (u : ℕ) (cs ts : List Bool) (vs : List ℤ) → Alike cs vs → Alike ts vs → multiplier u (plus cs ts) (turns cs vs) ≡ multiplier u ts vs
unfolding multiplier
multiplier-turn u cs ts vs h k = ap (λ f. suc (last_where f 24 0)) (fun_ext (short-turn u cs ts vs h k))

abbrev step_of : List ℤ → List ℤ → Entry → ℕ → Step
step_of zs ys e d = record { copies = zs; offsets = ys; entry = e; depth = d }

step-eq : {a a' b b' : List ℤ} {e e' : Entry} {d d' : ℕ} → a ≡ a' → b ≡ b' → e ≡ e' → d ≡ d' → step_of a b e d ≡ step_of a' b' e' d'
step-eq p q r s = λ i. step_of (p i) (q i) (r i) (s i)

settle-turn : (cs : List Bool) (vs zs zs' : List ℤ) (e e' : Entry) (d d' : ℕ) → zs' ≡ turns cs zs → e' ≡ turn_entry cs e → d' ≡ d
    → settle (turns cs vs) zs' e' d' ≡ turn_step cs (settle vs zs e d)
settle-turn cs vs zs zs' e e' d d' p q r = step-eq p (ap (minus (turns cs vs)) p ∙ minus-turn cs vs zs) q r

pub step-turn : (u : ℕ) (cs : List Bool) (vs : List ℤ) → odd cs ≡ false → Alike cs vs → step u (turns cs vs) ≡ turn_step cs (step u vs)
unfolding step
step-turn u cs vs e h = ap (step_by u (turns cs vs)) same ∙ go (cut u (clips u vs)) refl
  where
    same : cut u (clips u (turns cs vs)) ≡ plus_o cs (cut u (clips u vs))
    same = ap (cut u) (clips-turn u cs vs) ∙ cut-turns u cs (clips u vs) e (alike-trans cs vs (clips u vs) h (clips-alike u vs)) (clips-within u vs)

    go : (o : Option (List Bool)) → cut u (clips u vs) ≡ o → step_by u (turns cs vs) (plus_o cs o) ≡ turn_step cs (step_by u vs o)
    go none p = settle-turn cs vs (clips u vs) (clips u (turns cs vs)) inactive inactive 0 0 (clips-turn u cs vs) refl refl
    go (some ts) p = settle-turn cs vs (moves u (multiplier u ts vs) ts vs) (moves u (multiplier u (plus cs ts) (turns cs vs)) (plus cs ts) (turns cs vs))
        (active (multiplier u ts vs) ts) (active (multiplier u (plus cs ts) (turns cs vs)) (plus cs ts)) _ _
        (ap (λ b. moves u b (plus cs ts) (turns cs vs)) (multiplier-turn u cs ts vs h (cut-long u vs ts p)) ∙ moves-turn u (multiplier u ts vs) cs ts vs h (cut-long u vs ts p))
        (ap (λ b. active b (plus cs ts)) (multiplier-turn u cs ts vs h (cut-long u vs ts p)))
        (ap (shortfall u (plus cs ts)) (clips-turn u cs vs)
        ∙ shortfall-turn u ts (clips u vs) cs (alike-trans cs vs (clips u vs) h (clips-alike u vs)) (cut-sound u (clips u vs) ts p).long)

-- ---- the depth that a check leaves is that of its clipped values, and 0 exactly if it has no cut
pub step-depth : (u : ℕ) (vs : List ℤ) → (step u vs).depth ≡ depth u (clips u vs)
unfolding step depth
step-depth u vs = refl

-- the values are still there afterwards: copy plus offset
abbrev pub together : List ℤ → List ℤ → List ℤ
together [] ys = []
together (z ∷ zs) [] = []
together (z ∷ zs) (y ∷ ys) = (z +ℤ y) ∷ together zs ys

back : (v z : ℤ) → z +ℤ (v -ℤ z) ≡ v
back v z = simp lin (omega arith_z)

together-back : (vs zs : List ℤ) → Alike vs zs → together zs (minus vs zs) ≡ vs
together-back [] [] h = refl
together-back [] (z ∷ zs) h = absurd h
together-back (v ∷ vs) [] h = absurd h
together-back (v ∷ vs) (z ∷ zs) h = ap₂ ◌∷◌ (back v z) (together-back vs zs h)

pub step-together : (u : ℕ) (vs : List ℤ) → together (step u vs).copies (step u vs).offsets ≡ vs
unfolding step
step-together u vs = go (cut u (clips u vs)) refl
  where
    go : (o : Option (List Bool)) → cut u (clips u vs) ≡ o → together (step_by u vs o).copies (step_by u vs o).offsets ≡ vs
    go none e = together-back vs (clips u vs) (clips-alike u vs)
    go (some ts) e = together-back vs (moves u (multiplier u ts vs) ts vs) (moves-alike u (multiplier u ts vs) ts vs (cut-long u vs ts e))

-- so mask and depth that a round leaves are the cut search's at copy plus offset, clipped
abbrev pub values_after : ℕ → Step → List ℤ
values_after u s = clips u (together s.copies s.offsets)

pub depth-again : (u : ℕ) (vs : List ℤ) → (step u vs).depth ≡ depth u (values_after u (step u vs))
depth-again u vs = step-depth u vs ∙ ap (λ l. depth u (clips u l)) (sym (step-together u vs))

abbrev pub cut_in : Entry → Option (List Bool)
cut_in inactive = none
cut_in (active b ts) = some ts

pub set-again : (u : ℕ) (vs : List ℤ) → cut_in (step u vs).entry ≡ cut u (values_after u (step u vs))
unfolding step
set-again u vs = go (cut u (clips u vs)) ∙ ap (λ l. cut u (clips u l)) (sym (step-together u vs))
  where
    go : (o : Option (List Bool)) → cut_in (step_by u vs o).entry ≡ o
    go none = refl
    go (some ts) = refl

pub step-depth-most : (u : ℕ) (vs : List ℤ) → (step u vs).depth ≤ 2 * u
step-depth-most u vs = subst (λ n. n ≤ 2 * u) (sym (step-depth u vs)) (depth-most u (clips u vs) (clips-within u vs))

active≢inactive : {b : ℕ} {ts : List Bool} → active b ts ≡ inactive → ⊥
active≢inactive e = let z : ◌≡◌ {A = ℕ} 0 1 = cc in omega arith

pub step-inactive⇔ : (u : ℕ) (vs : List ℤ) → ((step u vs).depth ≡ 0) ↔ ((step u vs).entry ≡ inactive)
unfolding step
step-inactive⇔ u vs = go (cut u (clips u vs)) refl
  where
    go : (o : Option (List Bool)) → cut u (clips u vs) ≡ o → ((step_by u vs o).depth ≡ 0) ↔ ((step_by u vs o).entry ≡ inactive)
    go none e = (λ _. refl, λ _. refl)
    go (some ts) e = (λ z. absurd (none≢some (sym ((depth-zero⇔ u (clips u vs)).0 (depth-cut u (clips u vs) ts e ∙ z)) ∙ e)), λ x. absurd (active≢inactive x))
