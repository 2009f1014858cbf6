-- A codeword turns the candidate, leaves the checks met, the bound and the gap, and so turns the whole round. Assumes nothing.
use mathlib.Core.Path.{◌≡◌, refl, ◌∙◌, ap, ap₂, subst, fun_ext}
use mathlib.Core.Bool.{Bool, true, false, not, ◌&&◌}
use mathlib.Core.List.{List, [], ◌∷◌}
use mathlib.Core.Option.{Option, some, none}
use Prim.Native.Nat.{ℕ, zero, suc}
use lib.ListN.{length}
use lib.IntN.{ℤ, pos, negsuc, ◌+ℤ◌, ◌-ℤ◌, ◌*ℤ◌}
use Rattle.integers.specs.Product.{abs, abs_neg, *ℤ-negℤ}
use Rattle.integers.specs.Sum.{sum_to}
use Rattle.rules.specs.Limits.{unit}
use Rattle.rules.specs.Table.{Table, edges, at, bit, bits_at}
use Rattle.rules.specs.Parity.{◌⊕◌, turn, plus, turns, odd, Alike, meets, Codeword, agreement}
use Rattle.rules.specs.Cut.{keep}
use Rattle.rules.specs.Step.{Entry, inactive, active}
use Rattle.rules.specs.Bound.{Row, gather, rows_of, weights, pull, price, reduced, bound, gap}
use Rattle.rules.specs.Round.{State, sum_at, pass, copies_in, offsets_in, entries_in, bit_of, join, candidate, is_zero, certify, first_of, sums_of, Round, round_by, round}
use Rattle.rules.proofs.Signs.{turn-sum, turn-zero, turn-turn, turn-side, at-turns, bit-plus, odd-plus, alike-sym, alike-trans}
use Rattle.rules.proofs.CutRule.{plus_o}
use Rattle.rules.proofs.Pass.{state-eq, spins_in, steps_in, steps-laid, Good, rows-good}
use Rattle.rules.proofs.RoundTurns.{Even, meets-even, signs, turn_state, bits_at-alike, gather-turn, sum-turn, spin-turn, depths-turn}
use Rattle.rules.proofs.RoundTurns.{turn_steps, pass-turn, copies-turn, offsets-turn, turn_entries, entries-turn}

-- ---- the candidate
abbrev plus_b : Bool → Option Bool → Option Bool
plus_b c none = none
plus_b c (some b) = some (c ⊕ b)

bit_of-turn : (c : Bool) (x : ℤ) → bit_of (turn c x) ≡ plus_b c (bit_of x)
bit_of-turn true (pos zero) = refl
bit_of-turn true (pos (suc n)) = refl
bit_of-turn true (negsuc n) = refl
bit_of-turn false (pos zero) = refl
bit_of-turn false (pos (suc n)) = refl
bit_of-turn false (negsuc n) = refl

cons-plus : (c : Bool) (cs : List Bool) (o : Option Bool) (p : Option (List Bool)) → join (plus_b c o) (plus_o cs p) ≡ plus_o (c ∷ cs) (join o p)
cons-plus c cs none p = refl
cons-plus c cs (some b) none = refl
cons-plus c cs (some b) (some w) = refl

candidate-at : (c : List Bool) (f g : ℕ → ℤ) → ((i : ℕ) → g i ≡ turn (bit c i) (f i)) → candidate (length c) g ≡ plus_o c (candidate (length c) f)
candidate-at [] f g fg = refl
candidate-at (c ∷ cs) f g fg = ap₂ join (ap bit_of (fg 0) ∙ bit_of-turn c (f 0)) (candidate-at cs (λ i. f (suc i)) (λ i. g (suc i)) (λ i. fg (suc i)))
    ∙ cons-plus c cs (bit_of (f 0)) (candidate (length cs) (λ i. f (suc i)))

pub candidate-turns : (n : ℕ) (c : List Bool) (f g : ℕ → ℤ) → length c ≡ n → ((i : ℕ) → g i ≡ turn (bit c i) (f i)) → candidate n g ≡ plus_o c (candidate n f)
candidate-turns n c f g e fg = subst (λ n. candidate n g ≡ plus_o c (candidate n f)) e (candidate-at c f g fg)

first-at : (c : List Bool) (f g : ℕ → ℤ) → ((i : ℕ) → g i ≡ turn (bit c i) (f i)) → first_of (length c) g ≡ turns c (first_of (length c) f)
first-at [] f g fg = refl
first-at (c ∷ cs) f g fg = ap₂ ◌∷◌ (fg 0) (first-at cs (λ i. f (suc i)) (λ i. g (suc i)) (λ i. fg (suc i)))

pub first-turns : (n : ℕ) (c : List Bool) (f g : ℕ → ℤ) → length c ≡ n → ((i : ℕ) → g i ≡ turn (bit c i) (f i)) → first_of n g ≡ turns c (first_of n f)
first-turns n c f g e fg = subst (λ n. first_of n g ≡ turns c (first_of n f)) e (first-at c f g fg)

-- ---- the checks
pub bits_at-plus : (c w : List Bool) (ms : List ℕ) → bits_at (plus c w) ms ≡ plus (bits_at c ms) (bits_at w ms)
bits_at-plus c w [] = refl
bits_at-plus c w (m ∷ ms) = ap₂ ◌∷◌ (bit-plus c w m) (bits_at-plus c w ms)

pub parity-plus : (c w : List Bool) (ms : List ℕ) → odd (bits_at c ms) ≡ false → odd (bits_at (plus c w) ms) ≡ odd (bits_at w ms)
parity-plus c w ms e = ap odd (bits_at-plus c w ms) ∙ odd-plus (bits_at c ms) (bits_at w ms) ∙ ap (λ t. t ⊕ odd (bits_at w ms)) e

pub meets-turns : (c w : List Bool) (cs : List (List ℕ)) → Even c cs → meets (plus c w) cs ≡ meets w cs
meets-turns c w [] h = refl
meets-turns c w (ms ∷ cs) h = ap₂ (λ a b. not a && b) (parity-plus c w ms h.0) (meets-turns c w cs h.1)

-- ---- the gap, of any rows whose sets are as long as their checks
abbrev pub turn_row : List Bool → Row → Row
turn_row c r = record { members = r.members; multiplier = r.multiplier; set = plus (bits_at c r.members) r.set }

abbrev pub turn_rows : List Bool → List Row → List Row
turn_rows c [] = []
turn_rows c (r ∷ rs) = turn_row c r ∷ turn_rows c rs

weights-turn : (b : ℕ) (cs ts : List Bool) → Alike cs ts → weights b (plus cs ts) ≡ turns cs (weights b ts)
weights-turn b [] [] h = refl
weights-turn b [] (t ∷ ts) h = refl
weights-turn b (c ∷ cs) [] h = absurd h
weights-turn b (c ∷ cs) (t ∷ ts) h = ap₂ ◌∷◌ (turn-side c t (pos b)) (weights-turn b cs ts h)

pub pull-turn : (c : List Bool) (i : ℕ) (rs : List Row) → Good rs → pull i (turn_rows c rs) ≡ turn (bit c i) (pull i rs)
pull-turn c i [] h = turn-zero (bit c i)
pull-turn c i (r ∷ rs) h =
    let ms = r.members in
    let ws = weights r.multiplier r.set in
    let alike = alike-trans (bits_at c ms) ms r.set (bits_at-alike c ms) (alike-sym r.set ms h.1) in
    let turned = weights-turn r.multiplier (bits_at c ms) r.set alike in
    ap₂ ◌+ℤ◌ (ap (gather i ms) turned ∙ gather-turn c i ms ws) (pull-turn c i rs h.2)
    ∙ turn-sum (bit c i) (gather i ms ws) (pull i rs)

pub price-turn : (c : List Bool) (rs : List Row) → price (turn_rows c rs) ≡ price rs
price-turn c [] = refl
price-turn c (r ∷ rs) = ap (λ t. pos r.multiplier *ℤ (pos (length r.members) -ℤ pos 2) +ℤ t) (price-turn c rs)

times-turn : (k : ℕ) (c : Bool) (x : ℤ) → pos k *ℤ turn c x ≡ turn c (pos k *ℤ x)
times-turn k true x = *ℤ-negℤ (pos k) x
times-turn k false x = refl

pub reduced-turn : (k : ℕ) (c : List Bool) (l : List ℤ) (rs : List Row) → Good rs → (i : ℕ) → reduced k (turns c l) (turn_rows c rs) i ≡ turn (bit c i) (reduced k l rs i)
unfolding reduced
reduced-turn k c l rs h i = ap₂ ◌+ℤ◌ (ap (λ t. pos k *ℤ t) (at-turns c l i) ∙ times-turn k (bit c i) (at l i)) (pull-turn c i rs h) ∙ turn-sum (bit c i) (pos k *ℤ at l i) (pull i rs)

abs-turn : (c : Bool) (x : ℤ) → abs (turn c x) ≡ abs x
abs-turn true x = ap pos (abs_neg x)
abs-turn false x = refl

pub bound-turns : (n k : ℕ) (c : List Bool) (l : List ℤ) (rs : List Row) → Good rs → bound n k (turns c l) (turn_rows c rs) ≡ bound n k l rs
unfolding bound
bound-turns n k c l rs h = ap₂ ◌+ℤ◌ (ap (sum_to n) (fun_ext (λ i. ap abs (reduced-turn k c l rs h i) ∙ abs-turn (bit c i) (reduced k l rs i)))) (price-turn c rs)

pub agreement-turns : (n : ℕ) (c : List Bool) (l : List ℤ) (w : List Bool) → agreement n (turns c l) (plus c w) ≡ agreement n l w
unfolding agreement
agreement-turns n c l w = ap (sum_to n) (fun_ext (λ i. ap₂ turn (bit-plus c w i) (at-turns c l i) ∙ turn-turn (bit c i) (bit w i) (at l i)))

pub gap-turns : (n k : ℕ) (c : List Bool) (l : List ℤ) (rs : List Row) (w : List Bool) → Good rs → gap n k (turns c l) (turn_rows c rs) (plus c w) ≡ gap n k l rs w
unfolding gap
gap-turns n k c l rs w h = ap₂ (λ x y. x -ℤ pos k *ℤ y) (bound-turns n k c l rs h) (agreement-turns n c l w)

-- ---- a round's rows
pub rows-turn : (c : List Bool) (cs : List (List ℕ)) (es : List Entry) → rows_of cs (turn_entries c cs es) ≡ turn_rows c (rows_of cs es)
rows-turn c [] es = refl
rows-turn c (ms ∷ cs) [] = refl
rows-turn c (ms ∷ cs) (inactive ∷ es) = rows-turn c cs es
rows-turn c (ms ∷ cs) (active b ts ∷ es) = ap (λ t. record { members = ms; multiplier = b; set = plus (bits_at c ms) ts } ∷ t) (rows-turn c cs es)

-- ---- the whole round
abbrev pub turn_round : List Bool → List (List ℕ) → Round → Round
turn_round c cs d = record {
  spins = turns c d.spins;
  state = turn_state c cs d.state;
  sums = turns c d.sums;
  entries = turn_entries c cs d.entries;
  depths = d.depths;
  word = plus_o c d.word;
}

keep-plus : (c w : List Bool) (b : Bool) → keep b (plus c w) ≡ plus_o c (keep b w)
keep-plus c w true = refl
keep-plus c w false = refl

module _ (t : Table) (c : List Bool) (l : List ℤ) (rs : List Row) (even : Even c t.checks) (good : Good rs) where
  certify-turns : (o : Option (List Bool)) → certify t (turns c l) (turn_rows c rs) (plus_o c o) ≡ plus_o c (certify t l rs o)
  certify-turns none = refl
  certify-turns (some w) = ap₂ (λ a b. keep (a && is_zero b) (plus c w)) (meets-turns c w t.checks even) (gap-turns t.bits 1 c l rs w good)
      ∙ keep-plus c w (meets w t.checks && is_zero (gap t.bits 1 l rs w))

abbrev round_of : List ℤ → State → List ℤ → List Entry → List ℕ → Option (List Bool) → Round
round_of p s x e d v = record { spins = p; state = s; sums = x; entries = e; depths = d; word = v }

round-eq : {p q x y : List ℤ} {r s : State} {e f : List Entry} {a b : List ℕ} {v w : Option (List Bool)} → p ≡ q → r ≡ s → x ≡ y → e ≡ f → a ≡ b → v ≡ w
    → round_of p r x e a v ≡ round_of q s y f b w
round-eq p q r s d t = λ i. round_of (p i) (q i) (r i) (s i) (d i) (t i)

-- a turned state has turned sums
pub sums-turn : (t : Table) (c : List Bool) (s : State) → Codeword t c
    → sums_of t.bits (edges t.checks) (turn_state c t.checks s) ≡ turns c (sums_of t.bits (edges t.checks) s)
unfolding sums_of
sums-turn t c s k = first-turns t.bits c (sum_at (edges t.checks) s) (sum_at (edges t.checks) (turn_state c t.checks s)) k.size (sum-turn c t.checks s)

pub round-turns : (t : Table) (c : List Bool) (l : List ℤ) (s : State) → Codeword t c → round t (turns c l) (turn_state c t.checks s) ≡ turn_round c t.checks (round t l s)
unfolding round
round-turns t c l s k = ap (round_by t (turns c l) g) steps ∙ round-eq
    (first-turns t.bits c f g k.size fg)
    state-turn
    (ap (sums_of t.bits (edges t.checks)) state-turn ∙ sums-turn t c (record { copies = copies_in (steps_in t l s); offsets = offsets_in (steps_in t l s) }) k)
    (entries-turn c t.checks (steps_in t l s))
    (depths-turn unit c t.checks (steps_in t l s) (steps-laid t l s))
    (ap₂ (certify t (turns c l)) (ap (rows_of t.checks) (entries-turn c t.checks (steps_in t l s)) ∙ rows-turn c t.checks es) (candidate-turns t.bits c f g k.size fg)
    ∙ certify-turns t c l (rows_of t.checks es) even (rows-good unit t.checks (steps_in t l s) (steps-laid t l s)) (candidate t.bits f))
  where
    f : ℕ → ℤ
    f = spins_in t l s

    g : ℕ → ℤ
    g = spins_in t (turns c l) (turn_state c t.checks s)

    es : List Entry
    es = entries_in (steps_in t l s)

    state-turn : record { copies = copies_in (turn_steps c t.checks (steps_in t l s)); offsets = offsets_in (turn_steps c t.checks (steps_in t l s)) }
        ≡ turn_state c t.checks (record { copies = copies_in (steps_in t l s); offsets = offsets_in (steps_in t l s) })
    state-turn = state-eq (copies-turn unit c t.checks (steps_in t l s) (steps-laid t l s)) (offsets-turn unit c t.checks (steps_in t l s) (steps-laid t l s))

    fg : (i : ℕ) → g i ≡ turn (bit c i) (f i)
    fg = spin-turn unit c t.checks l s

    even : Even c t.checks
    even = meets-even c t.checks k.even

    steps : pass unit g t.checks (turns (signs c t.checks) s.offsets) ≡ turn_steps c t.checks (steps_in t l s)
    steps = pass-turn unit c f g fg t.checks s.offsets even
