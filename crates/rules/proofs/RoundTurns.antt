-- A codeword turns a round's spins and its pass over the checks: copies and offsets are turned, multipliers stay, sets are turned. Assumes nothing.
use mathlib.Core.Path.{◌≡◌, refl, sym, ◌∙◌, ap, ap₂}
use mathlib.Core.Bool.{Bool, true, false, not}
use mathlib.Core.List.{List, [], ◌∷◌, ◌++◌}
use Prim.Native.Nat.{ℕ}
use lib.Dec.{eqb}
use borrow.Author.Tests.{eqb-true, not-true}
use lib.ListN.{length, drop}
use lib.IntN.{ℤ, ◌+ℤ◌}
use Rattle.integers.specs.Clip.{clip_z}
use Rattle.integers.specs.Sum.{pick}
use Rattle.rules.specs.Table.{edges, degree_of, at, bit, bits_at}
use Rattle.rules.specs.Parity.{turn, turns, odd, Alike, meets}
use Rattle.rules.specs.Step.{Entry, Step, minus, step}
use Rattle.rules.specs.Bound.{gather}
use Rattle.rules.specs.Round.{State, sum_at, total, divided, spin, values, pass, copies_in, offsets_in, entries_in, depths_in}
use Rattle.rules.proofs.Basics.{and_both}
use Rattle.rules.proofs.DividedLaws.{divided-neg}
use Rattle.rules.proofs.Signs.{turn-sum, turn-zero, at-turns, clip-turn, alike-trans}
use Rattle.rules.proofs.Steps.{minus-turn, turn_entry, turn_step, step-turn}
use Rattle.rules.proofs.Pass.{values-alike, AllLaid}

-- an even number of ones on each check
abbrev pub Even : List Bool → List (List ℕ) → Type 0
Even c [] = Unit {0}
Even c (ms ∷ cs) = (odd (bits_at c ms) ≡ false) × Even c cs

pub meets-even : (c : List Bool) (cs : List (List ℕ)) → meets c cs ≡ true → Even c cs
meets-even c [] e = tt
meets-even c (ms ∷ cs) e = (not-true (odd (bits_at c ms)) (and_both (not (odd (bits_at c ms))) (meets c cs) e).0, meets-even c cs (and_both (not (odd (bits_at c ms))) (meets c cs) e).1)

-- the codeword's bit at each edge
abbrev pub signs : List Bool → List (List ℕ) → List Bool
signs c [] = []
signs c (ms ∷ cs) = bits_at c ms ++ signs c cs

bits_at-++ : (c : List Bool) (ms es : List ℕ) → bits_at c (ms ++ es) ≡ bits_at c ms ++ bits_at c es
bits_at-++ c [] es = refl
bits_at-++ c (m ∷ ms) es = ap (λ t. bit c m ∷ t) (bits_at-++ c ms es)

signs-is : (c : List Bool) (cs : List (List ℕ)) → signs c cs ≡ bits_at c (edges cs)
signs-is c [] = refl
signs-is c (ms ∷ cs) = ap (λ t. bits_at c ms ++ t) (signs-is c cs) ∙ sym (bits_at-++ c ms (edges cs))

abbrev pub turn_state : List Bool → List (List ℕ) → State → State
turn_state c cs s = record { copies = turns (signs c cs) s.copies; offsets = turns (signs c cs) s.offsets }

-- ---- lists
pub turns-nil : (xs : List Bool) → turns xs [] ≡ []
turns-nil [] = refl
turns-nil (x ∷ xs) = refl

turns-++ : (xs rest : List Bool) (zs more : List ℤ) → Alike xs zs → turns (xs ++ rest) (zs ++ more) ≡ turns xs zs ++ turns rest more
turns-++ [] rest [] more h = refl
turns-++ [] rest (z ∷ zs) more h = absurd h
turns-++ (x ∷ xs) rest [] more h = absurd h
turns-++ (x ∷ xs) rest (z ∷ zs) more h = ap (λ t. turn x z ∷ t) (turns-++ xs rest zs more h)

drop-turn : (c rest : List Bool) (ms : List ℕ) (ys : List ℤ) → drop (length ms) (turns (bits_at c ms ++ rest) ys) ≡ turns rest (drop (length ms) ys)
drop-turn c rest [] ys = refl
drop-turn c rest (m ∷ ms) [] = sym (turns-nil rest)
drop-turn c rest (m ∷ ms) (y ∷ ys) = drop-turn c rest ms ys

pub bits_at-alike : (c : List Bool) (ms : List ℕ) → Alike (bits_at c ms) ms
bits_at-alike c [] = tt
bits_at-alike c (m ∷ ms) = bits_at-alike c ms

-- ---- step 1
pick-turn : (b c d : Bool) (w : ℤ) → (b ≡ true → c ≡ d) → pick b (turn c w) ≡ turn d (pick b w)
pick-turn true c d w e = ap (λ t. turn t w) (e refl)
pick-turn false c d w e = turn-zero d

pub gather-turn : (c : List Bool) (i : ℕ) (ms : List ℕ) (ws : List ℤ) → gather i ms (turns (bits_at c ms) ws) ≡ turn (bit c i) (gather i ms ws)
gather-turn c i ms [] = ap (gather i ms) (turns-nil (bits_at c ms)) ∙ turn-zero (bit c i)
gather-turn c i [] (w ∷ ws) = turn-zero (bit c i)
gather-turn c i (m ∷ ms) (w ∷ ws) = ap₂ ◌+ℤ◌ (pick-turn (eqb m i) (bit c m) (bit c i) w (λ e. ap (bit c) (eqb-true m i e))) (gather-turn c i ms ws)
    ∙ turn-sum (bit c i) (pick (eqb m i) w) (gather i ms ws)

pub sum-turn : (c : List Bool) (cs : List (List ℕ)) (s : State) (i : ℕ) → sum_at (edges cs) (turn_state c cs s) i ≡ turn (bit c i) (sum_at (edges cs) s i)
sum-turn c cs s i = ap (gather i (edges cs)) (minus-turn (signs c cs) s.copies s.offsets ∙ ap (λ t. turns t (minus s.copies s.offsets)) (signs-is c cs))
    ∙ gather-turn c i (edges cs) (minus s.copies s.offsets)

total-turn : (c : List Bool) (cs : List (List ℕ)) (l : List ℤ) (s : State) (i : ℕ) → total (edges cs) (turns c l) (turn_state c cs s) i ≡ turn (bit c i) (total (edges cs) l s i)
unfolding total
total-turn c cs l s i = ap₂ ◌+ℤ◌ (at-turns c l i) (sum-turn c cs s i) ∙ turn-sum (bit c i) (at l i) (sum_at (edges cs) s i)

pub divided-turn : (c : Bool) (t : ℤ) (d : ℕ) → divided (turn c t) d ≡ turn c (divided t d)
divided-turn true t d = divided-neg t d
divided-turn false t d = refl

pub spin-turn : (u : ℕ) (c : List Bool) (cs : List (List ℕ)) (l : List ℤ) (s : State) (i : ℕ)
    → spin u (edges cs) (turns c l) (turn_state c cs s) i ≡ turn (bit c i) (spin u (edges cs) l s i)
unfolding spin
spin-turn u c cs l s i = ap (clip_z u) (ap (λ t. divided t (degree_of i (edges cs))) (total-turn c cs l s i) ∙ divided-turn (bit c i) (total (edges cs) l s i) (degree_of i (edges cs)))
    ∙ clip-turn u (bit c i) (divided (total (edges cs) l s i) (degree_of i (edges cs)))

-- ---- steps 2 and 3
abbrev pub turn_steps : List Bool → List (List ℕ) → List Step → List Step
turn_steps c [] ss = ss
turn_steps c (ms ∷ cs) [] = []
turn_steps c (ms ∷ cs) (s ∷ ss) = turn_step (bits_at c ms) s ∷ turn_steps c cs ss

-- from spins g that are the spins f turned
module _ (u : ℕ) (c : List Bool) (f g : ℕ → ℤ) (fg : (i : ℕ) → g i ≡ turn (bit c i) (f i)) where
  values-turn : (rest : List Bool) (ms : List ℕ) (ys : List ℤ) → values g ms (turns (bits_at c ms ++ rest) ys) ≡ turns (bits_at c ms) (values f ms ys)
  values-turn rest [] ys = refl
  values-turn rest (m ∷ ms) [] = ap₂ ◌∷◌ (fg m) (ap (values g ms) (sym (turns-nil (bits_at c ms ++ rest))) ∙ values-turn rest ms [])
  values-turn rest (m ∷ ms) (y ∷ ys) = ap₂ ◌∷◌ (ap (λ t. t +ℤ turn (bit c m) y) (fg m) ∙ turn-sum (bit c m) (f m) y) (values-turn rest ms ys)

  pub pass-turn : (cs : List (List ℕ)) (ys : List ℤ) → Even c cs → pass u g cs (turns (signs c cs) ys) ≡ turn_steps c cs (pass u f cs ys)
  pass-turn [] ys h = refl
  pass-turn (ms ∷ cs) ys h = ap₂ ◌∷◌
      (ap (step u) (values-turn (signs c cs) ms ys) ∙ step-turn u (bits_at c ms) (values f ms ys) h.0 (alike-trans (bits_at c ms) ms (values f ms ys) (bits_at-alike c ms) (values-alike f ms ys)))
      (ap (pass u g cs) (drop-turn c (signs c cs) ms ys) ∙ pass-turn cs (drop (length ms) ys) h.1)

-- ---- what a turned pass leaves
module _ (u : ℕ) (c : List Bool) where
  pub copies-turn : (cs : List (List ℕ)) (ss : List Step) → AllLaid u cs ss → copies_in (turn_steps c cs ss) ≡ turns (signs c cs) (copies_in ss)
  copies-turn [] [] h = refl
  copies-turn [] (s ∷ ss) h = absurd h
  copies-turn (ms ∷ cs) [] h = absurd h
  copies-turn (ms ∷ cs) (s ∷ ss) h = ap (λ t. turns (bits_at c ms) s.copies ++ t) (copies-turn cs ss h.1)
      ∙ sym (turns-++ (bits_at c ms) (signs c cs) s.copies (copies_in ss) (alike-trans (bits_at c ms) ms s.copies (bits_at-alike c ms) h.0.copies))

  pub offsets-turn : (cs : List (List ℕ)) (ss : List Step) → AllLaid u cs ss → offsets_in (turn_steps c cs ss) ≡ turns (signs c cs) (offsets_in ss)
  offsets-turn [] [] h = refl
  offsets-turn [] (s ∷ ss) h = absurd h
  offsets-turn (ms ∷ cs) [] h = absurd h
  offsets-turn (ms ∷ cs) (s ∷ ss) h = ap (λ t. turns (bits_at c ms) s.offsets ++ t) (offsets-turn cs ss h.1)
      ∙ sym (turns-++ (bits_at c ms) (signs c cs) s.offsets (offsets_in ss) (alike-trans (bits_at c ms) ms s.offsets (bits_at-alike c ms) h.0.offsets))

abbrev pub turn_entries : List Bool → List (List ℕ) → List Entry → List Entry
turn_entries c [] es = es
turn_entries c (ms ∷ cs) [] = []
turn_entries c (ms ∷ cs) (e ∷ es) = turn_entry (bits_at c ms) e ∷ turn_entries c cs es

pub entries-turn : (c : List Bool) (cs : List (List ℕ)) (ss : List Step) → entries_in (turn_steps c cs ss) ≡ turn_entries c cs (entries_in ss)
entries-turn c [] ss = refl
entries-turn c (ms ∷ cs) [] = refl
entries-turn c (ms ∷ cs) (s ∷ ss) = ap (λ t. turn_entry (bits_at c ms) s.entry ∷ t) (entries-turn c cs ss)

-- the depths stay
pub depths-turn : (u : ℕ) (c : List Bool) (cs : List (List ℕ)) (ss : List Step) → AllLaid u cs ss → depths_in (turn_steps c cs ss) ≡ depths_in ss
depths-turn u c [] ss h = refl
depths-turn u c (ms ∷ cs) [] h = absurd h
depths-turn u c (ms ∷ cs) (s ∷ ss) h = ap (λ t. s.depth ∷ t) (depths-turn u c cs ss h.1)
