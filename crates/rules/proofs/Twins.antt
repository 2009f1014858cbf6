-- A run and its twin on the frame negated under a codeword: alike round by round, and call by call. Assumes nothing.
use mathlib.Core.Path.{◌≡◌, refl, sym, ◌∙◌, ap, ap₂, subst}
use mathlib.Core.Bool.{Bool, true, false, cond, ◌&&◌, ◌||◌}
use mathlib.Core.List.{List, [], ◌∷◌}
use mathlib.Core.Option.{Option, some, none}
use Prim.Native.Nat.{ℕ, zero, suc, ◌+◌, ◌*◌, ◌≤◌}
use lib.Dec.{leb, ltb, eqb}
use lib.ListN.{length, take}
use lib.IntN.{ℤ, pos, negsuc, neg_ℤ, ◌-ℤ◌, nat_abs}
use Rattle.integers.specs.Linear.{lin, arith_z}
use Rattle.integers.specs.Product.{abs_neg}
use Rattle.rules.specs.Limits.{unit, frame_limit, round_limit, offset_per_round, max_multiplier}
use Rattle.rules.specs.Refusal.{Answer, refused, gives, must, asked_too_much, buffer_short, run_ended, run_damaged, frame_length, frame_range}
use Rattle.rules.specs.Table.{Table, edges, checks_of, bits_at}
use Rattle.rules.specs.Parity.{turn, plus, turns, Codeword}
use Rattle.rules.specs.Input.{each_within, on_frame}
use Rattle.rules.specs.Step.{Entry, inactive, active}
use Rattle.rules.specs.Round.{State, is_zero, sums_of, Round, round}
use Rattle.rules.specs.Buffers.{Lengths, needs, fits, over_by, word_left, multiplier_of, multipliers_of, bytes_of}
use Rattle.rules.specs.Run.{Status, running, certified, spent, Progress, Run, status_at, moved, too_large, next_by, state_in, sums_in, next, iterate}
use Rattle.rules.specs.Run.{is_running, same, limited, sound, sound_run, admits, answer_at, Called, perform, call_on}
use Rattle.rules.proofs.CutRule.{plus_o}
use Rattle.rules.proofs.Steps.{turn_entry}
use Rattle.rules.proofs.RoundTurns.{signs, turn_state, turn_entries}
use Rattle.rules.proofs.WordTurns.{turn_round, sums-turn, round-turns}
use Rattle.rules.proofs.BufferLaws.{take-over}
use Rattle.rules.proofs.RoundSizes.{Sized, round-sized, state-written, sums-written}
use Rattle.rules.proofs.Runs.{coming, uncertified}

-- a word in the one buffer, and that word plus c in the other
pub record Worded (n : ℕ) (c : List Bool) (x y : List ℕ) : Type 0 where
  pub word : List Bool
  pub here : take n x ≡ bytes_of word
  pub there : take n y ≡ bytes_of (plus c word)

pub record Twin (t : Table) (c : List Bool) (r q : Run) : Type 0 where
  pub progress : q.progress ≡ r.progress
  pub state : state_in t q.buffers ≡ turn_state c t.checks (state_in t r.buffers)
  pub sums : sums_in t q.buffers ≡ turns c (sums_in t r.buffers)
  pub multipliers : 1 ≤ r.progress.rounds → take (checks_of t) q.buffers.multipliers ≡ take (checks_of t) r.buffers.multipliers
  pub depths : 1 ≤ r.progress.rounds → take (checks_of t) q.buffers.depths ≡ take (checks_of t) r.buffers.depths
  pub words : r.progress.status ≡ certified → Worded t.bits c r.buffers.word q.buffers.word

-- ---- one round
multiplier-turn : (cs : List Bool) (e : Entry) → multiplier_of (turn_entry cs e) ≡ multiplier_of e
multiplier-turn cs inactive = refl
multiplier-turn cs (active b ts) = refl

multipliers-turn : (c : List Bool) (cs : List (List ℕ)) (es : List Entry) → multipliers_of (turn_entries c cs es) ≡ multipliers_of es
multipliers-turn c [] es = refl
multipliers-turn c (ms ∷ cs) [] = refl
multipliers-turn c (ms ∷ cs) (e ∷ es) = ap₂ ◌∷◌ (multiplier-turn (bits_at c ms) e) (multipliers-turn c cs es)

large-turn : (c : List Bool) (cs : List (List ℕ)) (es : List Entry) → too_large (turn_entries c cs es) ≡ too_large es
large-turn c [] es = refl
large-turn c (ms ∷ cs) [] = refl
large-turn c (ms ∷ cs) (e ∷ es) = ap₂ (λ a b. ltb max_multiplier a || b) (multiplier-turn (bits_at c ms) e) (large-turn c cs es)

status-turn : (c : List Bool) (k : ℕ) (o : Option (List Bool)) → status_at k (plus_o c o) ≡ status_at k o
status-turn c k none = refl
status-turn c k (some w) = refl

-- a word that is found has n bytes
abbrev Fills : ℕ → Option (List Bool) → Type 0
Fills n o = (w : List Bool) → o ≡ some w → length (bytes_of w) ≡ n

-- the word's buffer after a round
abbrev word_over : Option (List Bool) → List ℕ → List ℕ
word_over o old = over_by (word_left o) old

words-turn : (n k : ℕ) (c : List Bool) (o : Option (List Bool)) (x y : List ℕ) → Fills n o → Fills n (plus_o c o)
    → status_at k o ≡ certified → Worded n c (word_over o x) (word_over (plus_o c o) y)
words-turn n k c none x y h g e = absurd (uncertified k e)
words-turn n k c (some w) x y h g e = record { word = w; here = take-over n (bytes_of w) x (h w refl); there = take-over n (bytes_of (plus c w)) y (g (plus c w) refl) }

progress-eq : {a b : ℕ} {s t : Status} → a ≡ b → s ≡ t → ◌≡◌ {A = Progress} (record { rounds = a; status = s }) (record { rounds = b; status = t })
progress-eq p q = λ i. record { rounds = p i; status = q i }

moved-twin : (t : Table) (c : List Bool) (r q : Run) (d : Round) → Sized t d → Sized t (turn_round c t.checks d) → Twin t c r q → Twin t c (moved r d) (moved q (turn_round c t.checks d))
moved-twin t c r q d s z h = record {
  progress = progress-eq (ap (λ p. suc p.rounds) h.progress) (status-turn c (suc q.progress.rounds) d.word ∙ ap (λ p. status_at (suc p.rounds) d.word) h.progress);
  state = state-written t (turn_round c t.checks d) q.buffers z ∙ ap (turn_state c t.checks) (sym (state-written t d r.buffers s));
  sums = sums-written t (turn_round c t.checks d) q.buffers z ∙ ap (turns c) (sym (sums-written t d r.buffers s));
  multipliers = λ k. take-over (checks_of t) (multipliers_of (turn_entries c t.checks d.entries)) q.buffers.multipliers z.multipliers ∙ multipliers-turn c t.checks d.entries
      ∙ sym (take-over (checks_of t) (multipliers_of d.entries) r.buffers.multipliers s.multipliers);
  depths = λ k. take-over (checks_of t) d.depths q.buffers.depths z.depths ∙ sym (take-over (checks_of t) d.depths r.buffers.depths s.depths);
  words = λ e. words-turn t.bits (suc r.progress.rounds) c d.word r.buffers.word q.buffers.word s.word z.word e;
}

module _ (t : Table) (c : List Bool) (l : List ℤ) (k : Codeword t c) where
  coming-twin : (r q : Run) → Twin t c r q → coming t (turns c l) q ≡ turn_round c t.checks (coming t l r)
  coming-twin r q h = ap (round t (turns c l)) h.state ∙ round-turns t c l (state_in t r.buffers) k

  pub next-twin : (r q : Run) → Twin t c r q → Twin t c (next t l r) (next t (turns c l) q)
  unfolding next
  next-twin r q h = subst (λ p. Twin t c (next_by r.progress.status r (coming t l r)) (next_by p.status q (coming t (turns c l) q))) (sym h.progress) (go r.progress.status)
    where
      z : Sized t (turn_round c t.checks (coming t l r))
      z = subst (Sized t) (coming-twin r q h) (round-sized t (turns c l) (state_in t q.buffers))

      by_size : (b : Bool) → Twin t c (cond b r (moved r (coming t l r))) (cond b q (moved q (turn_round c t.checks (coming t l r))))
      by_size true = h
      by_size false = moved-twin t c r q (coming t l r) (round-sized t l (state_in t r.buffers)) z h

      go : (s : Status) → Twin t c (next_by s r (coming t l r)) (next_by s q (coming t (turns c l) q))
      go running = subst (λ d. Twin t c (next_by running r (coming t l r)) (next_by running q d)) (sym (coming-twin r q h))
          (subst (λ b. Twin t c (next_by running r (coming t l r)) (cond b q (moved q (turn_round c t.checks (coming t l r))))) (sym (large-turn c t.checks (coming t l r).entries))
          (by_size (too_large (coming t l r).entries)))
      go certified = h
      go spent = h

  pub iterate-twin : (n : ℕ) (r q : Run) → Twin t c r q → Twin t c (iterate t l n r) (iterate t (turns c l) n q)
  unfolding iterate
  iterate-twin zero r q h = h
  iterate-twin (suc n) r q h = iterate-twin n (next t l r) (next t (turns c l) q) (next-twin r q h)

-- ---- one call
size-turn : (c : Bool) (z : ℤ) → nat_abs (turn c z) ≡ nat_abs z
size-turn true z = abs_neg z
size-turn false z = refl

within-turn : (n : ℕ) (xs : List Bool) (zs : List ℤ) → each_within n (turns xs zs) ≡ each_within n zs
within-turn n [] zs = refl
within-turn n (x ∷ xs) [] = refl
within-turn n (x ∷ xs) (z ∷ zs) = ap₂ (λ a b. leb a n && b) (size-turn x z) (within-turn n xs zs)

turns-length : (xs : List Bool) (zs : List ℤ) → length (turns xs zs) ≡ length zs
turns-length [] zs = refl
turns-length (x ∷ xs) [] = refl
turns-length (x ∷ xs) (z ∷ zs) = ap suc (turns-length xs zs)

limited-turn : (k : ℕ) (c : List Bool) (cs : List (List ℕ)) (s : State) → limited k (turn_state c cs s) ≡ limited k s
unfolding limited
limited-turn k c cs s = ap₂ (λ a b. (ltb k round_limit && a) && b) (within-turn unit (signs c cs) s.copies) (within-turn (offset_per_round * k) (signs c cs) s.offsets)

neg-less : (x y : ℤ) → neg_ℤ x -ℤ neg_ℤ y ≡ neg_ℤ (x -ℤ y)
neg-less x y = simp lin (omega arith_z)

zero_turn : (c : Bool) (x y : ℤ) → is_zero (turn c x -ℤ turn c y) ≡ is_zero (x -ℤ y)
zero_turn true x y = ap is_zero (neg-less x y) ∙ zero-neg (x -ℤ y)
  where
    zero-neg : (z : ℤ) → is_zero (neg_ℤ z) ≡ is_zero z
    zero-neg (pos zero) = refl
    zero-neg (pos (suc n)) = refl
    zero-neg (negsuc n) = refl
zero_turn false x y = refl

same_turn : (c : List Bool) (xs ys : List ℤ) → same (turns c xs) (turns c ys) ≡ same xs ys
same_turn [] xs ys = refl
same_turn (c ∷ cs) [] [] = refl
same_turn (c ∷ cs) [] (y ∷ ys) = refl
same_turn (c ∷ cs) (x ∷ xs) [] = refl
same_turn (c ∷ cs) (x ∷ xs) (y ∷ ys) = ap₂ ◌&&◌ (zero_turn c x y) (same_turn cs xs ys)

-- sums that are true of a state are true when both are turned
sound-turn : (t : Table) (k : ℕ) (c : List Bool) (s : State) (xs : List ℤ) → Codeword t c
    → sound t.bits (edges t.checks) k (turn_state c t.checks s) (turns c xs) ≡ sound t.bits (edges t.checks) k s xs
unfolding sound
sound-turn t k c s xs h = ap₂ ◌&&◌ (limited-turn k c t.checks s) (ap (same (turns c xs)) (sums-turn t c s h) ∙ same_turn c xs (sums_of t.bits (edges t.checks) s))

frame-turn : {A : Type 0} (t : Table) (c : List Bool) (l : List ℤ) (a : Answer A) → on_frame t (turns c l) a ≡ on_frame t l a
unfolding on_frame
frame-turn t c l a = ap₂ (λ n b. must (eqb n t.bits) frame_length (must b frame_range a)) (turns-length c l) (within-turn frame_limit c l)

pub admits-twin : (t : Table) (c : List Bool) (l : List ℤ) (v : ℕ) (n : Lengths) (r q : Run) → Codeword t c → Twin t c r q → admits t (turns c l) v n q ≡ admits t l v n r
unfolding admits
admits-twin t c l v n r q k h = frame-turn t c l _ ∙ ap₂ (λ p b. on_frame t l (must (leb v round_limit) asked_too_much (must (fits (needs t) n) buffer_short
    (must (is_running p.status) run_ended (must b run_damaged (gives tt)))))) h.progress sounds
  where
    sounds : sound_run t q ≡ sound_run t r
    sounds = ap (λ p. sound t.bits (edges t.checks) p.rounds (state_in t q.buffers) (sums_in t q.buffers)) h.progress
        ∙ ap₂ (sound t.bits (edges t.checks) r.progress.rounds) h.state h.sums
        ∙ sound-turn t r.progress.rounds c (state_in t r.buffers) (sums_in t r.buffers) k

pub record Alike (t : Table) (c : List Bool) (x y : Called) : Type 0 where
  pub answer : y.answer ≡ x.answer
  pub run : Twin t c x.run y.run

pub call-twin : (t : Table) (c : List Bool) (l : List ℤ) (v : ℕ) (n : Lengths) (r q : Run) → Codeword t c → Twin t c r q → Alike t c (call_on t l v n r) (call_on t (turns c l) v n q)
unfolding call_on
call-twin t c l v n r q k h = subst (λ a. Alike t c (perform t l v r (admits t l v n r)) (perform t (turns c l) v q a)) (sym (admits-twin t c l v n r q k h)) (go (admits t l v n r))
  where
    i : Twin t c (iterate t l v r) (iterate t (turns c l) v q)
    i = iterate-twin t c l k v r q h

    go : (a : Answer (Unit {0})) → Alike t c (perform t l v r a) (perform t (turns c l) v q a)
    go (refused e) = record { answer = refl; run = h }
    go (gives u) = record {
      answer = ap₂ (λ p p'. answer_at p.status p.rounds (p'.rounds + v)) i.progress h.progress;
      run = i;
    }
