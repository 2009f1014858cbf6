-- A run round by round: it stays or it moves and counts; and the limits of copies, offsets and multipliers, so that 43 and 44 never meet a run that
-- was sound. Assumes nothing.
use mathlib.Core.Path.{◌≡◌, refl, sym, ◌∙◌, ap, ap₂, subst}
use mathlib.Core.Bool.{Bool, true, false, cond, ◌&&◌, ◌||◌}
use mathlib.Core.Logic.{◌⊎◌, inl, inr}
use mathlib.Core.List.{List, [], ◌∷◌}
use mathlib.Core.Option.{Option, some, none}
use Prim.Native.Nat.{ℕ, zero, suc, ◌+◌, ◌*◌, ◌^◌, ◌≤◌, ◌<◌}
use native.Mathlib.Omega.{arith}
use native.Mathlib.Nat.{zero-add, suc-add, le_trans}
use lib.Dec.{leb, ltb, eqb}
use lib.ListN.{length}
use borrow.Author.Tests.{leb-false, ltb-true, le-ltb, lt-ltb}
use lib.IntN.{ℤ}
use Rattle.integers.specs.Linear.{Within}
use Rattle.integers.specs.Clip.{clip-within}
use Rattle.integers.specs.Sum.{AllWithin}
use Rattle.rules.specs.Limits.{unit, frame_limit, round_limit, offset_per_round, step_limit, max_multiplier}
use Rattle.rules.specs.Refusal.{Answer, refused, gives, frame_length, frame_range, asked_too_much, buffer_short, run_ended, run_damaged}
use Rattle.rules.specs.Table.{Table, edges}
use Rattle.rules.specs.CodeFile.{code_file}
use Rattle.rules.specs.Input.{each_within, on_frame}
use Rattle.rules.specs.Step.{Entry}
use Rattle.rules.specs.Round.{State, spin, offsets_in, entries_in, sums_of, Round, round}
use Rattle.rules.specs.Buffers.{Buffers, Lengths, lengths_of, needs, fits, multiplier_of, Part, over_by, word_left, certificate_left}
use Rattle.rules.specs.Run.{Status, running, certified, spent, Run, status_at, moved, too_large, next_by, state_in, sums_in, true_sums, next, iterate, same, limited, sound, sound_run, Safe, written}
use Rattle.rules.specs.Run.{is_running, admits, Called, perform, call_on, call_by, call}
use Rattle.rules.proofs.Pass.{spins_in, steps_in, steps-laid, copies-within, offsets-within, AtMost, multipliers-within}
use Rattle.rules.proofs.RoundSizes.{round-sized, state-written, sums-written, written-past}
use Rattle.rules.proofs.Basics.{and_both}
use Rattle.rules.proofs.AnswerLaws.{refused≢gives, must-gives}
use Rattle.rules.proofs.RangeLaws.{each_all, all-each, same-equal, same-is}
use Rattle.rules.proofs.BufferLaws.{AllPast, all-past-refl, all-past-trans, past-lengths}

-- the round that comes next
abbrev pub coming : Table → List ℤ → Run → Round
coming t l r = round t l (state_in t r.buffers)

-- ---- it stays, or it moves and counts
pub record Moves (t : Table) (l : List ℤ) (r : Run) : Type 0 where
  pub is_running : r.progress.status ≡ running
  pub small : too_large (coming t l r).entries ≡ false
  pub is : next t l r ≡ moved r (coming t l r)

pub next-cases : (t : Table) (l : List ℤ) (r : Run) → (next t l r ≡ r) ⊎ Moves t l r
unfolding next
next-cases t l r = go r.progress.status refl (too_large (coming t l r).entries) refl
  where
    by : (s : Status) → r.progress.status ≡ s → next t l r ≡ next_by s r (coming t l r)
    by s p = ap (λ x. next_by x r (coming t l r)) p

    go : (s : Status) → r.progress.status ≡ s → (b : Bool) → too_large (coming t l r).entries ≡ b → (next t l r ≡ r) ⊎ Moves t l r
    go running p true e = inl (by running p ∙ ap (λ b. cond b r (moved r (coming t l r))) e)
    go running p false e = inr (record { is_running = p; small = e; is = by running p ∙ ap (λ b. cond b r (moved r (coming t l r))) e })
    go certified p b e = inl (by certified p)
    go spent p b e = inl (by spent p)

-- what holds of a run and is kept by each round holds ever after
pub iterate-keeps : (t : Table) (l : List ℤ) (P : Run → Type 0) → ((r : Run) → Moves t l r → P r → P (moved r (coming t l r))) → (k : ℕ) (r : Run) → P r → P (iterate t l k r)
unfolding iterate
iterate-keeps t l P f zero r p = p
iterate-keeps t l P f (suc k) r p = iterate-keeps t l P f k (next t l r) (go (next-cases t l r))
  where
    go : (next t l r ≡ r) ⊎ Moves t l r → P (next t l r)
    go (inl e) = subst P (sym e) p
    go (inr m) = subst P (sym m.is) (f r m p)

pub ended-stays : (t : Table) (l : List ℤ) (r : Run) → (r.progress.status ≡ running → ⊥) → next t l r ≡ r
unfolding next
ended-stays t l r h = go r.progress.status refl
  where
    go : (s : Status) → r.progress.status ≡ s → next_by s r (coming t l r) ≡ r
    go running e = absurd (h e)
    go certified e = refl
    go spent e = refl

pub iterate-stays : (t : Table) (l : List ℤ) (k : ℕ) (r : Run) → next t l r ≡ r → iterate t l k r ≡ r
unfolding iterate
iterate-stays t l zero r e = refl
iterate-stays t l (suc k) r e = ap (iterate t l k) e ∙ iterate-stays t l k r e

pub iterate-plus : (t : Table) (l : List ℤ) (j k : ℕ) (r : Run) → iterate t l (j + k) r ≡ iterate t l k (iterate t l j r)
unfolding iterate
iterate-plus t l zero k r = ap (λ n. iterate t l n r) (zero-add k)
iterate-plus t l (suc j) k r = ap (λ n. iterate t l n r) (suc-add j k) ∙ iterate-plus t l j k (next t l r)

pub running≢certified : running ≡ certified → ⊥
running≢certified e = let z : ◌≡◌ {A = ℕ} 0 1 = cc in omega arith

pub spent≢certified : spent ≡ certified → ⊥
spent≢certified e = let z : ◌≡◌ {A = ℕ} 0 1 = cc in omega arith

pub spent≢running : spent ≡ running → ⊥
spent≢running e = let z : ◌≡◌ {A = ℕ} 0 1 = cc in omega arith

-- ---- the buffers of a run keep their lengths, and what is past the stated ones
pub record Held (t : Table) (b : Buffers) (r : Run) : Type 0 where
  pub past : AllPast (needs t) r.buffers b
  pub long : Part (needs t) (lengths_of r.buffers)

pub held_start : (t : Table) (r : Run) → Part (needs t) (lengths_of r.buffers) → Held t r.buffers r
held_start t r h = record { past = all-past-refl (needs t) r.buffers; long = h }

held_moved : (t : Table) (l : List ℤ) (b : Buffers) (r : Run) → Held t b r → Held t b (moved r (coming t l r))
held_moved t l b r h = record {
  past = all-past-trans (needs t) (written (coming t l r) r.buffers) r.buffers b p h.past;
  long = subst (Part (needs t)) (sym (past-lengths (needs t) (written (coming t l r) r.buffers) r.buffers p)) h.long;
}
  where
    p : AllPast (needs t) (written (coming t l r) r.buffers) r.buffers
    p = written-past t (coming t l r) r.buffers (round-sized t l (state_in t r.buffers)) h.long

pub iterate-held : (t : Table) (l : List ℤ) (k : ℕ) (b : Buffers) (r : Run) → Held t b r → Held t b (iterate t l k r)
iterate-held t l k b r h = iterate-keeps t l (Held t b) (λ q m. held_moved t l b q) k r h

-- ---- 43's limits hold before every round of a run that they held of at first
pub spin-within : (u : ℕ) (es : List ℕ) (l : List ℤ) (s : State) (i : ℕ) → Within u (spin u es l s i)
unfolding spin
spin-within u es l s i = clip-within u _

-- no word, no certificate
pub uncertified : (k : ℕ) → status_at k none ≡ certified → ⊥
uncertified k = go (leb round_limit k)
  where
    go : (b : Bool) → cond b spent running ≡ certified → ⊥
    go true e = spent≢certified e
    go false e = running≢certified e

-- ---- a certified run was certified by its last round
pub record Ends (t : Table) (l : List ℤ) (q : Run) : Type 0 where
  pub last : Run
  pub moves : Moves t l last
  pub same : q ≡ moved last (coming t l last)
  pub word : List Bool
  pub by : (coming t l last).word ≡ some word

-- and until then its word and certificate stayed as they were in b
pub record Untouched (b : Buffers) (r : Run) : Type 0 where
  pub word : r.buffers.word ≡ b.word
  pub certificate : r.buffers.certificate ≡ b.certificate

pub record Kept (t : Table) (l : List ℤ) (b : Buffers) (q : Run) : Type 0 where
  pub stays : (q.progress.status ≡ certified → ⊥) → Untouched b q
  pub ends : q.progress.status ≡ certified → Ends t l q
  pub before : (e : q.progress.status ≡ certified) → Untouched b (ends e).last

kept-moved : (t : Table) (l : List ℤ) (b : Buffers) (r : Run) → Moves t l r → Kept t l b r → Kept t l b (moved r (coming t l r))
kept-moved t l b r m h = go (coming t l r).word refl
  where
    here : Untouched b r
    here = h.stays (λ e. running≢certified (sym m.is_running ∙ e))

    go : (o : Option (List Bool)) → (coming t l r).word ≡ o → Kept t l b (moved r (coming t l r))
    go none p =
        let not : (moved r (coming t l r)).progress.status ≡ certified → ⊥ = λ q. uncertified (suc r.progress.rounds) (ap (status_at (suc r.progress.rounds)) (sym p) ∙ q) in
        record {
          stays = λ f. record {
            word = ap (λ o. over_by (word_left o) r.buffers.word) p ∙ here.word;
            certificate = ap (λ o. over_by (certificate_left o (coming t l r).entries) r.buffers.certificate) p ∙ here.certificate;
          };
          ends = λ q. absurd (not q);
          before = λ q. absurd (not q);
        }
    go (some w) p = record {
      stays = λ f. absurd (f (ap (status_at (suc r.progress.rounds)) p));
      ends = λ q. record { last = r; moves = m; same = refl; word = w; by = p };
      before = λ q. here;
    }

pub iterate-kept : (t : Table) (l : List ℤ) (k : ℕ) (r : Run) → r.progress.status ≡ running → Kept t l r.buffers (iterate t l k r)
iterate-kept t l k r e = iterate-keeps t l (Kept t l r.buffers) (kept-moved t l r.buffers) k r (record {
  stays = λ f. record { word = refl; certificate = refl };
  ends = λ p. absurd (running≢certified (sym e ∙ p));
  before = λ p. absurd (running≢certified (sym e ∙ p));
})

pub iterate-ends : (t : Table) (l : List ℤ) (k : ℕ) (r : Run) → r.progress.status ≡ running → (iterate t l k r).progress.status ≡ certified → Ends t l (iterate t l k r)
iterate-ends t l k r e = (iterate-kept t l k r e).ends

status-early : (k : ℕ) (o : Option (List Bool)) → status_at k o ≡ running → k < round_limit
status-early k none e = go (leb round_limit k) refl e
  where
    go : (b : Bool) → leb round_limit k ≡ b → cond b spent running ≡ running → k < round_limit
    go true p q = absurd (spent≢running q)
    go false p q = leb-false round_limit k p
status-early k (some w) e = absurd (running≢certified (sym e))

more-rounds : (k : ℕ) → unit + offset_per_round * k + unit ≡ offset_per_round * suc k
more-rounds k = omega arith

round-copies : (t : Table) (l : List ℤ) (s : State) → AllWithin unit (round t l s).state.copies
unfolding round
round-copies t l s = copies-within unit t.checks (steps_in t l s) (steps-laid t l s)

round-offsets : (t : Table) (l : List ℤ) (s : State) (k : ℕ) → AllWithin (offset_per_round * k) s.offsets → AllWithin (offset_per_round * suc k) (round t l s).state.offsets
unfolding round
round-offsets t l s k h = subst (λ m. AllWithin m (offsets_in (steps_in t l s))) (more-rounds k)
    (offsets-within unit (offset_per_round * k) (spins_in t l s) (spin-within unit (edges t.checks) l s) t.checks s.offsets h)

-- a round leaves the sums of what it leaves
pub round-sums : (t : Table) (l : List ℤ) (s : State) → (round t l s).sums ≡ sums_of t.bits (edges t.checks) (round t l s).state
unfolding round
round-sums t l s = refl

safe-moved : (t : Table) (l : List ℤ) (r : Run) → Safe t r → Safe t (moved r (coming t l r))
safe-moved t l r h = record {
  copies = subst (λ s. AllWithin unit s.copies) (sym here) (round-copies t l (state_in t r.buffers));
  offsets = subst (λ s. AllWithin (offset_per_round * suc r.progress.rounds) s.offsets) (sym here) (round-offsets t l (state_in t r.buffers) r.progress.rounds h.offsets);
  sums = sums-written t (coming t l r) r.buffers (round-sized t l (state_in t r.buffers)) ∙ round-sums t l (state_in t r.buffers)
      ∙ ap (sums_of t.bits (edges t.checks)) (sym here);
  early = status-early (suc r.progress.rounds) (coming t l r).word;
}
  where
    here : state_in t (written (coming t l r) r.buffers) ≡ (coming t l r).state
    here = state-written t (coming t l r) r.buffers (round-sized t l (state_in t r.buffers))

pub iterate-safe : (t : Table) (l : List ℤ) (k : ℕ) (r : Run) → Safe t r → Safe t (iterate t l k r)
iterate-safe t l k r h = iterate-keeps t l (Safe t) (λ q m. safe-moved t l q) k r h

-- ---- a multiplier never exceeds 2U and the greatest offset, 8,388,608, in a resumed run too
at_most : (a b : ℕ) (es : List Entry) → a ≤ b → AtMost a es → AtMost b es
at_most a b [] h k = tt
at_most a b (e ∷ es) h k = (le_trans k.0 h, at_most a b es h k.1)

pub multipliers-limit : (t : Table) (l : List ℤ) (s : State) (k : ℕ) → k < round_limit → AllWithin (offset_per_round * k) s.offsets → AtMost step_limit (round t l s).entries
unfolding round
multipliers-limit t l s k e h = at_most (unit + (unit + offset_per_round * k)) step_limit (entries_in (steps_in t l s)) (low k e)
    (multipliers-within unit (offset_per_round * k) (spins_in t l s) (spin-within unit (edges t.checks) l s) t.checks s.offsets h (below k e))
  where
    low : (k : ℕ) → k < round_limit → unit + (unit + offset_per_round * k) ≤ step_limit
    low k h = omega arith

    below : (k : ℕ) → k < round_limit → unit + (unit + offset_per_round * k) ≤ 2 ^ 24
    below k h = omega arith

not-large : (es : List Entry) → AtMost max_multiplier es → too_large es ≡ false
not-large [] h = refl
not-large (e ∷ es) h = ap₂ ◌||◌ (le-ltb max_multiplier (multiplier_of e) h.0) (not-large es h.1)

-- so 44 never meets it
pub never-44 : (t : Table) (l : List ℤ) (r : Run) → Safe t r → r.progress.status ≡ running → too_large (coming t l r).entries ≡ false
never-44 t l r h e = not-large (coming t l r).entries (at_most step_limit max_multiplier (coming t l r).entries (omega arith)
    (multipliers-limit t l (state_in t r.buffers) r.progress.rounds (h.early e) h.offsets))

pub safe-moves : (t : Table) (l : List ℤ) (r : Run) → Safe t r → r.progress.status ≡ running → next t l r ≡ moved r (coming t l r)
unfolding next
safe-moves t l r h e = ap (λ s. next_by s r (coming t l r)) e ∙ ap (λ b. cond b r (moved r (coming t l r))) (never-44 t l r h e)

-- and 43 does not either
pub never-43 : (t : Table) (r : Run) → Safe t r → r.progress.status ≡ running → sound_run t r ≡ true
unfolding limited sound
never-43 t r h e = ap₂ ◌&&◌
    (ap₂ ◌&&◌ (ap₂ ◌&&◌ (lt-ltb r.progress.rounds round_limit (h.early e)) (all-each unit (state_in t r.buffers).copies h.copies))
    (all-each (offset_per_round * r.progress.rounds) (state_in t r.buffers).offsets h.offsets))
    (same-equal h.sums)

-- ---- what 43 lets pass is safe
pub sound-early : (t : Table) (r : Run) → sound_run t r ≡ true → r.progress.rounds < round_limit
unfolding sound limited
sound-early t r h =
    let k = r.progress.rounds in
    let s = state_in t r.buffers in
    let p = and_both (limited k s) (same (sums_in t r.buffers) (true_sums t r.buffers)) h in
    let q = and_both (ltb k round_limit && each_within unit s.copies) (each_within (offset_per_round * k) s.offsets) p.0 in
    ltb-true k round_limit (and_both (ltb k round_limit) (each_within unit s.copies) q.0).0

pub sound-safe : (t : Table) (r : Run) → sound_run t r ≡ true → Safe t r
unfolding sound limited
sound-safe t r h =
    let k = r.progress.rounds in
    let s = state_in t r.buffers in
    let p = and_both (limited k s) (same (sums_in t r.buffers) (true_sums t r.buffers)) h in
    let q = and_both (ltb k round_limit && each_within unit s.copies) (each_within (offset_per_round * k) s.offsets) p.0 in
    record {
      copies = each_all unit s.copies (and_both (ltb k round_limit) (each_within unit s.copies) q.0).1;
      offsets = each_all (offset_per_round * k) s.offsets q.1;
      sums = same-is (sums_in t r.buffers) (true_sums t r.buffers) p.1;
      early = λ e. sound-early t r h;
    }

-- ---- so the sums that a run carries are the true ones, after every round
pub sums-carried : (t : Table) (l : List ℤ) (k : ℕ) (r : Run) → sound_run t r ≡ true → sums_in t (iterate t l k r).buffers ≡ true_sums t (iterate t l k r).buffers
sums-carried t l k r h = (iterate-safe t l k r (sound-safe t r h)).sums

pub admitted-sound : (t : Table) (l : List ℤ) (v : ℕ) (n : Lengths) (r : Run) → admits t l v n r ≡ gives tt → sound_run t r ≡ true
unfolding admits on_frame
admitted-sound t l v n r h =
    let size = must-gives (eqb (length l) t.bits) frame_length _ tt h in
    let range = must-gives (each_within frame_limit l) frame_range _ tt size.1 in
    let asked = must-gives (leb v round_limit) asked_too_much _ tt range.1 in
    let room = must-gives (fits (needs t) n) buffer_short _ tt asked.1 in
    let runs = must-gives (is_running r.progress.status) run_ended _ tt room.1 in
    (must-gives (sound_run t r) run_damaged _ tt runs.1).0

-- and after every call that is not refused, on any code file, frame, record and lent buffers
pub call-sums : (file : List ℕ) (t : Table) (l : List ℤ) (v : ℕ) (r : Run) (s : Status) → code_file file ≡ gives t → (call file l v r).answer ≡ gives s
    → sums_in t (call file l v r).run.buffers ≡ true_sums t (call file l v r).run.buffers
unfolding call call_on
call-sums file t l v r s is_file e = subst (λ a. Holds (call_by l v r a)) (sym is_file) (go (admits t l v (lengths_of r.buffers) r) refl (ap (λ a. (call_by l v r a).answer) (sym is_file) ∙ e))
  where
    Holds : Called → Type 0
    Holds d = sums_in t d.run.buffers ≡ true_sums t d.run.buffers

    go : (a : Answer (Unit {0})) → admits t l v (lengths_of r.buffers) r ≡ a → (perform t l v r a).answer ≡ gives s → Holds (perform t l v r a)
    go (refused k) p q = absurd (refused≢gives q)
    go (gives tt) p q = sums-carried t l v r (admitted-sound t l v (lengths_of r.buffers) r p)
