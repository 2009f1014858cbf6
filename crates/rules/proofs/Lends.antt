-- A call that is lent parts of longer buffers does to the whole what it would do if it were lent the whole, or is refused alike. Assumes nothing.
use mathlib.Core.Path.{◌≡◌, refl, sym, ◌∙◌, ap, ap₂, subst}
use mathlib.Core.Bool.{Bool, true, false, cond, true≢false}
use mathlib.Core.List.{List, [], ◌∷◌}
use Prim.Native.Nat.{ℕ, zero, suc, ◌+◌}
use lib.Dec.{leb, eqb}
use lib.ListN.{length}
use lib.IntN.{ℤ}
use Rattle.rules.specs.Limits.{frame_limit, round_limit}
use Rattle.rules.specs.Refusal.{Answer, refused, gives, must, frame_length, frame_range, asked_too_much, buffer_short, run_ended, run_damaged}
use Rattle.rules.specs.Table.{Table, edges}
use Rattle.rules.specs.CodeFile.{code_file}
use Rattle.rules.specs.Input.{each_within, on_frame}
use Rattle.rules.specs.Round.{round}
use Rattle.rules.specs.Buffers.{Lengths, lengths_of, needs, fits, Part}
use Rattle.rules.specs.Run.{Status, running, certified, spent, Run, moved, too_large, next_by, state_in, next, iterate}
use Rattle.rules.specs.Run.{is_running, sound, admits, Called, refused_at, perform, ran_on, call_on, call_by, call}
use Rattle.rules.specs.Calls.{Call, lend, give_back, lent_call, call_list}
use Rattle.rules.proofs.AnswerLaws.{must-false, must-gives}
use Rattle.rules.proofs.BufferLaws.{part-trans, fits-part, lengths-part, over-same, past-lengths, over-parts}
use Rattle.rules.proofs.RoundSizes.{round-sized, state-part, sums_part, written-part}
use Rattle.rules.proofs.Runs.{coming, held_start, iterate-held}

-- ---- lending, and a round
run-eq : {r q : Run} → r.progress ≡ q.progress → r.buffers ≡ q.buffers → r ≡ q
run-eq p e = λ i. record { progress = p i; buffers = e i }

module _ (t : Table) (l : List ℤ) (n : Lengths) (h : Part (needs t) n) where
  coming-lend : (r : Run) → coming t l (lend n r) ≡ coming t l r
  coming-lend r = ap (round t l) (state-part t n r.buffers h)

  moved-lend : (r : Run) → moved (lend n r) (coming t l (lend n r)) ≡ lend n (moved r (coming t l r))
  moved-lend r = ap (moved (lend n r)) (coming-lend r) ∙ run-eq refl (written-part t (coming t l r) n r.buffers (round-sized t l (state_in t r.buffers)) h)

  next-lend : (r : Run) → next t l (lend n r) ≡ lend n (next t l r)
  unfolding next
  next-lend r = go r.progress.status
    where
      by_size : (b c : Bool) → c ≡ b → cond c (lend n r) (moved (lend n r) (coming t l (lend n r))) ≡ lend n (cond b r (moved r (coming t l r)))
      by_size true c e = ap (λ x. cond x (lend n r) (moved (lend n r) (coming t l (lend n r)))) e
      by_size false c e = ap (λ x. cond x (lend n r) (moved (lend n r) (coming t l (lend n r)))) e ∙ moved-lend r

      go : (s : Status) → next_by s (lend n r) (coming t l (lend n r)) ≡ lend n (next_by s r (coming t l r))
      go running = by_size (too_large (coming t l r).entries) (too_large (coming t l (lend n r)).entries) (ap (λ d. too_large d.entries) (coming-lend r))
      go certified = refl
      go spent = refl

  pub iterate-lend : (k : ℕ) (r : Run) → iterate t l k (lend n r) ≡ lend n (iterate t l k r)
  unfolding iterate
  iterate-lend zero r = refl
  iterate-lend (suc k) r = ap (iterate t l k) (next-lend r) ∙ iterate-lend k (next t l r)

-- ---- and a call
called-eq : {a b : Answer Status} {r q : Run} → a ≡ b → r ≡ q → ◌≡◌ {A = Called} (record { answer = a; run = r }) (record { answer = b; run = q })
called-eq p e = λ i. record { answer = p i; run = e i }

-- a refused call gives back what it was lent
refused-back : (k : ℕ) (n : Lengths) (r : Run) → give_back (refused_at k (lend n r)) r ≡ refused_at k r
refused-back k n r = called-eq refl (run-eq refl (over-same n r.buffers))

-- parts that are long enough
module _ (t : Table) (l : List ℤ) (n : Lengths) (h : Part (needs t) n) (k : ℕ) (r : Run) where
  ran-back : Part n (lengths_of r.buffers) → give_back (perform t l k (lend n r) (gives tt)) r ≡ perform t l k r (gives tt)
  ran-back p = ap (λ q. give_back (ran_on (r.progress.rounds + k) q) r) (iterate-lend t l n h k r)
      ∙ called-eq refl (run-eq refl (over-parts (needs t) n (iterate t l k r).buffers r.buffers h p
      (iterate-held t l k r.buffers r (held_start t r (part-trans (needs t) n (lengths_of r.buffers) h p))).past))

  -- the same refusals, for the state and the sums read are the same
  admits-lend : admits t l k n (lend n r) ≡ admits t l k n r
  unfolding admits
  admits-lend = ap₂ (λ s x. on_frame t l (must (leb k round_limit) asked_too_much (must (fits (needs t) n) buffer_short
      (must (is_running r.progress.status) run_ended (must (sound t.bits (edges t.checks) r.progress.rounds s x) run_damaged (gives tt))))))
      (state-part t n r.buffers h) (sums_part t n r.buffers h)

-- parts that are too short: refused, whatever the run
admits-short : (t : Table) (l : List ℤ) (k : ℕ) (n : Lengths) (r q : Run) → fits (needs t) n ≡ false → admits t l k n r ≡ admits t l k n q
unfolding admits
admits-short t l k n r q e = ap (λ a. on_frame t l (must (leb k round_limit) asked_too_much a))
    (must-false (fits (needs t) n) buffer_short _ e ∙ sym (must-false (fits (needs t) n) buffer_short _ e))

-- which they are, too short
short-refused : (t : Table) (l : List ℤ) (k : ℕ) (n : Lengths) (r : Run) → fits (needs t) n ≡ false → admits t l k n r ≡ gives tt → ⊥
unfolding admits on_frame
short-refused t l k n r e h =
    let size = must-gives (eqb (length l) t.bits) frame_length _ tt h in
    let range = must-gives (each_within frame_limit l) frame_range _ tt size.1 in
    let few = must-gives (leb k round_limit) asked_too_much _ tt range.1 in
    true≢false (sym (must-gives (fits (needs t) n) buffer_short _ tt few.1).0 ∙ e)

-- a call of a list
abbrev pub call_for : Table → List ℤ → Call → Run → Called
call_for t l x r = call_on t l x.wanted x.lent r

pub lent-call : (file : List ℕ) (t : Table) (l : List ℤ) (x : Call) (r : Run) → code_file file ≡ gives t → Part x.lent (lengths_of r.buffers) → lent_call file l x r ≡ call_for t l x r
unfolding lent_call call call_on
lent-call file t l x r is_file p = ap (λ a. give_back (call_by l x.wanted (lend x.lent r) a) r) is_file
    ∙ ap (λ m. give_back (perform t l x.wanted (lend x.lent r) (admits t l x.wanted m (lend x.lent r))) r) (lengths-part x.lent r.buffers p)
    ∙ by-fit (fits (needs t) x.lent) refl
  where
    n : Lengths
    n = x.lent

    by-fit : (b : Bool) → fits (needs t) n ≡ b → give_back (perform t l x.wanted (lend n r) (admits t l x.wanted n (lend n r))) r ≡ perform t l x.wanted r (admits t l x.wanted n r)
    by-fit true e = ap (λ a. give_back (perform t l x.wanted (lend n r) a) r) (admits-lend t l n (fits-part (needs t) n e) x.wanted r) ∙ go (admits t l x.wanted n r)
      where
        go : (a : Answer (Unit {0})) → give_back (perform t l x.wanted (lend n r) a) r ≡ perform t l x.wanted r a
        go (refused k) = refused-back k n r
        go (gives u) = ran-back t l n (fits-part (needs t) n e) x.wanted r p
    by-fit false e = ap (λ a. give_back (perform t l x.wanted (lend n r) a) r) (admits-short t l x.wanted n (lend n r) r e) ∙ go (admits t l x.wanted n r) refl
      where
        go : (a : Answer (Unit {0})) → admits t l x.wanted n r ≡ a → give_back (perform t l x.wanted (lend n r) a) r ≡ perform t l x.wanted r a
        go (refused k) q = refused-back k n r
        go (gives u) q = absurd (short-refused t l x.wanted n r e q)

-- ---- a list of calls
-- each call is lent parts of what there is
abbrev pub AllPart : Lengths → List Call → Type 0
AllPart n [] = Unit {0}
AllPart n (x ∷ xs) = Part x.lent n × AllPart n xs

abbrev pub calls_on : Table → List ℤ → List Call → Run → List Called
calls_on t l [] r = []
calls_on t l (x ∷ xs) r = call_for t l x r ∷ calls_on t l xs (call_for t l x r).run

-- a call keeps the lengths
call-lengths : (t : Table) (l : List ℤ) (x : Call) (r : Run) → Part x.lent (lengths_of r.buffers) → lengths_of (call_for t l x r).run.buffers ≡ lengths_of r.buffers
unfolding call_on
call-lengths t l x r p = go (admits t l x.wanted x.lent r) refl
  where
    by-fit : (b : Bool) → fits (needs t) x.lent ≡ b → admits t l x.wanted x.lent r ≡ gives tt → lengths_of (iterate t l x.wanted r).buffers ≡ lengths_of r.buffers
    by-fit true e q = past-lengths (needs t) (iterate t l x.wanted r).buffers r.buffers
        (iterate-held t l x.wanted r.buffers r (held_start t r (part-trans (needs t) x.lent (lengths_of r.buffers) (fits-part (needs t) x.lent e) p))).past
    by-fit false e q = absurd (short-refused t l x.wanted x.lent r e q)

    go : (a : Answer (Unit {0})) → admits t l x.wanted x.lent r ≡ a → lengths_of (perform t l x.wanted r a).run.buffers ≡ lengths_of r.buffers
    go (refused k) q = refl
    go (gives u) q = by-fit (fits (needs t) x.lent) refl q

pub lent-list : (file : List ℕ) (t : Table) (l : List ℤ) (xs : List Call) (r : Run) → code_file file ≡ gives t → AllPart (lengths_of r.buffers) xs → call_list file l xs r ≡ calls_on t l xs r
lent-list file t l [] r is_file p = refl
lent-list file t l (x ∷ xs) r is_file p = ap₂ ◌∷◌ here (ap (λ d. call_list file l xs d.run) here
    ∙ lent-list file t l xs (call_for t l x r).run is_file (subst (λ n. AllPart n xs) (sym (call-lengths t l x r p.0)) p.1))
  where
    here : lent_call file l x r ≡ call_for t l x r
    here = lent-call file t l x r is_file p.0
