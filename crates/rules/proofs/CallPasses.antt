-- "Those the decoder writes pass", of a call: where a call for rounds answers certified, the judge certifies the word's first n bytes and the
-- certificate's first 4 + 10q bytes, as they stand in the buffers afterwards, on the same file and frame. Assumes nothing.
use mathlib.Core.Path.{◌≡◌, refl, sym, ◌∙◌, ap, ap₂, subst}
use mathlib.Core.Bool.{true, false≢true}
use mathlib.Core.List.{List, [], ◌∷◌}
use Prim.Native.Nat.{ℕ, ◌+◌, ◌≤◌}
use native.Mathlib.Omega.{arith}
use lib.Dec.{leb, eqb}
use borrow.Author.Tests.{eqb-true}
use lib.ListN.{length, take}
use lib.IntN.{ℤ}
use Rattle.rules.specs.Limits.{unit, frame_limit, round_limit, max_checks, certificate_length}
use Rattle.rules.specs.Refusal.{Answer, refused, gives, frame_length, frame_range, asked_too_much, buffer_short, run_ended}
use Rattle.rules.specs.Table.{Table, checks_of}
use Rattle.rules.specs.CodeFile.{code_file}
use Rattle.rules.specs.Input.{each_within, on_frame}
use Rattle.rules.specs.Step.{Entry, Step}
use Rattle.rules.specs.Round.{State, entries_in, round}
use Rattle.rules.specs.Bytes.{u16_at}
use Rattle.rules.specs.Certificate.{cuts_in, certificate_of, entries_of, certificate_in}
use Rattle.rules.specs.Scaled.{at_scale}
use Rattle.rules.specs.Judge.{passes, judge}
use Rattle.rules.specs.Buffers.{Buffers, Lengths, lengths_of, needs, fits, over, over_by, bytes_of, word_left, certificate_left}
use Rattle.rules.specs.Run.{Status, running, certified, spent, Run, state_in, iterate, is_running, admits, Called, perform, call_on, call_by, call}
use Rattle.rules.proofs.AnswerLaws.{refused≢gives, must-gives}
use Rattle.rules.proofs.Tables.{file-sound}
use Rattle.rules.proofs.Pass.{AllLaid, steps_in, steps-laid, entries-length}
use Rattle.rules.proofs.Optimal.{round-passed}
use Rattle.rules.proofs.Judged.{sole_read, judge-marked}
use Rattle.rules.proofs.Written.{certificate-length, written-scale}
use Rattle.rules.proofs.WrittenPasses.{AllProper, bytes-length, checks-written, Framed, Closes, written-passes}
use Rattle.rules.proofs.BufferLaws.{take-over}
use Rattle.rules.proofs.RoundSizes.{round-sized}
use Rattle.rules.proofs.Runs.{coming, Ends, iterate-ends}
use Rattle.rules.proofs.Lists.{answer-certified}

-- ---- the entries of a round are such as a certificate may have
pub laid-proper : (u : ℕ) (cs : List (List ℕ)) (ss : List Step) → AllLaid u cs ss → AllProper cs (entries_in ss)
laid-proper u [] [] h = tt
laid-proper u [] (s ∷ ss) h = absurd h
laid-proper u (ms ∷ cs) [] h = absurd h
laid-proper u (ms ∷ cs) (s ∷ ss) h = (h.0.proper, laid-proper u cs ss h.1)

pub round-proper : (t : Table) (l : List ℤ) (s : State) → AllProper t.checks (round t l s).entries
unfolding round
round-proper t l s = laid-proper unit t.checks (steps_in t l s) (steps-laid t l s)

round-entries : (t : Table) (l : List ℤ) (s : State) → length (round t l s).entries ≡ checks_of t
unfolding round
round-entries t l s = entries-length unit t.checks (steps_in t l s) (steps-laid t l s)

-- q stands in front of what is written
entries-front : (es : List Entry) (old : List ℕ) → entries_of (over (certificate_of es) old) ≡ entries_of (certificate_of es)
unfolding certificate_of u16_at
entries-front es old = refl

-- the judge certifies what stands in these buffers, with the mark of the reduced numbers
abbrev pub PassesIn : List ℕ → List ℤ → Table → Buffers → Type 0
PassesIn file l t b = judge file l (take t.bits b.word) (certificate_in b.certificate) ≡ gives (passes (sole_read t l (certificate_in b.certificate)))

-- ---- what the last round of a certified run left
module _ (t : Table) (l : List ℤ) (q : Run) (e : Ends t l q) where
  es : List Entry
  es = (coming t l e.last).entries

  pub ended-made : 1 ≤ q.progress.rounds
  ended-made = subst (λ r. 1 ≤ r.progress.rounds) (sym e.same) (omega arith)

  pub ended-word : take t.bits q.buffers.word ≡ bytes_of e.word
  ended-word = ap (λ r. take t.bits r.buffers.word) e.same
      ∙ ap (λ o. take t.bits (over_by (word_left o) e.last.buffers.word)) e.by
      ∙ take-over t.bits (bytes_of e.word) e.last.buffers.word ((round-sized t l (state_in t e.last.buffers)).word e.word e.by)

  left-bytes : q.buffers.certificate ≡ over (certificate_of es) e.last.buffers.certificate
  unfolding es
  left-bytes = ap (λ r. r.buffers.certificate) e.same ∙ ap (λ o. over_by (certificate_left o (coming t l e.last).entries) e.last.buffers.certificate) e.by

  count : checks_of t ≤ max_checks → entries_of q.buffers.certificate ≡ cuts_in es
  unfolding es
  count h = ap entries_of left-bytes ∙ entries-front (coming t l e.last).entries e.last.buffers.certificate
      ∙ checks-written (coming t l e.last).entries (round-entries t l (state_in t e.last.buffers)) h

  ended-certificate : checks_of t ≤ max_checks → certificate_in q.buffers.certificate ≡ certificate_of es
  ended-certificate h = ap₂ (λ n c. take (certificate_length n) c) (count h) left-bytes
      ∙ take-over (certificate_length (cuts_in es)) (certificate_of es) e.last.buffers.certificate (certificate-length es)

  -- at scale 1
  pub ended-scale : checks_of t ≤ max_checks → at_scale 1 (certificate_in q.buffers.certificate) ≡ certificate_in q.buffers.certificate
  ended-scale h = ap (at_scale 1) (ended-certificate h) ∙ written-scale es ∙ sym (ended-certificate h)

  closes : Closes t l e.word es
  unfolding es
  closes = record {
    long = sym (bytes-length e.word) ∙ (round-sized t l (state_in t e.last.buffers)).word e.word e.by;
    proper = round-proper t l (state_in t e.last.buffers);
    small = e.moves.small;
    passed = round-passed t l (state_in t e.last.buffers) e.word e.by;
  }

  pub ended-passes : (file : List ℕ) → code_file file ≡ gives t → Framed t l → PassesIn file l t q.buffers
  ended-passes file is_file f = judge-marked file l _ _ t is_file _
      (ap₂ (judge file l) ended-word (ended-certificate (file-sound file t is_file).checks.1) ∙ written-passes file t is_file l e.word es f closes)

-- ---- a call that is not refused has passed these tests
pub record Admitted (t : Table) (l : List ℤ) (r : Run) : Type 0 where
  pub frame : Framed t l
  pub begins : r.progress.status ≡ running

pub running-is : (s : Status) → is_running s ≡ true → s ≡ running
running-is running e = refl
running-is certified e = absurd (false≢true e)
running-is spent e = absurd (false≢true e)

pub admitted : (t : Table) (l : List ℤ) (v : ℕ) (n : Lengths) (r : Run) → admits t l v n r ≡ gives tt → Admitted t l r
unfolding admits on_frame
admitted t l v n r e =
    let a = must-gives (eqb (length l) t.bits) frame_length _ tt e in
    let b = must-gives (each_within frame_limit l) frame_range _ tt a.1 in
    let c = must-gives (leb v round_limit) asked_too_much _ tt b.1 in
    let d = must-gives (fits (needs t) n) buffer_short _ tt c.1 in
    let f = must-gives (is_running r.progress.status) run_ended _ tt d.1 in
    record { frame = record { size = eqb-true (length l) t.bits a.0; range = b.0 }; begins = running-is r.progress.status f.0 }

-- ---- the call
-- what holds of every run that ends certified holds of a call that answers so
module _ (file : List ℕ) (l : List ℤ) (v : ℕ) (r : Run) (t : Table) (is_file : code_file file ≡ gives t) where
  pub call_ends : (P : Called → Type 0) → ((d : Called) → Admitted t l r → Ends t l d.run → P d) → (call file l v r).answer ≡ gives certified → P (call file l v r)
  unfolding call call_on
  call_ends P f h = subst P (sym is) (go (admits t l v (lengths_of r.buffers) r) refl (ap (λ c. c.answer) (sym is) ∙ h))
    where
      is : call_by l v r (code_file file) ≡ call_on t l v (lengths_of r.buffers) r
      is = ap (call_by l v r) is_file

      go : (a : Answer (Unit {0})) → admits t l v (lengths_of r.buffers) r ≡ a → (perform t l v r a).answer ≡ gives certified → P (perform t l v r a)
      go (refused k) e h = absurd (refused≢gives h)
      go (gives u) e h =
          let q = iterate t l v r in
          let a = admitted t l v (lengths_of r.buffers) r e in
          f _ a (iterate-ends t l v r a.begins (answer-certified q.progress.status q.progress.rounds (r.progress.rounds + v) h))

pub call_passes : (file : List ℕ) (l : List ℤ) (v : ℕ) (r : Run) (t : Table) → code_file file ≡ gives t → (call file l v r).answer ≡ gives certified → PassesIn file l t (call file l v r).run.buffers
call_passes file l v r t is_file = call_ends file l v r t is_file (λ d. PassesIn file l t d.run.buffers) (λ d a e. ended-passes t l d.run e file is_file a.frame)
