-- A frame's run on blank buffers that are long enough for every table, and its line. Assumes nothing.
use mathlib.Core.Path.{◌≡◌, refl, sym, ◌∙◌, ap, ap₂}
use mathlib.Core.Bool.{cond}
use mathlib.Core.List.{List}
use Prim.Native.Nat.{ℕ, ◌≤◌}
use native.Mathlib.Omega.{arith}
use native.Mathlib.Nat.{le_trans}
use lib.ListN.{length, take}
use lib.IntN.{ℤ}
use Rattle.rules.specs.Limits.{max_bits, max_edges, round_limit}
use Rattle.rules.specs.Refusal.{Answer, refused, gives, must, then, buffer_short}
use Rattle.rules.specs.Bytes.{u16_at}
use Rattle.rules.specs.Table.{Table}
use Rattle.rules.specs.CodeFile.{code_file}
use Rattle.rules.specs.Sound.{Sound}
use Rattle.rules.specs.Parity.{agreement}
use Rattle.rules.specs.Input.{bits_of}
use Rattle.rules.specs.Judge.{passes}
use Rattle.rules.specs.Buffers.{by_name, Buffers, the, each, zeroed, lengths_of, needs, Part, blank, write, start_lent, fits_start, zeroing}
use Rattle.rules.specs.Run.{Status, running, certified, spent, Progress, fresh, Called, call_by, call, start_by, start}
use Rattle.rules.specs.Calls.{started_run}
use Rattle.rules.specs.Report.{certified_line, line_at, frame_line}
use Rattle.rules.proofs.AnswerLaws.{refused≢gives, gives-inj}
use Rattle.rules.proofs.Tables.{file-sound}
use Rattle.rules.proofs.CallPasses.{call_passes}
use Rattle.rules.proofs.Fresh.{zero_room, started-on}
use Rattle.rules.proofs.ReportLaws.{blank-line, refused-line, Sized, judged-sized}
use Rattle.inputs.specs.Agreed.{agreed}
use Rattle.inputs.proofs.AgreedLaws.{agreed-whole}
use Rattle.run.specs.declared.Record.{Record}
use Rattle.std.specs.Prelude.{Result, Ok, Err}
use Rattle.limits.specs.Numbers.{number_of}
use Rattle.limits.specs.declared.refusals.Refusal.{Refusal}
use Rattle.run.specs.declared.Status as declared
use Rattle.run.specs.declared.Status.TheVariants as status
use Rattle.run.specs.Reply.{progress_of, started_of}
use Rattle.decoder.specs.declared.Called as code
use Rattle.decoder.specs.Reply.{outcome_of}
use Rattle.reporting.specs.Ran.{greatest, blank_word, blank_certificate, lent_with, ran_of, ran_as, fresh_ran, line_from}

-- ---- a start with room for every table
-- it is refused for its file alone
went : Answer Table → Answer Progress
went (refused k) = refused k
went (gives t) = gives fresh

refused-inj : {A : Type 0} (j k : ℕ) → ◌≡◌ {A = Answer A} (refused j) (refused k) → j ≡ k
refused-inj j k e = cc

module _ (file : List ℕ) (b : Buffers) (h : max_edges ≤ length b.copies) (k : max_edges ≤ length b.offsets) (i : max_bits ≤ length b.sums) where
  began : (t : Table) → code_file file ≡ gives t → start file b ≡ record { answer = gives fresh; buffers = write (zeroing t) b }
  began t e = started-on file t b e (zero_room t b (le_trans (file-sound file t e).few h) (le_trans (file-sound file t e).few k) (le_trans (file-sound file t e).bits.1 i))

  stayed : (j : ℕ) → code_file file ≡ refused j → start file b ≡ record { answer = refused j; buffers = b }
  unfolding start then
  stayed j e = ap (λ a. start_by b (then a (λ t. must (fits_start t (lengths_of b)) buffer_short (gives t)))) e

  start-answer : (start file b).answer ≡ went (code_file file)
  unfolding went
  start-answer = go (code_file file) refl
    where
      go : (a : Answer Table) → code_file file ≡ a → (start file b).answer ≡ went a
      go (refused j) e = ap (λ s. s.answer) (stayed j e)
      go (gives t) e = ap (λ s. s.answer) (began t e)

  start-refused : (j : ℕ) → (start file b).answer ≡ refused j → code_file file ≡ refused j
  unfolding went
  start-refused j e = go (code_file file) (sym start-answer ∙ e)
    where
      go : (a : Answer Table) → went a ≡ refused j → a ≡ refused j
      go (refused n) q = ap refused (refused-inj n j q)
      go (gives t) q = absurd (refused≢gives (sym q))

  start-fresh : (p : Progress) → (start file b).answer ≡ gives p → p ≡ fresh
  unfolding went
  start-fresh p e = go (code_file file) (sym start-answer ∙ e)
    where
      go : (a : Answer Table) → went a ≡ gives p → p ≡ fresh
      go (refused n) q = absurd (refused≢gives q)
      go (gives t) q = sym (gives-inj fresh p q)

-- these buffers, with what a start has left of those that it was lent
abbrev pub with_started : Buffers → Buffers → Buffers
with_started b s = each (λ x. cond (zeroed x) (the x s) (the x b))

-- ---- the code's run, with room for every table's copies, offsets and sums
module _ (file : List ℕ) (l : List ℤ) (b : Buffers) (h : max_edges ≤ length b.copies) (k : max_edges ≤ length b.offsets) (i : max_bits ≤ length b.sums) where
  lends : Buffers
  lends = start_lent b.copies b.offsets b.sums

  -- a start that is lent these alone does the same to them
  same_start : with_started b (start file (start_lent b.copies b.offsets b.sums)).buffers ≡ (start file b).buffers
  unfolding lends
  same_start = go (code_file file) refl
    where
      go : (a : Answer Table) → code_file file ≡ a → with_started b (start file lends).buffers ≡ (start file b).buffers
      go (refused j) p = ap (λ x. with_started b x.buffers) (stayed file lends h k i j p) ∙ ap (λ x. x.buffers) (sym (stayed file b h k i j p))
      go (gives t) p = ap (λ x. with_started b x.buffers) (began file lends h k i t p) ∙ ap (λ x. x.buffers) (sym (began file b h k i t p))

  -- s is what a start answered, d what it left of them
  module _ (s : Result Record Refusal) (d : Buffers) (e : record { answer = started_of s; buffers = d } ≡ start file (start_lent b.copies b.offsets b.sums)) where
    answered : (a : Answer Progress) → started_of s ≡ a → (start file lends).answer ≡ a
    unfolding lends
    answered a p = ap (λ x. x.answer) (sym e) ∙ p

    pub ran-refused : (j : Refusal) (r : Record) → s ≡ Err j → progress_of r ≡ fresh
        → record { answer = refused (number_of j); rounds = r.rounds; word = b.word; certificate = b.certificate } ≡ fresh_ran file l b
    unfolding fresh_ran call lends
    ran-refused j r p q =
        let n : ℕ = number_of j in
        let bad = start-refused file lends h k i n (answered (refused n) (ap started_of p)) in
        ap (λ x. record { answer = refused n; rounds = x.rounds; word = b.word; certificate = b.certificate }) q
        ∙ ap (λ x. record { answer = refused n; rounds = 0; word = x.buffers.word; certificate = x.buffers.certificate }) (sym (stayed file b h k i n bad))
        ∙ ap (λ a. ran_of (call_by l round_limit (started_run file b) a)) (sym bad)

    pub ran-started : (r : Record) (c : Called) → s ≡ Ok r → c ≡ call file l round_limit (record { progress = progress_of r; buffers = with_started b d })
        → ran_of c ≡ fresh_ran file l b
    unfolding fresh_ran lends
    ran-started r c p q =
        ap ran_of q
        ∙ ap₂ (λ x y. ran_of (call file l round_limit (record { progress = x; buffers = y })))
        (start-fresh file lends h k i (progress_of r) (answered (gives (progress_of r)) (ap started_of p)))
        (ap (λ x. with_started b x.buffers) e ∙ same_start)

-- ---- and the line
enough : (t : Table) → Sound t → Part (needs t) greatest
enough t s = by_name (search arith)

-- the agreement of what the code takes of the word's buffer
taken-agreed : (l : List ℤ) (w : List ℕ) (n : ℕ) → Sized l (take n w) n → n ≤ max_bits → agreed l (take (length l) w) ≡ agreement n l (bits_of (take n w))
taken-agreed l w n s h =
    ap (λ k. agreed l (take k w)) s.frame ∙ agreed-whole l (take n w) (s.word ∙ sym s.frame) (omega (arith, s.frame)) ∙ ap (λ k. agreement k l (bits_of (take n w))) s.frame

module _ (file : List ℕ) (l : List ℤ) where
  run : Called
  run = call file l round_limit (started_run file (blank greatest))

  certified-sized : (t : Table) → code_file file ≡ gives t → run.answer ≡ gives certified → Sized l (take t.bits run.run.buffers.word) t.bits
  unfolding run
  certified-sized t is_file e = judged-sized file l _ _ (passes _) t is_file (call_passes file l round_limit (started_run file (blank greatest)) t is_file e)

  by_answer : (t : Table) → code_file file ≡ gives t → (a : Answer Status) → run.answer ≡ a → line_from l a (ran_of run) ≡ line_at t l run.run a
  by_answer t is_file (refused k) e = refl
  by_answer t is_file (gives running) e = refl
  by_answer t is_file (gives certified) e = ap (λ a. certified_line run.run.progress.rounds a (u16_at run.run.buffers.certificate 0))
      (taken-agreed l run.run.buffers.word t.bits (certified-sized t is_file e) (file-sound file t is_file).bits.1)
  by_answer t is_file (gives spent) e = refl

  on-refused : (k : ℕ) → code_file file ≡ refused k → run.answer ≡ refused k
  unfolding run call
  on-refused k e = ap (λ a. (call_by l round_limit (started_run file (blank greatest)) a).answer) e

  line-run : line_from l run.answer (ran_of run) ≡ frame_line file l
  unfolding run
  line-run = go (code_file file) refl
    where
      d : Called
      d = call file l round_limit (started_run file (blank greatest))

      go : (a : Answer Table) → code_file file ≡ a → line_from l d.answer (ran_of d) ≡ frame_line file l
      go (refused k) e = ap (λ a. line_from l a (ran_of d)) (on-refused k e) ∙ sym (refused-line file l k e)
      go (gives t) e = by_answer t e d.answer refl ∙ blank-line file t e l greatest (enough t (file-sound file t e))

-- ---- of what the code's run comes to: what it answered, the word and the certificate
module _ (file : List ℕ) (l : List ℤ) (d : code.Called) (w c : List ℕ) (e : ran_as d w c ≡ fresh_ran file l (lent_with blank_word blank_certificate)) where
  pub line_of : (o : Result declared.Status Refusal) → d.outcome ≡ o → line_from l (outcome_of o) (ran_as d w c) ≡ frame_line file l
  unfolding fresh_ran lent_with run
  line_of o q = ap (λ x. line_from l (outcome_of x) (ran_as d w c)) (sym q) ∙ ap (λ r. line_from l r.answer r) e ∙ line-run file l

  pub certified-short : d.outcome ≡ Ok status.Certified → length l ≤ max_bits
  unfolding fresh_ran lent_with run
  certified-short q = go (code_file file) refl
    where
      is : (call file l round_limit (started_run file (blank greatest))).answer ≡ gives certified
      is = ap (λ r. r.answer) (sym e) ∙ ap outcome_of q

      go : (a : Answer Table) → code_file file ≡ a → length l ≤ max_bits
      go (refused k) p = absurd (refused≢gives (sym (on-refused file l k p) ∙ is))
      go (gives t) p = omega (arith, (certified-sized file l t p is).frame, (file-sound file t p).bits.1)
