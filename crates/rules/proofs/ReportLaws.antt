-- A frame's line on blank buffers that are longer than they need be; and the lengths of a frame and a word that were judged. Assumes nothing.
use mathlib.Core.Path.{◌≡◌, refl, sym, ◌∙◌, ap, ap₂, subst}
use mathlib.Core.Bool.{Bool, true, false, not, ◌&&◌, ◌||◌}
use mathlib.Core.List.{List}
use Prim.Native.Nat.{ℕ, ◌+◌, ◌*◌, ◌≤◌}
use native.Mathlib.Omega.{arith}
use lib.Dec.{leb, eqb}
use borrow.Author.Tests.{le-leb, eqb-true}
use lib.ListN.{length, take, drop, replicate, length-replicate, get_or-append}
use lib.Seq.{take_all}
use lib.IntN.{ℤ}
use Rattle.rules.specs.Limits.{frame_limit, round_limit}
use Rattle.rules.specs.Refusal.{Answer, refused, gives, must, frame_length, frame_range, word_wrong, asked_too_much, buffer_short, run_ended, run_damaged}
use Rattle.rules.specs.Bytes.{u16_at}
use Rattle.rules.specs.Table.{Table}
use Rattle.rules.specs.CodeFile.{code_file}
use Rattle.rules.specs.Parity.{agreement}
use Rattle.rules.specs.Input.{each_within, on_frame, each_bit, on_word, bits_of}
use Rattle.rules.specs.Judge.{Verdict, judge}
use Rattle.rules.specs.Buffers.{word, certificate, nought, Buffers, the, Lengths, lengths_of, Part, needs, blank, part_of, over, write, zeroed, fits_start, zeroing}
use Rattle.rules.specs.Run.{Status, running, certified, spent, fresh, Run, iterate, is_running, sound_run, admits, Called, perform, call_on, call_by, call, start}
use Rattle.rules.specs.Calls.{lend, give_back, lent_call, started_run}
use Rattle.rules.specs.Report.{refused_line, certified_line, line_at, line_after, line_by, frame_line}
use Rattle.rules.proofs.Basics.{and_both}
use Rattle.rules.proofs.AnswerLaws.{must-gives, then-of}
use Rattle.rules.proofs.BufferLaws.{take-replicate, take-over, the-each, buffers-eq, true-every, part-refl, part-fits, lengths-part, past-lengths, write-past, write-part}
use Rattle.rules.proofs.Runs.{held_start, iterate-held}
use Rattle.rules.proofs.Lends.{lent-call}
use Rattle.rules.proofs.Fresh.{zeroing-small, started-on}

-- ---- a start on longer buffers
module _ (file : List ℕ) (t : Table) (is_file : code_file file ≡ gives t) where
  enough : (n : Lengths) → Part (needs t) n → fits_start t n ≡ true
  unfolding fits_start
  enough n h = true-every (λ x. not (zeroed x) || leb (needs t x) (n x)) (λ x. go (zeroed x) (le-leb (needs t x) (n x) (h x)))
    where
      go : (z : Bool) {b : Bool} → b ≡ true → not z || b ≡ true
      go true e = e
      go false e = refl

  module _ (b : Buffers) (long : Part (needs t) (lengths_of b)) where
    at-start : start file b ≡ record { answer = gives fresh; buffers = write (zeroing t) b }
    at-start = started-on file t b is_file (enough (lengths_of b) long)

    started-long : Part (needs t) (lengths_of (started_run file b).buffers)
    started-long = subst (Part (needs t)) (sym (ap (λ s. lengths_of s.buffers) at-start
        ∙ past-lengths (needs t) (write (zeroing t) b) b (write-past (needs t) (zeroing t) b (zeroing-small t (needs t) (enough (needs t) (part-refl (needs t)))) long))) long

    -- a start on the parts that are needed is the part of a start on the whole
    started-part : started_run file (part_of (needs t) b) ≡ lend (needs t) (started_run file b)
    started-part =
        let room = enough (lengths_of (part_of (needs t) b)) (subst (Part (needs t)) (sym (lengths-part (needs t) b long)) (part-refl (needs t))) in
        ap (λ x. record { progress = fresh; buffers = x })
        (ap (λ s. s.buffers) (started-on file t (part_of (needs t) b) is_file room)
        ∙ write-part (needs t) (zeroing t) b (zeroing-small t (needs t) (enough (needs t) (part-refl (needs t)))) ∙ ap (λ s. part_of (needs t) s.buffers) (sym at-start))

  -- ---- a call keeps the lengths of buffers that are long enough, and does to the whole what it does to the parts that are needed
  call-lengths : (l : List ℤ) (v : ℕ) (r : Run) → Part (needs t) (lengths_of r.buffers) → lengths_of (call file l v r).run.buffers ≡ lengths_of r.buffers
  unfolding call call_on
  call-lengths l v r h = ap (λ a. lengths_of (call_by l v r a).run.buffers) is_file ∙ go (admits t l v (lengths_of r.buffers) r)
    where
      go : (a : Answer (Unit {0})) → lengths_of (perform t l v r a).run.buffers ≡ lengths_of r.buffers
      go (refused k) = refl
      go (gives u) = past-lengths (needs t) (iterate t l v r).buffers r.buffers (iterate-held t l v r.buffers r (held_start t r h)).past

  long-call : (l : List ℤ) (v : ℕ) (r : Run) → Part (needs t) (lengths_of r.buffers) → call file l v r ≡ give_back (call file l v (lend (needs t) r)) r
  unfolding call call_on admits lent_call
  long-call l v r h =
      ap (call_by l v r) is_file
      ∙ ap (λ x. perform t l v r (on_frame t l (must (leb v round_limit) asked_too_much (must x buffer_short
      (must (is_running r.progress.status) run_ended (must (sound_run t r) run_damaged (gives tt)))))))
      (part-fits (needs t) (lengths_of r.buffers) h ∙ sym (part-fits (needs t) (needs t) (part-refl (needs t))))
      ∙ sym (lent-call file t l (record { wanted = v; lent = needs t }) r is_file h)

-- ---- what the line reads of the buffers stands in the parts
u16-front : (new old : List ℕ) → 2 ≤ length new → u16_at (over new old) 0 ≡ u16_at new 0
unfolding u16_at
u16-front new old h = ap₂ (λ x y. x + 256 * y) (get_or-append new (drop (length new) old) 0 0 (omega arith)) (get_or-append new (drop (length new) old) 0 1 (omega arith))

line-back : (t : Table) (l : List ℤ) (d : Called) (r : Run) → lengths_of d.run.buffers ≡ needs t → line_after t l (give_back d r) ≡ line_after t l d
line-back t l d r e = go d.answer
  where
    go : (a : Answer Status) → line_at t l (give_back d r).run a ≡ line_at t l d.run a
    go (refused k) = refl
    go (gives running) = refl
    go (gives certified) = ap₂ (λ w q. certified_line d.run.progress.rounds (agreement t.bits l (bits_of w)) q)
        (take-over t.bits d.run.buffers.word r.buffers.word (ap (λ n. n word) e) ∙ sym (take_all t.bits d.run.buffers.word (omega (arith, ap (λ n. n word) e))))
        (u16-front d.run.buffers.certificate r.buffers.certificate (omega (arith, ap (λ n. n certificate) e)))
    go (gives spent) = refl

-- the part of a blank buffer is blank
blank_part : (n g : Lengths) → Part n g → part_of n (blank g) ≡ blank n
blank_part n g h = buffers-eq (λ x. the-each (λ x. take (n x) (the x (blank g))) x ∙ ap (take (n x)) (the-each (λ x. replicate (g x) (nought x)) x)
    ∙ take-replicate (n x) (g x) (nought x) (h x) ∙ sym (the-each (λ x. replicate (n x) (nought x)) x))

blank-long : (n g : Lengths) → Part n g → Part n (lengths_of (blank g))
blank-long n g h x = subst (λ k. n x ≤ k) (sym (ap length (the-each (λ x. replicate (g x) (nought x)) x) ∙ length-replicate (g x) (nought x))) (h x)

-- ---- blank buffers of any lengths that are enough give the same line
module _ (file : List ℕ) (t : Table) (is_file : code_file file ≡ gives t) where
  pub blank-line : (l : List ℤ) (g : Lengths) → Part (needs t) g → line_after t l (call file l round_limit (started_run file (blank g))) ≡ frame_line file l
  unfolding frame_line
  blank-line l g h =
      let long = blank-long (needs t) g h in
      let r = started_run file (blank g) in
      let roomy = started-long file t is_file (blank g) long in
      let sized = lengths-part (needs t) r.buffers roomy in
      let parts = lend (needs t) r in
      ap (line_after t l) (long-call file t is_file l round_limit r roomy)
      ∙ line-back t l (call file l round_limit parts) r (call-lengths file t is_file l round_limit parts (subst (Part (needs t)) (sym sized) (part-refl (needs t))) ∙ sized)
      ∙ ap (λ x. line_after t l (call file l round_limit x)) (sym (started-part file t is_file (blank g) long))
      ∙ ap (λ b. line_after t l (call file l round_limit (started_run file b))) (blank_part (needs t) g h)
      ∙ ap (line_by file l) (sym is_file)

pub refused-line : (file : List ℕ) (l : List ℤ) (k : ℕ) → code_file file ≡ refused k → frame_line file l ≡ refused_line k
unfolding frame_line
refused-line file l k e = ap (line_by file l) e

-- ---- of frame and word that were judged: both are as long as the code
pub record Sized (l : List ℤ) (w : List ℕ) (n : ℕ) : Type 0 where
  pub frame : length l ≡ n
  pub word : length w ≡ n

pub judged-sized : (file : List ℕ) (l : List ℤ) (w bs : List ℕ) (v : Verdict) (t : Table) → code_file file ≡ gives t → judge file l w bs ≡ gives v → Sized l w t.bits
unfolding judge on_frame on_word
judged-sized file l w bs v t is_file e =
    let p1 = must-gives (eqb (length l) t.bits) frame_length _ v (sym (then-of (code_file file) t _ is_file) ∙ e) in
    let p2 = must-gives (each_within frame_limit l) frame_range _ v p1.1 in
    let p3 = must-gives (eqb (length w) t.bits && each_bit w) word_wrong _ v p2.1 in
    record {
      frame = eqb-true (length l) t.bits p1.0;
      word = eqb-true (length w) t.bits (and_both (eqb (length w) t.bits) (each_bit w) p3.0).0;
    }
