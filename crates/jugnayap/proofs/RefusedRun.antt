-- A refused call for rounds gives the record back as handed in, and no buffer is changed; a record of unknown status is refused with 43 in its turn.
-- Assumes nothing.
use mathlib.Core.Path.{◌≡◌, refl, sym, ◌∙◌, ap, ap₂}
use mathlib.Core.List.{List}
use Prim.Native.Nat.{ℕ, zero, suc, ◌+◌}
use lib.IntN.{ℤ}
use lib.Dec.{leb}
use Rattle.rules.specs.Limits.{round_limit}
use Rattle.rules.specs.Refusal.{Answer, refused, gives, must, reply_of, asked_too_much, buffer_short, run_damaged}
use Rattle.rules.specs.Table.{Table}
use Rattle.rules.specs.CodeFile.{code_file}
use Rattle.rules.specs.Input.{on_frame}
use Rattle.rules.specs.Buffers.{Buffers, Lengths, lengths_of, needs, fits}
use Rattle.rules.specs.Run.{Run, iterate, limited, sound, admits, perform, call_on, call_by, call}
use Rattle.rules.proofs.AnswerLaws.{refused≢gives}
use Rattle.rules.proofs.Counted.{all-counted}
use Rattle.rules.proofs.Runs.{admitted-sound, sound-safe}
use Rattle.decoder.proofs.CallLaws.{answers}
use Rattle.jugnayap.specs.declared.JugnayapRun.{JugnayapRun}
use Rattle.jugnayap.specs.Numbers.{left_as, status_at, progress_by, run_from, run_after, call_left, call_numbers}

-- ---- a call that passes every test is not refused: 44 never comes
module _ (l : List ℤ) (wanted : ℕ) (r : Run) where
  performed-keeps : (t : Table) (lent : Lengths) (a : Answer (Unit {0})) (k : ℕ) → admits t l wanted lent r ≡ a → (perform t l wanted r a).answer ≡ refused k → (perform t l wanted r a).run ≡ r
  performed-keeps t lent (refused j) k q h = refl
  performed-keeps t lent (gives tt) k q h = absurd (refused≢gives (sym h
      ∙ sym (answers (iterate t l wanted r).progress.status (iterate t l wanted r).progress.rounds (r.progress.rounds + wanted)
      (all-counted t l wanted r (sound-safe t r (admitted-sound t l wanted lent r q))))))

  called-keeps : (a : Answer Table) (k : ℕ) → (call_by l wanted r a).answer ≡ refused k → (call_by l wanted r a).run ≡ r
  unfolding call_on
  called-keeps (refused j) k h = refl
  called-keeps (gives t) k h = performed-keeps t (lengths_of r.buffers) (admits t l wanted (lengths_of r.buffers) r) k refl h

  pub refused-keeps : (file : List ℕ) (k : ℕ) → (call file l wanted r).answer ≡ refused k → (call file l wanted r).run ≡ r
  unfolding call
  refused-keeps file k h = called-keeps (code_file file) k h

-- ---- the record of numbers
same_numbers : (k s : ℕ) → run_after (status_at s) (record { rounds = k; status = s }) (progress_by k (status_at s)) ≡ record { rounds = k; status = s }
same_numbers k zero = refl
same_numbers k (suc zero) = refl
same_numbers k (suc (suc zero)) = refl
same_numbers k (suc (suc (suc s))) = refl

module _ (h : JugnayapRun) (file : List ℕ) (l : List ℤ) (wanted : ℕ) (b : Buffers) where
  pub refused-run : (k : ℕ) → (call file l wanted (run_from h b)).answer ≡ refused k → call_numbers file l wanted h b ≡ left_as (record { number = k; run = h }) b
  unfolding reply_of
  refused-run k e = ap₂ (λ a q. call_left h (record { answer = a; run = q })) e (refused-keeps l wanted (run_from h b) file k e)
      ∙ ap (λ x. left_as (record { number = k; run = x }) b) (same_numbers h.rounds h.status)

-- ---- an unknown status, 3 or more: "then 17, 41, 43"
abbrev pub unknown : ℕ → ℕ → JugnayapRun
unknown k s = record { rounds = k; status = suc (suc (suc s)) }

abbrev pub damaged : Table → List ℤ → ℕ → Lengths → Answer (Unit {0})
damaged t l wanted lent = on_frame t l (must (leb wanted round_limit) asked_too_much (must (fits (needs t) lent) buffer_short (refused run_damaged)))

pub unknown-43 : (t : Table) (l : List ℤ) (wanted : ℕ) (lent : Lengths) (k s : ℕ) (b : Buffers) → admits t l wanted lent (run_from (unknown k s) b) ≡ damaged t l wanted lent
unfolding admits must sound limited
unknown-43 t l wanted lent k s b = refl
