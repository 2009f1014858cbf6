-- "And those the decoder writes pass" (document 00, demand 2), of the code: about every call of `rounds` and every call of `judge` of which their
-- contracts, as they are proved, hold. The run may be fresh or half done: the call was not refused, so it passes 43. Assumes nothing.
use mathlib.Core.Path.{◌≡◌, sym, ◌∙◌, ap, ap₂, subst}
use mathlib.Core.Bool.{Bool}
use mathlib.Core.List.{List}
use Prim.Native.Nat.{ℕ}
use lib.ListN.{take}
use lib.IntN.{ℤ}
use contract.Lifetimes.{Lfts}
use denote.Triple.Clauses as Clauses
use borrow.Fn.World.{ArgsD, ResD}
use borrow.Fn.Kinds.{ended_of}
use Rattle.rules.specs.Refusal.{Answer, gives}
use Rattle.rules.specs.Table.{Table}
use Rattle.rules.specs.CodeFile.{code_file}
use Rattle.rules.specs.Certificate.{certificate_in}
use Rattle.rules.specs.Judge.{Verdict, passes, judge}
use Rattle.rules.specs.Buffers.{Buffers}
use Rattle.rules.specs.Run.{certified}
use Rattle.rules.proofs.Judged.{sole_read}
use Rattle.rules.proofs.CallPasses.{PassesIn, call_passes}
use Rattle.judge.specs.Reply.{verdict_of}
use Rattle.std.specs.Prelude.{Ok}
use Rattle.judge.specs.declared.Verdict.TheVariants.{Certified}
use Rattle.judge.proofs.ViewLaws.{verdict-inj}
use Rattle.judge.specs.contracts.judge as jd
use Rattle.judge.proofs.judge.Kinds as jd-kinds
use Rattle.judge.proofs.judge.Reads as jd-reads
use Rattle.judge.proofs.judge.Statement.{statement as jd-statement}
use Rattle.judge.proofs.judge.Met.{met as judge-met}
use Rattle.decoder.specs.Reply.{outcome_of}
use Rattle.run.specs.declared.Status.TheVariants as status
use Rattle.decoder.proofs.rounds.Statement.{statement as rd-statement}
use Rattle.decoder.proofs.rounds.Met.{met as rounds-met}
use Rattle.decoder.proofs.Demand3.{RoundsCall, rounds_file, rounds_frame, rounds_wanted, rounds_run, rounds_gave, rounds-says}

-- ---- a call of `judge` of which its contract holds
pub record JudgeCall : Type 0 where
  pub lives : Lfts (jd.signature).lifetimes
  pub args : ArgsD jd.signature lives
  pub result : ResD jd.signature lives
  pub exit : Clauses.AtExit (ended_of (jd.signature).lifetimes jd-kinds.ps jd-kinds.r) lives
  pub holds : jd-reads.Post lives args result exit

abbrev pub judges_file : JudgeCall → List ℕ
judges_file y = y.args.0.now

abbrev pub judges_frame : JudgeCall → List ℤ
judges_frame y = y.args.1.0.now

abbrev pub judges_word : JudgeCall → List ℕ
judges_word y = y.args.1.1.0.now

abbrev pub judges_certificate : JudgeCall → List ℕ
judges_certificate y = y.args.1.1.1.0.now

-- what document 01's judge answers to it
abbrev pub judges_answer : JudgeCall → Answer Verdict
judges_answer y = judge (judges_file y) (judges_frame y) (judges_word y) (judges_certificate y)

pub judge-says : (y : JudgeCall) → verdict_of y.result ≡ judges_answer y
judge-says y = y.holds

-- whether every reduced number of its certificate differs from 0
abbrev pub judges_mark : Table → JudgeCall → Bool
judges_mark t y = sole_read t (judges_frame y) (judges_certificate y)

-- of what it was handed
module _ (y : JudgeCall) {file : List ℕ} {l : List ℤ} {w bs : List ℕ} where
  pub judge-handed : judges_file y ≡ file → judges_frame y ≡ l → judges_word y ≡ w → judges_certificate y ≡ bs → verdict_of y.result ≡ judge file l w bs
  judge-handed ef el ew eb = judge-says y ∙ (λ i. judge (ef i) (el i) (ew i) (eb i))

-- ---- the judge is handed the same file and frame, the word's first n bytes and the certificate's first 4 + 10q, as the call has left them
abbrev pub left_by : RoundsCall → Buffers
left_by x = (rounds_gave x).run.buffers

pub record Judges (t : Table) (x : RoundsCall) (y : JudgeCall) : Type 0 where
  pub file : judges_file y ≡ rounds_file x
  pub frame : judges_frame y ≡ rounds_frame x
  pub word : judges_word y ≡ take t.bits (left_by x).word
  pub certificate : judges_certificate y ≡ certificate_in (left_by x).certificate

-- where the call for rounds answers certified, so does the judge, with the mark of the certificate's reduced numbers
abbrev pub WrittenPasses : Type 0
WrittenPasses = (t : Table) (x : RoundsCall) (y : JudgeCall) → code_file (rounds_file x) ≡ gives t → Judges t x y → x.result.outcome ≡ Ok status.Certified → y.result ≡ Ok (Certified (judges_mark t y))

pub written-passes : WrittenPasses
written-passes t x y is_file j e = verdict-inj y.result (Ok (Certified (judges_mark t y))) (judge-handed y j.file j.frame j.word j.certificate ∙ left ∙ mark)
  where
    certifies : (rounds_gave x).answer ≡ gives certified
    certifies = ap outcome_of e

    mark : gives (passes (sole_read t (rounds_frame x) (certificate_in (left_by x).certificate))) ≡ gives (passes (judges_mark t y))
    mark = ap₂ (λ l bs. gives (passes (sole_read t l bs))) (sym j.frame) (sym j.certificate)

    left : PassesIn (rounds_file x) (rounds_frame x) t (left_by x)
    left = subst (λ d. PassesIn (rounds_file x) (rounds_frame x) t d.run.buffers) (sym (rounds-says x))
        (call_passes (rounds_file x) (rounds_frame x) (rounds_wanted x) (rounds_run x) t is_file (ap (λ d. d.answer) (sym (rounds-says x)) ∙ certifies))

-- beside the proofs of the two functions
pub proved : {M : Type 1} → rd-statement M × (jd-statement M × WrittenPasses)
proved = (rounds-met, (judge-met, written-passes))
