-- A certificate of k times a frame is, at scale k, one of the frame (rules' ScaledLaws), of the code: about every call of `judge` and every call of `rounds`
-- of which their contracts, as they are proved, hold. Assumes nothing.
use mathlib.Core.Path.{◌≡◌, refl, sym, ◌∙◌, ap, subst}
use mathlib.Core.Bool.{true}
use mathlib.Core.List.{List}
use Prim.Native.Nat.{ℕ, ◌≤◌}
use lib.ListN.{take}
use Rattle.rules.specs.Limits.{frame_limit, max_scale}
use Rattle.rules.specs.Refusal.{gives}
use Rattle.rules.specs.Table.{Table}
use Rattle.rules.specs.CodeFile.{code_file}
use Rattle.rules.specs.Input.{each_within, bits_of}
use Rattle.rules.specs.Certificate.{certificate_in}
use Rattle.rules.specs.Scaled.{times, at_scale}
use Rattle.rules.specs.Judge.{passes}
use Rattle.rules.specs.Run.{call}
use Rattle.rules.specs.Demand3.{Best}
use Rattle.rules.proofs.Judged.{judge-marked, judge-best}
use Rattle.rules.proofs.ScaledLaws.{scaled-judged, ScaledAfter, call-scaled}
use Rattle.std.specs.Prelude.{Ok}
use Rattle.judge.specs.declared.Verdict.TheVariants.{Certified}
use Rattle.judge.proofs.ViewLaws.{verdict-inj}
use Rattle.judge.proofs.judge.Statement.{statement as jd-statement}
use Rattle.judge.proofs.judge.Met.{met as judge-met}
use Rattle.decoder.specs.Reply.{outcome_of}
use Rattle.run.specs.declared.Status.TheVariants as status
use Rattle.decoder.proofs.rounds.Statement.{statement as rd-statement}
use Rattle.decoder.proofs.rounds.Met.{met as rounds-met}
use Rattle.decoder.proofs.Demand3.{RoundsCall, rounds_file, rounds_frame, rounds_wanted, rounds_run, rounds_gave, rounds-says}
use Rattle.promises.proofs.Passes.{JudgeCall, judges_file, judges_frame, judges_word, judges_certificate, judges_answer, judges_mark, judge-says, judge-handed, left_by}

-- ---- two calls of `judge`: y on a frame at scale k, z on k times the frame at scale 1, with the same file, word and entries
pub record Rescaled (k : ℕ) (bs : List ℕ) (y z : JudgeCall) : Type 0 where
  pub least : 1 ≤ k
  pub most : k ≤ max_scale
  pub range : each_within frame_limit (judges_frame z) ≡ true
  pub file : judges_file z ≡ judges_file y
  pub frame : judges_frame z ≡ times k (judges_frame y)
  pub word : judges_word z ≡ judges_word y
  pub at_k : judges_certificate y ≡ at_scale k bs
  pub at_one : judges_certificate z ≡ at_scale 1 bs

pub scaled-same : (k : ℕ) (bs : List ℕ) (y z : JudgeCall) → Rescaled k bs y z → y.result ≡ z.result
scaled-same k bs y z h = verdict-inj y.result z.result
    (judge-handed y refl refl refl h.at_k
    ∙ scaled-judged (judges_file y) k (judges_frame y) (judges_word y) bs h.least h.most (subst (λ l. each_within frame_limit l ≡ true) h.frame h.range)
    ∙ sym (judge-handed z h.file h.frame h.word h.at_one))

-- ---- a call of `rounds` on k times a frame, and `judge` on the frame: the same file, the word's first n bytes and the certificate's first 4 + 10q at
-- scale k, as the call has left them
pub record JudgesScaled (t : Table) (k : ℕ) (x : RoundsCall) (y : JudgeCall) : Type 0 where
  pub is_file : code_file (rounds_file x) ≡ gives t
  pub least : 1 ≤ k
  pub most : k ≤ max_scale
  pub file : judges_file y ≡ rounds_file x
  pub frame : rounds_frame x ≡ times k (judges_frame y)
  pub word : judges_word y ≡ take t.bits (left_by x).word
  pub certificate : judges_certificate y ≡ at_scale k (certificate_in (left_by x).certificate)

module _ (t : Table) (k : ℕ) (x : RoundsCall) (y : JudgeCall) (h : JudgesScaled t k x y) where
  ran : rounds_gave x ≡ call (rounds_file x) (times k (judges_frame y)) (rounds_wanted x) (rounds_run x)
  ran = rounds-says x ∙ ap (λ l. call (rounds_file x) l (rounds_wanted x) (rounds_run x)) h.frame

  is_file : code_file (judges_file y) ≡ gives t
  is_file = ap code_file h.file ∙ h.is_file

  judged : x.result.outcome ≡ Ok status.Certified → judges_answer y ≡ gives (passes (judges_mark t y))
  judged e = judge-marked (judges_file y) (judges_frame y) (judges_word y) (judges_certificate y) t is_file _ (sym (judge-says y) ∙ judge-handed y h.file refl h.word h.certificate
      ∙ subst (ScaledAfter (rounds_file x) k (judges_frame y) t) (sym ran)
      (call-scaled (rounds_file x) k (judges_frame y) (rounds_wanted x) (rounds_run x) t h.is_file h.least h.most (ap (λ d. d.answer) (sym ran) ∙ ap outcome_of e)))

  pub scaled-passes : x.result.outcome ≡ Ok status.Certified → y.result ≡ Ok (Certified (judges_mark t y))
  scaled-passes e = verdict-inj y.result (Ok (Certified (judges_mark t y))) (judge-says y ∙ judged e)

  -- no codeword and no point of the relaxation agrees better with the frame itself
  pub scaled-best : x.result.outcome ≡ Ok status.Certified → Best t (judges_frame y) (bits_of (judges_word y))
  scaled-best e = judge-best (judges_file y) (judges_frame y) (judges_word y) (judges_certificate y) t is_file (judges_mark t y) (judged e)

-- beside the proofs of the two functions
abbrev pub SameAnswer : Type 0
SameAnswer = (k : ℕ) (bs : List ℕ) (y z : JudgeCall) → Rescaled k bs y z → y.result ≡ z.result

abbrev pub CertifiedSmall : Type 0
CertifiedSmall = (t : Table) (k : ℕ) (x : RoundsCall) (y : JudgeCall) → JudgesScaled t k x y → x.result.outcome ≡ Ok status.Certified
    → (y.result ≡ Ok (Certified (judges_mark t y))) × Best t (judges_frame y) (bits_of (judges_word y))

pub proved : {M : Type 1} → rd-statement M × (jd-statement M × (SameAnswer × CertifiedSmall))
proved = (rounds-met, (judge-met, (scaled-same, λ t k x y h e. (scaled-passes t k x y h e, scaled-best t k x y h e))))
