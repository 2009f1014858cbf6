-- What the judge's answer is worth, whoever wrote the certificate (document 00, demand 2; document 01, "Certificates"; document 02, #113): certified
-- exactly if the word meets all checks and its agreement, times the scale, equals the bound, and then nothing agrees better; marked exactly if every
-- reduced number differs from 0, and then nothing else agrees as well. Corollaries of rules' Judged. Assumes nothing.
use mathlib.Core.Path.{◌≡◌, sym, ◌∙◌, subst}
use mathlib.Core.Bool.{Bool, true}
use mathlib.Core.Logic.{◌↔◌}
use mathlib.Core.List.{List}
use Prim.Native.Nat.{ℕ}
use lib.IntN.{ℤ, pos}
use lib.Signed.{◌<ℤ◌}
use Rattle.std.specs.Prelude.{Ok}
use Rattle.rules.specs.Refusal.{gives}
use Rattle.rules.specs.Table.{Table}
use Rattle.rules.specs.CodeFile.{code_file}
use Rattle.rules.specs.Input.{bits_of}
use Rattle.rules.specs.Certificate.{scale_of, items_of, rows_at}
use Rattle.rules.specs.Demand3.{Best}
use Rattle.rules.specs.Sole.{SoleWinner}
use Rattle.rules.specs.Judge.{Verdict, passes, verdict, MeetsBound, judge}
use Rattle.rules.proofs.AnswerLaws.{gives-inj}
use Rattle.rules.proofs.Judged.{judged, verdict-passes⇔, sole_read, judge-best, judge-sole, judge-positive}
use Rattle.judge.specs.declared.Verdict.TheVariants.{Certified, Gap}
use Rattle.judge.specs.Reply.{verdict_of}

module _ (file : List ℕ) (l : List ℤ) (w bs : List ℕ) where
  module _ (t : Table) (is_file : code_file file ≡ gives t) where
    verdict-says : (v : Verdict) → judge file l w bs ≡ gives v → verdict t (scale_of bs) l (rows_at t (items_of bs)) (bits_of w) ≡ v
    verdict-says v h =
        let j = judged file l w bs v h in
        subst (λ x. verdict x (scale_of bs) l (rows_at x (items_of bs)) (bits_of w) ≡ v) (gives-inj j.table t (sym j.is_file ∙ is_file)) j.says

    -- "passes exactly if the word meets all checks and its agreement, times the certificate's scale, equals the multipliers' bound", of inputs that are
    -- not refused; with the mark m
    pub certified⇔ : (v : Verdict) (m : Bool) → judge file l w bs ≡ gives v → (v ≡ passes m) ↔ (MeetsBound t (scale_of bs) l (rows_at t (items_of bs)) (bits_of w) × (sole_read t l bs ≡ m))
    certified⇔ v m h =
        let both = verdict-passes⇔ t (scale_of bs) l (rows_at t (items_of bs)) (bits_of w) m in
        (λ e. both.0 (verdict-says v h ∙ e), λ p. sym (verdict-says v h) ∙ both.1 p)

    -- a word that the code marks certified is best
    pub certified-best : (m : Bool) → verdict_of (Ok (Certified m)) ≡ judge file l w bs → Best t l (bits_of w)
    certified-best m h = judge-best file l w bs t is_file m (sym h)

    -- and alone where it is marked
    pub certified-sole : verdict_of (Ok (Certified true)) ≡ judge file l w bs → SoleWinner t l (bits_of w)
    certified-sole h = judge-sole file l w bs t is_file (sym h)

  -- "else the gap, which is then positive"
  pub gap-positive : (g : ℤ) → verdict_of (Ok (Gap g)) ≡ judge file l w bs → pos 0 <ℤ g
  gap-positive g h = judge-positive file l w bs g (sym h)
