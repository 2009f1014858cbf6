-- No two refusals have one number, and none has 0; so no two answers have one image.
use Rattle.std.proofs.Common.{◌≡◌, ℕ, cond, eqb, refl, sym, ap, ◌∙◌, Result, Ok, Err}
use Rattle.std.specs.Result.{IsErr, IsErrAnd}
use Rattle.limits.specs.Numbers.{number_of, refusal_of, answer_by}
use Rattle.limits.specs.declared.refusals.Refusal.{Refusal}
use Rattle.limits.specs.declared.refusals.Refusal.TheVariants as the

-- the refusal of a number, and any of a number that is none's
abbrev pub named : ℕ → Refusal
named n =
    cond (eqb n 1) the.HeaderShort (cond (eqb n 2) the.SizeRange (cond (eqb n 3) the.CountRange (cond (eqb n 4) the.StartWrong
    (cond (eqb n 5) the.LengthWrong (cond (eqb n 6) the.MemberWrong (cond (eqb n 7) the.BitDegree (cond (eqb n 8) the.FrameLength
    (cond (eqb n 9) the.FrameRange (cond (eqb n 10) the.CertificateWrong (cond (eqb n 11) the.ScaleRange (cond (eqb n 12) the.EntryRange
    (cond (eqb n 13) the.MaskWrong (cond (eqb n 14) the.EntryOrder (cond (eqb n 15) the.WordWrong (cond (eqb n 16) the.PointWrong
    (cond (eqb n 17) the.AskedTooMuch (cond (eqb n 41) the.BufferShort (cond (eqb n 42) the.RunEnded the.RunDamaged))))))))))))))))))

pub named-number : (k : Refusal) → named (number_of k) ≡ k
named-number the.HeaderShort = refl
named-number the.SizeRange = refl
named-number the.CountRange = refl
named-number the.StartWrong = refl
named-number the.LengthWrong = refl
named-number the.MemberWrong = refl
named-number the.BitDegree = refl
named-number the.FrameLength = refl
named-number the.FrameRange = refl
named-number the.CertificateWrong = refl
named-number the.ScaleRange = refl
named-number the.EntryRange = refl
named-number the.MaskWrong = refl
named-number the.EntryOrder = refl
named-number the.WordWrong = refl
named-number the.PointWrong = refl
named-number the.AskedTooMuch = refl
named-number the.BufferShort = refl
named-number the.RunEnded = refl
named-number the.RunDamaged = refl

pub number-inj : (a b : Refusal) → number_of a ≡ number_of b → a ≡ b
number-inj a b e = sym (named-number a) ∙ ap named e ∙ named-number b

pub number-some : (k : Refusal) → number_of k ≡ 0 → ⊥
number-some the.HeaderShort e = cc
number-some the.SizeRange e = cc
number-some the.CountRange e = cc
number-some the.StartWrong e = cc
number-some the.LengthWrong e = cc
number-some the.MemberWrong e = cc
number-some the.BitDegree e = cc
number-some the.FrameLength e = cc
number-some the.FrameRange e = cc
number-some the.CertificateWrong e = cc
number-some the.ScaleRange e = cc
number-some the.EntryRange e = cc
number-some the.MaskWrong e = cc
number-some the.EntryOrder e = cc
number-some the.WordWrong e = cc
number-some the.PointWrong e = cc
number-some the.AskedTooMuch e = cc
number-some the.BufferShort e = cc
number-some the.RunEnded e = cc
number-some the.RunDamaged e = cc

pub refusal-inj : (a b : Result Unit Refusal) → refusal_of a ≡ refusal_of b → a ≡ b
refusal-inj (Ok u) (Ok v) e = refl
refusal-inj (Ok u) (Err k) e = absurd (number-some k (sym e))
refusal-inj (Err k) (Ok u) e = absurd (number-some k e)
refusal-inj (Err j) (Err k) e = ap Err (number-inj j k e)

pub answer-inj : {A B : Type 0} (f : A → B) → ((a b : A) → f a ≡ f b → a ≡ b) →
    (x y : Result A Refusal) → answer_by f x ≡ answer_by f y → x ≡ y
answer-inj f inj (Ok a) (Ok b) e = ap Ok (inj a b (cc))
answer-inj f inj (Ok a) (Err k) e = cc
answer-inj f inj (Err j) (Ok b) e = cc
answer-inj f inj (Err j) (Err k) e = ap Err (number-inj j k (cc))

-- what the exit of a `?` returns of a refusal that is handed on: the refusal as it is
pub handed-on : {T : Type 0} {k : Refusal} (r : Result T Refusal) → IsErr r × IsErrAnd r (λ y. y ≡ k) → r ≡ Err k
handed-on (Ok a) h = absurd h.1
handed-on (Err y) h = ap Err h.1
