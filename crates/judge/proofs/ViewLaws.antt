-- The contracts tell any two answers apart: each is read back from its view. Assumes nothing.
use mathlib.Core.Path.{◌≡◌, refl}
use mathlib.Core.Option as math
use mathlib.Core.Option.{some, none}
use mathlib.Mathlib.Logic.Function.Defs.{LeftInverse-Injective}
use Prim.Native.Nat.{ℕ}
use lib.IntN.{ℤ}
use Rattle.std.specs.Prelude.{Result, Option, Some, None}
use Rattle.rules.specs.Judge as rule
use Rattle.limits.specs.declared.refusals.Refusal.{Refusal}
use Rattle.limits.proofs.NumberLaws.{answer-inj}
use Rattle.judge.specs.declared.Verdict.{Verdict}
use Rattle.judge.specs.declared.Verdict.TheVariants as verdict
use Rattle.judge.specs.Reply.{ruled, verdict_of, found_in, parity_of, agreed_of}

pub verdict-inj : (a b : Result Verdict Refusal) → verdict_of a ≡ verdict_of b → a ≡ b
verdict-inj = answer-inj ruled (LeftInverse-Injective back ruled again)
  where
    back : rule.Verdict → Verdict
    back (rule.breaks j) = verdict.Broken j
    back (rule.passes m) = verdict.Certified m
    back (rule.misses g) = verdict.Gap g

    again : (a : Verdict) → back (ruled a) ≡ a
    again (verdict.Broken j) = refl
    again (verdict.Certified m) = refl
    again (verdict.Gap g) = refl

pub parity-inj : (a b : Result (Option ℕ) Refusal) → parity_of a ≡ parity_of b → a ≡ b
parity-inj = answer-inj found_in (LeftInverse-Injective back found_in again)
  where
    back : math.Option ℕ → Option ℕ
    back none = None
    back (some j) = Some j

    again : (a : Option ℕ) → back (found_in a) ≡ a
    again None = refl
    again (Some j) = refl

pub agreed-inj : (a b : Result ℤ Refusal) → agreed_of a ≡ agreed_of b → a ≡ b
agreed-inj = answer-inj (λ a. a) (λ a b e. e)
