-- Each case of the code's answers as document 01's own answer: no two cases have one (proofs/ViewLaws). Definitions only. Assumes nothing.
use Rattle.std.proofs.Math.Option as math
use Rattle.std.proofs.Math.Option.{some, none}
use Rattle.std.specs.Prelude.{ℕ, ℤ, Result, Option, Some, None}
use Rattle.rules.specs.Refusal.{Answer}
use Rattle.rules.specs.Judge as rule
use Rattle.limits.specs.declared.refusals.Refusal.{Refusal}
use Rattle.limits.specs.Numbers.{answer_by}
use Rattle.judge.specs.declared.Verdict.{Verdict}
use Rattle.judge.specs.declared.Verdict.TheVariants as verdict

abbrev pub ruled : Verdict → rule.Verdict
ruled (verdict.Broken j) = rule.breaks j
ruled (verdict.Certified m) = rule.passes m
ruled (verdict.Gap g) = rule.misses g

abbrev pub verdict_of : Result Verdict Refusal → Answer rule.Verdict
verdict_of r = answer_by ruled r

-- what the search for a broken check found
abbrev pub found_in : Option ℕ → math.Option ℕ
found_in (Some j) = some j
found_in None = none

-- the first broken check, or none
abbrev pub parity_of : Result (Option ℕ) Refusal → Answer (math.Option ℕ)
parity_of r = answer_by found_in r

abbrev pub agreed_of : Result ℤ Refusal → Answer ℤ
agreed_of r = answer_by (λ a. a) r
