-- Each case of the code's answer as document 01's own answer, V as a mask, and of what the code sees: no two cases have one (proofs/ViewLaws).
-- Definitions only. Assumes nothing.
use Rattle.std.proofs.Math.Option as logic
use Rattle.std.proofs.Math.Option.{some, none}
use Rattle.std.specs.Prelude.{List, ℕ, ℤ, Result, Ok, Err, Option, Some, None}
use Rattle.rules.specs.Refusal.{Answer}
use Rattle.rules.specs.Cut as rule
use Rattle.limits.specs.Numbers.{number_of, answer_by}
use Rattle.limits.specs.declared.refusals.Refusal.{Refusal}
use Rattle.cut.specs.Heights.{Seen, seen_to, unseen}
use Rattle.cut.specs.declared.Cut.{Cut}
use Rattle.cut.specs.declared.Violation.{Violation}

-- what the code answers
abbrev pub Found : Type 0
Found = Result (Option Violation) Refusal

abbrev pub violation_of : Option Violation → logic.Option (rule.Violation ℕ)
violation_of None = none
violation_of (Some v) = some (record { set = v.mask; depth = v.depth })

abbrev pub found_of : Found → Answer (logic.Option (rule.Violation ℕ))
found_of = answer_by violation_of

-- the set of mask m that falls short by d
abbrev pub violated : ℕ → ℕ → Found
violated m d = Ok (Some (record { mask = m; depth = d }))

-- with the heights that are left
abbrev pub seen_of : Result Cut Refusal → List ℤ → Seen
seen_of (Ok c) hs = seen_to 0 c.mask c.depth c.top hs
seen_of (Err k) hs = unseen (number_of k) hs
