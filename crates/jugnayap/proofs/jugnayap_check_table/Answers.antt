-- `jugnayap_check_table` meets its contract: n, m and E of an accepted file fit. Assumes nothing.
use borrow.Author.Rules.{rules}
use mathlib.Core.Path.{◌≡◌, sym, ◌∙◌, ap}
use mathlib.Core.List.{List}
use Prim.Native.Nat.{ℕ}
use Rattle.std.specs.Prelude.{Result, Ok}
use Rattle.rules.specs.CodeFile.{code_file_reply}
use Rattle.limits.specs.declared.refusals.Refusal.{Refusal}
use Rattle.table.specs.declared.Sizes.{Sizes}
use Rattle.table.specs.Reply.{numbered}
use Rattle.jugnayap.proofs.AnswerLaws.{Small, accepted-small}
use Rattle.jugnayap.proofs.jugnayap_check_table.Goals as goal

-- the sizes of an answer that accepts
small : (file : List ℕ) {r : Result Sizes Refusal} {s : Sizes} → r ≡ Ok s → numbered r ≡ code_file_reply file → Small s.bits s.checks s.edges
small file h k = accepted-small file _ _ _ (ap numbered (sym h) ∙ k)

pub overflow_cast-result : goal.overflow_cast-result
overflow_cast-result c = let s = small _ c.in-Ok.is c.check.ensures in search rules

pub overflow_cast-result-in-Ok : goal.overflow_cast-result-in-Ok
overflow_cast-result-in-Ok c = let s = small _ c.in-Ok.is c.check.ensures in search rules

pub overflow_cast-result-in-Ok-2 : goal.overflow_cast-result-in-Ok-2
overflow_cast-result-in-Ok-2 c = let s = small _ c.in-Ok.is c.check.ensures in search rules
