-- The contract tells any two answers apart. Assumes nothing.
use Rattle.std.proofs.Common.{◌≡◌, ℕ, Result}
use Rattle.limits.specs.declared.refusals.Refusal.{Refusal}
use Rattle.limits.proofs.NumberLaws.{answer-inj}
use Rattle.code_writer.specs.Written.{written_of}

pub written-inj : (a b : Result ℕ Refusal) → written_of a ≡ written_of b → a ≡ b
written-inj = answer-inj (λ n. n) (λ a b e. e)
