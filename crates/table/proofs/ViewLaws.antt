-- The contracts tell any two answers apart: each is read back from its view. Assumes nothing.
use mathlib.Core.Path.{◌≡◌, ap}
use mathlib.Core.List.{List, [], ◌∷◌}
use lib.IntN.{ℤ, nat_abs}
use Rattle.std.specs.Prelude.{Result, Ok, Err}
use Rattle.limits.specs.declared.refusals.Refusal.{Refusal}
use Rattle.limits.proofs.NumberLaws.{number-inj}
use Rattle.table.specs.declared.Sizes.{Sizes}
use Rattle.table.specs.Reply.{numbered}

-- the sizes of three values; any where there are fewer
sizes : List ℤ → Sizes
sizes [] = record { bits = 0; checks = 0; edges = 0 }
sizes (n ∷ []) = record { bits = 0; checks = 0; edges = 0 }
sizes (n ∷ m ∷ []) = record { bits = 0; checks = 0; edges = 0 }
sizes (n ∷ m ∷ e ∷ l) = record { bits = nat_abs n; checks = nat_abs m; edges = nat_abs e }

pub checked-inj : (a b : Result Sizes Refusal) → numbered a ≡ numbered b → a ≡ b
unfolding sizes
checked-inj (Ok s) (Ok t) e = ap (λ r. Ok (sizes r.values)) e
checked-inj (Ok s) (Err k) e = absurd (let z = ap (λ r. r.values) e in cc)
checked-inj (Err j) (Ok t) e = absurd (let z = ap (λ r. r.values) e in cc)
checked-inj (Err j) (Err k) e = ap Err (number-inj j k (ap (λ r. r.number) e))
