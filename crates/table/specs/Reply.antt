-- Document 01's number and values for each case of the code's answer. Definitions only. Assumes nothing.
use Rattle.std.specs.Prelude.{[], ◌∷◌, pos, Result, Ok, Err}
use Rattle.rules.specs.Refusal.{Reply}
use Rattle.limits.specs.declared.refusals.Refusal.{Refusal}
use Rattle.limits.specs.Numbers.{number_of}
use Rattle.table.specs.declared.Sizes.{Sizes}

-- a refusal's number and no value; number 0, and n, m and E
abbrev pub numbered : Result Sizes Refusal → Reply
numbered (Err k) = record { number = number_of k; values = [] }
numbered (Ok s) = record { number = 0; values = pos s.bits ∷ pos s.checks ∷ pos s.edges ∷ [] }
