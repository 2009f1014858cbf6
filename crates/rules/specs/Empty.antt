-- Checks without members, as shortening leaves them (document 02, #106), and a table without them. Definitions only. Assumes nothing.
use Rattle.std.specs.Prelude.{◌≡◌, ◌&&◌, List, [], ◌∷◌, ℕ, ◌≤◌, ltb, length}
use Rattle.rules.specs.Limits.{max_multiplier}
use Rattle.rules.specs.Refusal.{Answer, refused, must, entry_range, mask_wrong}
use Rattle.rules.specs.Table.{Table, checks_of}
use Rattle.rules.specs.CodeFile.{in_range}
use Rattle.rules.specs.Bound.{Row}
use Rattle.rules.specs.Round.{Round}
use Rattle.rules.specs.Certificate.{Item}

-- the checks that have members
abbrev pub filled : List (List ℕ) → List (List ℕ)
filled [] = []
filled ([] ∷ cs) = filled cs
filled ((m ∷ ms) ∷ cs) = (m ∷ ms) ∷ filled cs

abbrev pub without_empty : Table → Table
without_empty t = record { bits = t.bits; checks = filled t.checks }

-- of one thing per check, those of the checks that have members
abbrev pub at_filled : {A : Type 0} → List (List ℕ) → List A → List A
at_filled [] xs = []
at_filled (ms ∷ cs) [] = []
at_filled ([] ∷ cs) (x ∷ xs) = at_filled cs xs
at_filled ((m ∷ ms) ∷ cs) (x ∷ xs) = x ∷ at_filled cs xs

-- a round on a table, and one on the table without its empty checks
pub record SameRound (t : Table) (x y : Round) : Type 0 where
  pub spins : y.spins ≡ x.spins
  pub state : y.state ≡ x.state
  pub sums : y.sums ≡ x.sums
  pub entries : y.entries ≡ at_filled t.checks x.entries
  pub depths : y.depths ≡ at_filled t.checks x.depths
  pub word : y.word ≡ x.word

-- "A certificate entry that names it still meets 13 in its turn": after 12, whatever follows
abbrev pub names_empty : {A : Type 0} → Table → Item → Answer A
names_empty t i = must (ltb i.check (checks_of t) && in_range 1 max_multiplier i.multiplier) entry_range (refused mask_wrong)

-- no row is that of an empty check: so no multiplier is counted d − 2 = −2 times
abbrev pub AllFilled : List Row → Type 0
AllFilled [] = Unit {0}
AllFilled (r ∷ rs) = (1 ≤ length r.members) × AllFilled rs
