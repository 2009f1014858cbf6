-- What the answer of a record's part says of its buffer, of any element type. Definitions only. Assumes nothing.
use Rattle.std.specs.Prelude.{◌≡◌, List, ◌++◌, ℕ, ◌≤◌, length, take, drop, Result, IsErr}
use Rattle.std.specs.Fn.{Once}
use Rattle.std.proofs.Common.{MutBor}
use Rattle.stream.specs.declared.Part.{Part}
use Rattle.stream.specs.declared.Part.TheVariants.{Missing, TooLong, Cut, Whole}

-- how many elements may have changed: none of a part whose size is missing or too long, else as many as the part states
abbrev pub stored : Part → ℕ
stored Missing = 0
stored TooLong = 0
stored (Cut n) = n
stored (Whole n) = n

abbrev pub whole_size : Part → ℕ
whole_size Missing = 0
whole_size TooLong = 0
whole_size (Cut n) = 0
whole_size (Whole n) = n

-- the buffer has room for n elements, keeps its length, and what is past the n stays
pub record Front {A : Type 0} (n : ℕ) (new old : List A) : Type 0 where
  pub fits : n ≤ length old
  pub size : length new ≡ length old
  pub rest : drop n new ≡ drop n old

abbrev pub PartRead : {A : Type 0} → Part → List A → List A → Type 0
PartRead r new old = Front (stored r) new old

-- an error of f, which was lent the first elements of a part: what f left of them stands in front, and the others stay
pub record FailedBy {F R A E : Type 0} (g : Once F (MutBor R × (MutBor (List A) × Unit {0})) (Result ℕ E × (MutBor R × (MutBor (List A) × Unit {0})))) (f : F) (new old : List A) : Type 0 where
  pub size : ℕ
  pub input : MutBor R
  pub lent : MutBor (List A)
  pub answer : Result ℕ E
  pub input_left : MutBor R
  pub left : MutBor (List A)
  pub met : g.post f (input, (lent, tt)) (answer, (input_left, (left, tt)))
  pub failed : IsErr answer
  pub lends : lent.now ≡ take size old
  pub leaves : new ≡ left.now ++ drop size old
