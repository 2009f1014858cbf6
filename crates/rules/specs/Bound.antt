-- Reduced numbers, bound and gap of a word and a list of multipliers (document 01, "Certificates"). Definitions only. Assumes nothing.
use Rattle.std.specs.Prelude.{Bool, List, [], ◌∷◌, ℕ, eqb, length, ℤ, pos, ◌+ℤ◌, ◌-ℤ◌, ◌*ℤ◌}
use Rattle.integers.specs.Product.{abs}
use Rattle.integers.specs.Sum.{sum_to, pick}
use Rattle.rules.specs.Table.{at}
use Rattle.rules.specs.Parity.{side, agreement}
use Rattle.rules.specs.Step.{Entry, inactive, active}

-- the sum of the weights of the edges at bit i
abbrev pub gather : ℕ → List ℕ → List ℤ → ℤ
gather i ms [] = pos 0
gather i [] (w ∷ ws) = pos 0
gather i (m ∷ ms) (w ∷ ws) = pick (eqb m i) w +ℤ gather i ms ws

-- a check's members, a multiplier on one of its inequalities, and that inequality's V
pub record Row : Type 0 where
  pub members : List ℕ
  pub multiplier : ℕ
  pub set : List Bool

-- the rows of a round: its checks that have a cut, in check order
abbrev pub rows_of : List (List ℕ) → List Entry → List Row
rows_of [] es = []
rows_of (ms ∷ cs) [] = []
rows_of (ms ∷ cs) (inactive ∷ es) = rows_of cs es
rows_of (ms ∷ cs) (active b ts ∷ es) = record { members = ms; multiplier = b; set = ts } ∷ rows_of cs es

-- the multiplier with the sign of each member: plus in the mask, minus outside
abbrev pub weights : ℕ → List Bool → List ℤ
weights b [] = []
weights b (t ∷ ts) = side t (pos b) ∷ weights b ts

abbrev pub pull : ℕ → List Row → ℤ
pull i [] = pos 0
pull i (r ∷ rs) = gather i r.members (weights r.multiplier r.set) +ℤ pull i rs

-- "Reduced number r of a bit: S times l, plus each multiplier whose mask holds the bit, minus each multiplier whose check holds the bit and whose
-- mask doesn't"
unfoldable pub reduced : ℕ → List ℤ → List Row → ℕ → ℤ
reduced s l rs i = pos s *ℤ at l i +ℤ pull i rs

-- "each multiplier times (d − 2)"
abbrev pub price : List Row → ℤ
price [] = pos 0
price (r ∷ rs) = pos r.multiplier *ℤ (pos (length r.members) -ℤ pos 2) +ℤ price rs

-- "Bound B: sum of absolute r, plus each multiplier times (d − 2)"
unfoldable pub bound : ℕ → ℕ → List ℤ → List Row → ℤ
bound n s l rs = sum_to n (λ i. abs (reduced s l rs i)) +ℤ price rs

-- "Gap: B − S × agreement"
unfoldable pub gap : ℕ → ℕ → List ℤ → List Row → List Bool → ℤ
gap n s l rs w = bound n s l rs -ℤ pos s *ℤ agreement n l w
