-- Parity checks, their inequalities, codewords and the relaxation (document 01, "Code file", "Parity inequalities" and "Certificates"; document 00,
-- "agreement"). A set V of a check's members is a list of Bool, true for a member in V. Definitions only. Assumes nothing.
use Rattle.std.specs.Prelude.{◌≡◌, Bool, true, false, not, cond, ◌&&◌, List, [], ◌∷◌, ℕ, suc, ◌*◌, ◌≤◌, length, ℤ, pos, neg_ℤ, ◌+ℤ◌, ◌*ℤ◌}
use Rattle.std.proofs.Math.Option.{Option, some, none}
use Rattle.integers.specs.Linear.{◌⩽◌}
use Rattle.integers.specs.Sum.{sum_to, AllWithin}
use Rattle.rules.specs.Table.{Table, at, bit, bits_at, values_at}

-- ---- bits and signs
-- the sum modulo 2
infixr 6 ◌⊕◌
abbrev pub ◌⊕◌ : Bool → Bool → Bool
true ⊕ b = not b
false ⊕ b = b

-- a one negates: the number under a codeword's bit
abbrev pub turn : Bool → ℤ → ℤ
turn true x = neg_ℤ x
turn false x = x

-- a number as V sees it: as it is for a member of V, negated for the others
abbrev pub side : Bool → ℤ → ℤ
side true x = x
side false x = neg_ℤ x

-- an odd number of ones
abbrev pub odd : List Bool → Bool
odd [] = false
odd (b ∷ bs) = b ⊕ odd bs

-- a word plus a codeword modulo 2, and numbers negated under its ones. Bits that end go on with zeros, so that reading a place needs no length.
abbrev pub plus : List Bool → List Bool → List Bool
plus [] w = w
plus (c ∷ cs) [] = c ∷ cs
plus (c ∷ cs) (b ∷ w) = (c ⊕ b) ∷ plus cs w

abbrev pub turns : List Bool → List ℤ → List ℤ
turns [] ss = ss
turns (c ∷ cs) [] = []
turns (c ∷ cs) (s ∷ ss) = turn c s ∷ turns cs ss

-- equally long, by computation
abbrev pub Alike : {A B : Type 0} → List A → List B → Type 0
Alike [] [] = Unit {0}
Alike [] (y ∷ ys) = ⊥
Alike (x ∷ xs) [] = ⊥
Alike (x ∷ xs) (y ∷ ys) = Alike xs ys

-- ---- parity inequalities
-- the left side: "sum over V of (U + s) plus sum over the others of (U − s)"
abbrev pub left : ℕ → List Bool → List ℤ → ℤ
left u [] ss = pos 0
left u (v ∷ vs) [] = pos 0
left u (v ∷ vs) (s ∷ ss) = (pos u +ℤ side v s) +ℤ left u vs ss

-- "is at least 2U" for each odd V of a check, with d for U and f the numbers
abbrev pub KeepsOne : ℕ → (ℕ → ℤ) → List ℕ → Type 0
KeepsOne d f ms = (vs : List Bool) → odd vs ≡ true → Alike vs ms → pos (2 * d) ⩽ left d vs (values_at f ms)

-- and so of each check
abbrev pub Keeps : ℕ → (ℕ → ℤ) → List (List ℕ) → Type 0
Keeps d f [] = Unit {0}
Keeps d f (ms ∷ cs) = KeepsOne d f ms × Keeps d f cs

-- "A point of the relaxation: a whole D of 1 or more and numbers p from −D to D which meet every parity inequality with D for U"
pub record Point (t : Table) (d : ℕ) (p : List ℤ) : Type 0 where
  pub positive : 1 ≤ d
  pub size : length p ≡ t.bits
  pub box : AllWithin d p
  pub keeps : Keeps d (at p) t.checks

-- "Its agreement is the sum of l × p, compared with D times that of the word"
unfoldable pub point_agreement : ℕ → List ℤ → List ℤ → ℤ
point_agreement n l p = sum_to n (λ i. at l i *ℤ at p i)

-- ---- codewords
-- the first check, from number j on, on which the word has an odd number of ones
abbrev pub first_broken : ℕ → List Bool → List (List ℕ) → Option ℕ
first_broken j w [] = none
first_broken j w (ms ∷ cs) = cond (odd (bits_at w ms)) (some j) (first_broken (suc j) w cs)

abbrev pub meets : List Bool → List (List ℕ) → Bool
meets w [] = true
meets w (ms ∷ cs) = not (odd (bits_at w ms)) && meets w cs

-- "A codeword has an even number of ones on each check"
pub record Codeword (t : Table) (c : List Bool) : Type 0 where
  pub size : length c ≡ t.bits
  pub even : meets c t.checks ≡ true

-- "the sum of the frame's numbers, added where the bit is 0 and subtracted where it is 1"
unfoldable pub agreement : ℕ → List ℤ → List Bool → ℤ
agreement n l w = sum_to n (λ i. turn (bit w i) (at l i))
