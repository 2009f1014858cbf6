-- A set of a check's members as a 32-bit mask: "bit k is the k-th member, from 0". Definitions only. Assumes nothing.
use Rattle.std.specs.Prelude.{Bool, true, false, ◌&&◌, List, [], ◌∷◌, ℕ, zero, suc, ◌+◌, ◌*◌, ◌/◌, ◌%◌, ◌^◌, eqb, ltb}
use Rattle.std.specs.Int.Count.{ones}

abbrev pub digit : Bool → ℕ
digit true = 1
digit false = 0

abbrev pub mask_of : List Bool → ℕ
mask_of [] = 0
mask_of (v ∷ vs) = digit v + 2 * mask_of vs

-- the set of a check of degree d
abbrev pub set_of : ℕ → ℕ → List Bool
set_of zero mask = []
set_of (suc d) mask = eqb (mask % 2) 1 ∷ set_of d (mask / 2)

-- "A mask has an odd number of ones, all below the check's degree"
unfoldable pub mask_right : ℕ → ℕ → Bool
mask_right d mask = eqb (ones mask % 2) 1 && ltb mask (2 ^ d)
