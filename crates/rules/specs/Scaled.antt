-- A frame of small numbers can be run as k times itself; what that run certifies at scale 1 is, at scale k, a certificate of the frame (document 01,
-- "Certificates"; the theorem is in proofs/ScaledLaws). Definitions only. Assumes nothing.
use Rattle.std.specs.Prelude.{List, [], ◌∷◌, ◌++◌, ℕ, ℤ, pos, ◌*ℤ◌}
use Rattle.rules.specs.Bytes.{le16}

-- k times each number
abbrev pub times : ℕ → List ℤ → List ℤ
times k [] = []
times k (z ∷ zs) = (pos k *ℤ z) ∷ times k zs

-- "q and scale S (16 bits each)": a certificate's bytes with k for S. Bytes that are too few to have a scale stay.
abbrev pub at_scale : ℕ → List ℕ → List ℕ
at_scale k [] = []
at_scale k (a ∷ []) = a ∷ []
at_scale k (a ∷ b ∷ []) = a ∷ b ∷ []
at_scale k (a ∷ b ∷ c ∷ []) = a ∷ b ∷ c ∷ []
at_scale k (a ∷ b ∷ c ∷ d ∷ bs) = a ∷ b ∷ (le16 k ++ bs)
