-- A cut as numbers: "V as a 32-bit mask, or none", and its depth. No odd set has mask 0. Definitions only. Assumes nothing.
use Rattle.std.specs.Prelude.{◌≡◌, Bool, List, ℕ, ℤ}
use Rattle.std.proofs.Math.Option.{Option, some, none}
use Rattle.rules.specs.Limits.{unit}
use Rattle.rules.specs.Mask.{mask_of}
use Rattle.rules.specs.Cut.{cut, depth}

abbrev pub cut_mask : Option (List Bool) → ℕ
cut_mask none = 0
cut_mask (some vs) = mask_of vs

-- mask m and depth d are those of the cut of the spins ss: 0 and 0 for none
abbrev pub CutIs : List ℤ → ℕ → ℕ → Type 0
CutIs ss m d = (m ≡ cut_mask (cut unit ss)) × (d ≡ depth unit ss)
