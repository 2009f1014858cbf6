-- Document 01's first frame as its bytes, by computation. Assumes nothing.
use Rattle.std.specs.Prelude.{◌≡◌, refl, [], ◌∷◌, pos, negsuc}
use Rattle.rules.specs.Bytes.{u16_at}
use Rattle.stream.specs.Numbers.{numbers_of}

-- "A0 0F A0 0F 30 F8"
pub first_frame : numbers_of (160 ∷ 15 ∷ 160 ∷ 15 ∷ 48 ∷ 248 ∷ []) 3 ≡ pos 4000 ∷ pos 4000 ∷ negsuc 1999 ∷ []
unfolding numbers_of u16_at
first_frame = refl
