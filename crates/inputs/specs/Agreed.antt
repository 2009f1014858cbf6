-- The agreement of a word with a frame, whatever their lengths, and how large it can be. Definitions only. Assumes nothing.
use Rattle.std.specs.Prelude.{List, ℕ, ◌*◌, min, length, ℤ}
use Rattle.rules.specs.Limits.{max_bits, frame_size}
use Rattle.rules.specs.Parity.{agreement}
use Rattle.rules.specs.Input.{bits_of}

-- the bits that both have, of a code's
abbrev pub shared_bits : List ℤ → List ℕ → ℕ
shared_bits l w = min max_bits (min (length l) (length w))

-- "the sum of the frame's numbers, added where the bit is 0 and subtracted where it is 1"
unfoldable pub agreed : List ℤ → List ℕ → ℤ
agreed l w = agreement (shared_bits l w) l (bits_of w)

-- the agreement's size
abbrev pub agreement_limit : ℕ
agreement_limit = max_bits * frame_size
