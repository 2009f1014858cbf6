-- What is handed in beside the code file: frame, word, point, check number, with refusals 8, 9, 15, 16 and 17. Each is a test in front of what
-- follows. Definitions only. Assumes nothing.
use Rattle.std.specs.Prelude.{Bool, true, ◌&&◌, List, [], ◌∷◌, ℕ, leb, ltb, eqb, length, ℤ, nat_abs}
use Rattle.rules.specs.Limits.{unit, frame_limit}
use Rattle.rules.specs.Refusal.{Answer, must, frame_length, frame_range, word_wrong, point_wrong, asked_too_much}
use Rattle.rules.specs.Table.{Table, checks_of}

-- each number is from −k to k
abbrev pub each_within : ℕ → List ℤ → Bool
each_within k [] = true
each_within k (z ∷ zs) = leb (nat_abs z) k && each_within k zs

-- "A frame is n signed 16-bit numbers l, from −8,191 to 8,191"
unfoldable pub on_frame : {A : Type 0} → Table → List ℤ → Answer A → Answer A
on_frame t l a = must (eqb (length l) t.bits) frame_length (must (each_within frame_limit l) frame_range a)

-- "A word is n bytes, each 0 or 1"
abbrev pub each_bit : List ℕ → Bool
each_bit [] = true
each_bit (b ∷ bs) = leb b 1 && each_bit bs

unfoldable pub on_word : {A : Type 0} → Table → List ℕ → Answer A → Answer A
on_word t w a = must (eqb (length w) t.bits && each_bit w) word_wrong a

abbrev pub bit_of_byte : ℕ → Bool
bit_of_byte b = eqb b 1

abbrev pub bits_of : List ℕ → List Bool
bits_of [] = []
bits_of (b ∷ bs) = bit_of_byte b ∷ bits_of bs

-- "The cut search takes n spins from −U to U and a check number"
unfoldable pub on_point : {A : Type 0} → Table → List ℤ → Answer A → Answer A
on_point t s a = must (eqb (length s) t.bits && each_within unit s) point_wrong a

unfoldable pub on_check : {A : Type 0} → Table → ℕ → Answer A → Answer A
on_check t j a = must (ltb j (checks_of t)) asked_too_much a
