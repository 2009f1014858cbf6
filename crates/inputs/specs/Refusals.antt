-- The refusal of what is handed in beside the code file, by its number, 0 for none (document 01, "Turned down because of what was handed in").
-- Definitions only. Assumes nothing.
use Rattle.std.specs.Prelude.{cond, ◌&&◌, List, ℕ, zero, suc, eqb, length, ℤ}
use Rattle.rules.specs.Limits.{unit, frame_limit}
use Rattle.rules.specs.Refusal.{Answer, refused, frame_length, frame_range, word_wrong, point_wrong}
use Rattle.rules.specs.Input.{each_within, each_bit}

-- "8 frame not n long. 9 frame number out of range."
unfoldable pub frame_refusal : ℕ → List ℤ → ℕ
frame_refusal n l = cond (eqb (length l) n) (cond (each_within frame_limit l) 0 frame_range) frame_length

-- "15 word's length or a byte."
unfoldable pub word_refusal : ℕ → List ℕ → ℕ
word_refusal n w = cond (eqb (length w) n && each_bit w) 0 word_wrong

-- "16 point's length or a spin."
unfoldable pub point_refusal : ℕ → List ℤ → ℕ
point_refusal n s = cond (eqb (length s) n && each_within unit s) 0 point_wrong

-- the second refusal where the first is none
abbrev pub or_else : ℕ → ℕ → ℕ
or_else zero k = k
or_else (suc j) k = suc j

-- what follows where nothing is turned down
unfoldable pub turned_down : {A : Type 0} → ℕ → Answer A → Answer A
turned_down zero a = a
turned_down (suc k) a = refused (suc k)
