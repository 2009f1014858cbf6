-- The word's bytes: a spin's byte by its sign, as many bytes as spins, and the word written. Assumes nothing.
use mathlib.Core.Path.{◌≡◌, refl, sym, ap, ◌∙◌}
use mathlib.Core.List.{List, [], ◌∷◌}
use Prim.Native.Nat.{ℕ, suc, ◌≤◌}
use native.Mathlib.Omega.{arith}
use lib.ListN.{length}
use lib.IntN.{ℤ, pos, negsuc}
use lib.Signed.{lt_z}
use mir.Syntax.{w32}
use mir.Val.{SFits, bool_byte, to_z, of_z}
use mir.Facts.{to_z-of_z}
use borrow.Author.Tests.{le-ltb}
use Rattle.std.proofs.lemmas.Bool.Decides.{nat_tests}
use mathlib.Core.Bool.{false}
use Rattle.integers.specs.Linear.{◌⩽◌, lin, arith_z}
use Rattle.rules.specs.Refusal.{must}
use Rattle.rules.specs.Mask.{digit}
use Rattle.rules.specs.Cut.{is_neg, negatives}
use Rattle.rules.specs.Buffers.{over, bytes_of}
use Rattle.writing.specs.Written.{word_written}

-- ---- the sign
pub from_zero : (x : ℤ) → pos 0 ⩽ x → is_neg x ≡ false
from_zero (pos n) h = refl
from_zero (negsuc n) h = absurd h.le

sign_digit : (x : ℤ) → bool_byte (lt_z x (pos 0)) ≡ digit (is_neg x)
sign_digit (pos n) = ap bool_byte (le-ltb n 0 (omega arith)) ∙ sym (ap digit (from_zero (pos n) (simp lin (omega arith_z))))
sign_digit (negsuc n) = refl

pub sign_byte : (x : ℤ) → SFits w32 x → bool_byte (lt_z (to_z w32 (of_z w32 x)) (pos 0)) ≡ digit (is_neg x)
sign_byte x h = ap (λ z. bool_byte (lt_z z (pos 0))) (to_z-of_z h) ∙ sign_digit x

-- ---- a byte for each spin
pub bytes-length : (ss : List ℤ) → length (bytes_of (negatives ss)) ≡ length ss
bytes-length [] = refl
bytes-length (s ∷ ss) = ap suc (bytes-length ss)

-- ---- written
pub word-whole : (s : List ℤ) (w : List ℕ) → length s ≤ length w → word_written s w ≡ record { number = 0; bytes = over (bytes_of (negatives s)) w }
unfolding word_written must
word-whole s w h = grind (arith, nat_tests)
