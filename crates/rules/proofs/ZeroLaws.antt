-- Whether a number is 0, as a spin and a gap are tested. Assumes nothing.
use mathlib.Core.Path.{◌≡◌, refl, ap}
use mathlib.Core.Bool.{true, false, false≢true}
use Prim.Native.Nat.{zero, suc}
use lib.IntN.{ℤ, pos, negsuc}
use Rattle.rules.specs.Round.{is_zero}

pub is_zero-is : (x : ℤ) → is_zero x ≡ true → x ≡ pos 0
is_zero-is (pos zero) e = refl
is_zero-is (pos (suc n)) e = absurd (false≢true e)
is_zero-is (negsuc n) e = absurd (false≢true e)

pub is-zero : (x : ℤ) → x ≡ pos 0 → is_zero x ≡ true
is-zero x e = ap is_zero e

pub not-zero : (x : ℤ) → (x ≡ pos 0 → ⊥) → is_zero x ≡ false
not-zero (pos zero) f = absurd (f refl)
not-zero (pos (suc n)) f = refl
not-zero (negsuc n) f = refl
