-- Masks of cuts: a side change flips a bit, and the mask tells the cut. Assumes nothing.
use mathlib.Core.Path.{◌≡◌, refl, sym, ◌∙◌, ap, ap₂}
use mathlib.Core.Bool.{Bool, true, false, false≢true}
use mathlib.Core.List.{List, [], ◌∷◌}
use mathlib.Core.Option.{Option, some, none}
use Prim.Native.Nat.{ℕ, zero, suc, ◌+◌, ◌*◌, ◌/◌, ◌%◌, ◌^◌, ◌<◌}
use native.Mathlib.Omega.{arith}
use native.Mathlib.Nat.{le_of_suc-le-suc, pow-suc}
use lib.Bits.{bit_xor, xor_step, xor_zero_r, differ}
use lib.ListN.{length}
use lib.IntN.{ℤ}
use Rattle.rules.specs.Parity.{odd}
use Rattle.rules.specs.Mask.{mask_of, set_of}
use Rattle.rules.specs.Cut.{cut}
use Rattle.rules.proofs.Signs.{alike-length}
use Rattle.rules.proofs.Masks.{digit_low, digit-half, set-mask}
use Rattle.rules.proofs.CutRule.{cut-sound}
use Rattle.cut.specs.CutMask.{cut_mask}
use Rattle.cut.proofs.SideLaws.{change_side}

-- ---- a side change flips its bit
pow-half : (k : ℕ) → 2 ^ suc k / 2 ≡ 2 ^ k
pow-half k = omega (arith, pow-suc 2 k)

pow_even : (k : ℕ) → 2 ^ suc k % 2 ≡ 0
pow_even k = omega (arith, pow-suc 2 k)

double : (m : ℕ) → m * 2 + 0 ≡ 0 + 2 * m
double m = omega arith

double-one : (m : ℕ) → m * 2 + 1 ≡ 1 + 2 * m
double-one m = omega arith

bits : (m n a b c d : ℕ) → m / 2 ≡ a → n / 2 ≡ b → m % 2 ≡ c → n % 2 ≡ d → bit_xor m n ≡ bit_xor a b * 2 + differ c d
bits m n a b c d p q r s = xor_step m n ∙ ap₂ (λ x y. x * 2 + y) (ap₂ bit_xor p q) (ap₂ differ r s)

pub mask-change : (k : ℕ) (ts : List Bool) → k < length ts → bit_xor (mask_of ts) (2 ^ k) ≡ mask_of (change_side k ts)
mask-change k [] h = absurd (omega arith)
mask-change zero (true ∷ ts) h =
    bits (1 + 2 * mask_of ts) 1 (mask_of ts) 0 1 1 (digit-half true (mask_of ts)) refl (digit_low true (mask_of ts)) refl
    ∙ ap (λ n. n * 2 + 0) (xor_zero_r (mask_of ts))
    ∙ double (mask_of ts)
mask-change zero (false ∷ ts) h =
    bits (0 + 2 * mask_of ts) 1 (mask_of ts) 0 0 1 (digit-half false (mask_of ts)) refl (digit_low false (mask_of ts)) refl
    ∙ ap (λ n. n * 2 + 1) (xor_zero_r (mask_of ts))
    ∙ double-one (mask_of ts)
mask-change (suc k) (true ∷ ts) h =
    bits (1 + 2 * mask_of ts) (2 ^ suc k) (mask_of ts) (2 ^ k) 1 0 (digit-half true (mask_of ts)) (pow-half k) (digit_low true (mask_of ts)) (pow_even k)
    ∙ ap (λ n. n * 2 + 1) (mask-change k ts (le_of_suc-le-suc h))
    ∙ double-one (mask_of (change_side k ts))
mask-change (suc k) (false ∷ ts) h =
    bits (0 + 2 * mask_of ts) (2 ^ suc k) (mask_of ts) (2 ^ k) 0 0 (digit-half false (mask_of ts)) (pow-half k) (digit_low false (mask_of ts)) (pow_even k)
    ∙ ap (λ n. n * 2 + 0) (mask-change k ts (le_of_suc-le-suc h))
    ∙ double (mask_of (change_side k ts))

-- ---- the cut is read back from its mask: 0 is none, and any other mask is the set's
pub odd-some : (ts : List Bool) → odd ts ≡ true → mask_of ts ≡ 0 → ⊥
odd-some [] o e = false≢true o
odd-some (true ∷ ts) o e = omega arith
odd-some (false ∷ ts) o e = odd-some ts o (half (mask_of ts) e)
  where
    half : (m : ℕ) → 0 + 2 * m ≡ 0 → m ≡ 0
    half m e = omega arith

module _ (u : ℕ) (ss : List ℤ) where
  pub mask-none : cut_mask (cut u ss) ≡ 0 → cut u ss ≡ none
  mask-none e = go (cut u ss) refl e
    where
      go : (o : Option (List Bool)) → cut u ss ≡ o → cut_mask o ≡ 0 → cut u ss ≡ none
      go none p e = p
      go (some vs) p e = absurd (odd-some vs (cut-sound u ss vs p).is_odd e)

  pub mask-some : (m : ℕ) → m ≡ cut_mask (cut u ss) → (m ≡ 0 → ⊥) → cut u ss ≡ some (set_of (length ss) m)
  mask-some m e f = go (cut u ss) refl e
    where
      go : (o : Option (List Bool)) → cut u ss ≡ o → m ≡ cut_mask o → cut u ss ≡ some (set_of (length ss) m)
      go none p e = absurd (f e)
      go (some vs) p e = p ∙ ap some (sym (ap₂ set_of (alike-length vs ss (cut-sound u ss vs p).long) e ∙ set-mask vs))
