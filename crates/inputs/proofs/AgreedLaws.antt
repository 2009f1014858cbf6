-- The agreement's sum in a machine number, one bit more. Assumes nothing.
use mathlib.Core.Path.{◌≡◌, refl, sym, ◌∙◌, ap, ap₂, subst}
use mathlib.Core.List.{List, [], ◌∷◌}
use Prim.Native.Nat.{ℕ, zero, suc, ◌+◌, ◌*◌, ◌≤◌, ◌<◌, min}
use native.Mathlib.Omega.{arith}
use native.Mathlib.Numerals.{add-one}
use lib.ListN.{length, get_or, take}
use lib.IntN.{pos, ℤ, ◌+ℤ◌}
use mir.Syntax.{w64}
use mir.Val.{SFits, to_z, of_z}
use mir.Facts.{to_z-of_z}
use Rattle.std.proofs.lemmas.List.{get_or-take, length-take}
use Rattle.integers.specs.Linear.{lin, arith_z, Within}
use Rattle.integers.specs.Machine.{reads}
use Rattle.integers.specs.Order.{within-zero, within_wider}
use Rattle.rules.specs.Limits.{max_bits, frame_size}
use Rattle.rules.specs.Table.{at, bit}
use Rattle.rules.specs.Parity.{turn, agreement}
use Rattle.rules.specs.Input.{bit_of_byte, bits_of}
use Rattle.inputs.specs.Agreed.{shared_bits, agreed, agreement_limit}

pub bits-at : (w : List ℕ) (i : ℕ) → bit (bits_of w) i ≡ bit_of_byte (get_or w i 0)
bits-at [] zero = refl
bits-at [] (suc i) = refl
bits-at (b ∷ w) zero = refl
bits-at (b ∷ w) (suc i) = bits-at w i

-- a frame number under the word's bit
abbrev pub number_under : List ℤ → List ℕ → ℕ → ℤ
number_under l w i = turn (bit_of_byte (get_or w i 0)) (at l i)

agreement-next : (l : List ℤ) (w : List ℕ) (i : ℕ) → agreement (i + 1) l (bits_of w) ≡ agreement i l (bits_of w) +ℤ number_under l w i
unfolding agreement
agreement-next l w i = ap (λ k. agreement k l (bits_of w)) (add-one i) ∙ ap (λ b. agreement i l (bits_of w) +ℤ turn b (at l i)) (bits-at w i)

-- ---- the first i bits' sum t
pub record Added (l : List ℤ) (w : List ℕ) (i : ℕ) (t : ℤ) : Type 0 where
  pub value : t ≡ agreement i l (bits_of w)
  pub size : Within (frame_size * i) t

pub added_none : (l : List ℤ) (w : List ℕ) → Added l w 0 (pos 0)
unfolding agreement
added_none l w = record { value = refl; size = within-zero 0 }

sum_fits : (i : ℕ) (t r : ℤ) → i < max_bits → Within (frame_size * i) t → Within frame_size r → SFits w64 (t +ℤ r)
sum_fits i t r = simp lin (omega arith_z)

sum-within : (i : ℕ) (t r : ℤ) → Within (frame_size * i) t → Within frame_size r → Within (frame_size * (i + 1)) (t +ℤ r)
sum-within i t r = simp lin (omega arith_z)

module _ {l : List ℤ} {w : List ℕ} {i : ℕ} {t r : ℤ} (h : Added l w i t) (few : i < max_bits) (f : SFits w64 r) (small : Within frame_size r) where
  pub added-fits : SFits w64 (t +ℤ to_z w64 (of_z w64 r))
  added-fits = subst (λ z. SFits w64 (t +ℤ z)) (sym (to_z-of_z f)) (sum_fits i t r few h.size small)

  pub added_more : r ≡ number_under l w i → Added l w (i + 1) (to_z w64 (of_z w64 (t +ℤ to_z w64 (of_z w64 r))))
  added_more e =
      let sum = reads added-fits (ap (λ z. t +ℤ z) (to_z-of_z f)) in
      record {
        value = sum ∙ ap₂ ◌+ℤ◌ h.value e ∙ sym (agreement-next l w i);
        size = subst (Within (frame_size * (i + 1))) (sym sum) (sum-within i t r h.size small);
      }

-- ---- over the first n numbers and the word, until one of them ends
module _ (l : List ℤ) (w : List ℕ) (n k : ℕ) where
  pub turned-is : (x : ℤ) (b : ℕ) → k < length (take n l) → ((d : ℤ) → x ≡ get_or (take n l) k d) → ((d : ℕ) → b ≡ get_or (take n w) k d)
      → turn (bit_of_byte b) x ≡ number_under l w k
  turned-is x b h e f =
      let inside : k < n = omega (arith, length-take n l) in
      ap₂ (λ b x. turn (bit_of_byte b) x) (f 0 ∙ get_or-take n w k 0 inside) (e (pos 0) ∙ get_or-take n l k (pos 0) inside)

  pub turned-few : n ≤ max_bits → k < length (take n l) → k < max_bits
  turned-few e h = omega (arith, length-take n l)

  pub turned-all : n ≤ length l → min n (length w) ≡ shared_bits l w → k ≡ min (length (take n l)) (length w) → k ≡ shared_bits l w
  turned-all e f h = omega (arith, length-take n l)

-- of all bits that both have
pub added-all : {l : List ℤ} {w : List ℕ} {i : ℕ} {t : ℤ} → Added l w i t → i ≡ shared_bits l w → (t ≡ agreed l w) × Within agreement_limit t
unfolding agreed
added-all {l} {w} {i} {t} h e = (h.value ∙ ap (λ n. agreement n l (bits_of w)) e, within_wider (frame_size * i) agreement_limit t (omega arith) h.size)

-- ---- where word and frame are equally long
pub agreed-whole : (l : List ℤ) (w : List ℕ) → length w ≡ length l → length l ≤ max_bits → agreed l w ≡ agreement (length l) l (bits_of w)
unfolding agreed
agreed-whole l w e h = ap (λ n. agreement n l (bits_of w)) (least (length l) (length w) e h)
  where
    least : (n k : ℕ) → k ≡ n → n ≤ max_bits → min max_bits (min n k) ≡ n
    least n k e h = omega arith
