-- The tests of every element, as std's `list_all` of the code's own test. Assumes nothing.
use mathlib.Core.Path.{◌≡◌, refl, ◌∙◌, ap, ap₂, sym}
use mathlib.Core.Bool.{Bool, ◌&&◌, true}
use mathlib.Core.List.{List, [], ◌∷◌}
use Prim.Native.Nat.{ℕ, suc, ◌+◌, ◌≤◌, ◌<◌}
use native.Mathlib.Omega.{arith}
use lib.Dec.{leb}
use lib.IntN.{ℤ, pos, negsuc, neg_ℤ, nat_abs}
use lib.Signed.{le_z}
use Rattle.std.proofs.Common.{Some}
use Rattle.std.proofs.lemmas.Bool.Decides.{nat_tests}
use Rattle.std.specs.List.{list_all}
use Rattle.std.specs.Ordering.{partial_le, int_cmp}
use Rattle.rules.specs.Input.{each_within, each_bit}
use Rattle.inputs.proofs.RangeLaws.{in_range}
use native.Mathlib.Numerals.{add-one}
use lib.ListN.{length, get_or, drop, drop_of_length-le}
use lib.Seq.{drop-cons}

-- `<=` of signed numbers, by their `partial_cmp`
abbrev pub at_most : ℤ → ℤ → Bool
at_most = partial_le (λ x y. Some (int_cmp x y))

at_most-is : (x y : ℤ) → at_most x y ≡ le_z x y
at_most-is (pos a) (pos b) = grind (arith, nat_tests)
at_most-is (pos a) (negsuc b) = refl
at_most-is (negsuc a) (pos b) = refl
at_most-is (negsuc a) (negsuc b) = grind (arith, nat_tests)

between : (n : ℕ) (x : ℤ) → (at_most (neg_ℤ (pos n)) x && at_most x (pos n)) ≡ leb (nat_abs x) n
between n x = ap₂ ◌&&◌ (at_most-is (neg_ℤ (pos n)) x) (at_most-is x (pos n)) ∙ in_range n x

-- numbers from −n to n
pub each_within_is : (n : ℕ) (xs : List ℤ) → list_all (λ x. at_most (neg_ℤ (pos n)) x && at_most x (pos n)) xs ≡ each_within n xs
each_within_is n [] = refl
each_within_is n (x ∷ xs) = ap₂ ◌&&◌ (between n x) (each_within_is n xs)

pub each_bit_is : (w : List ℕ) → list_all (λ b. leb b 1) w ≡ each_bit w
each_bit_is [] = refl
each_bit_is (b ∷ w) = ap (λ r. leb b 1 && r) (each_bit_is w)

-- No proof cites these any more, since the check finds what they say.
module _ {A : Type 0} (d : A) (test : A → Bool) (each : List A → Bool) (nil : each [] ≡ true)
    (cons : (x : A) (xs : List A) → each (x ∷ xs) ≡ (test x && each xs)) (l : List A) (i : ℕ) where
  pub one_more : i < length l → each (drop i l) ≡ (test (get_or l i d) && each (drop (i + 1) l))
  one_more h = ap each (drop-cons l i d h) ∙ cons (get_or l i d) (drop (suc i) l) ∙ ap (λ k. test (get_or l i d) && each (drop k l)) (sym (add-one i))

  pub each_holds : i < length l → test (get_or l i d) ≡ true → each (drop i l) ≡ each (drop (i + 1) l)
  each_holds h e = one_more h ∙ ap (λ b. b && each (drop (i + 1) l)) e

  pub each-end : length l ≤ i → each (drop i l) ≡ true
  each-end h = ap each (drop_of_length-le l h) ∙ nil

pub within_end : (k : ℕ) (l : List ℤ) (i : ℕ) → length l ≤ i → each_within k (drop i l) ≡ true
within_end k = each-end (pos 0) (λ x. leb (nat_abs x) k) (each_within k) refl (λ x xs. refl)
