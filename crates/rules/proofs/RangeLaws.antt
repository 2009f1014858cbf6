-- Every number of a list within a limit, as its test decides it; and lists that are the same, as theirs does. Assumes nothing.
use mathlib.Core.Path.{◌≡◌, refl, sym, ◌∙◌, ap, ap₂}
use mathlib.Core.Bool.{true, false, false≢true, ◌&&◌}
use mathlib.Core.List.{List, [], ◌∷◌}
use Prim.Native.Nat.{ℕ}
use lib.Dec.{leb}
use lib.IntN.{ℤ, pos, ◌-ℤ◌, nat_abs}
use borrow.Author.Tests.{leb-true, le-leb}
use Rattle.integers.specs.Linear.{lin, arith_z}
use Rattle.integers.specs.Product.{within, nat_abs-≤}
use Rattle.integers.specs.Sum.{AllWithin}
use Rattle.rules.specs.Input.{each_within}
use Rattle.rules.specs.Round.{is_zero}
use Rattle.rules.specs.Run.{same}
use Rattle.rules.proofs.Basics.{and_both}
use Rattle.rules.proofs.ZeroLaws.{is_zero-is, not-zero}

pub each_all : (u : ℕ) (zs : List ℤ) → each_within u zs ≡ true → AllWithin u zs
each_all u [] e = tt
each_all u (z ∷ zs) e =
    let p = and_both (leb (nat_abs z) u) (each_within u zs) e in
    (within u z (leb-true (nat_abs z) u p.0), each_all u zs p.1)

pub all-each : (m : ℕ) (zs : List ℤ) → AllWithin m zs → each_within m zs ≡ true
all-each m [] h = refl
all-each m (z ∷ zs) h = ap₂ ◌&&◌ (le-leb (nat_abs z) m (nat_abs-≤ z m h.0)) (all-each m zs h.1)

-- ---- lists that are the same
less-self : (x : ℤ) → x -ℤ x ≡ pos 0
less-self x = simp lin (omega arith_z)

less_none : (x y : ℤ) → x -ℤ y ≡ pos 0 → x ≡ y
less_none x y = simp lin (omega arith_z)

pub zero-less : {x y : ℤ} → x ≡ y → is_zero (x -ℤ y) ≡ true
zero-less {x} e = ap (λ z. is_zero (x -ℤ z)) (sym e) ∙ ap is_zero (less-self x)

pub more-or-less : (x y : ℤ) → (x ≡ y → ⊥) → is_zero (x -ℤ y) ≡ false
more-or-less x y f = not-zero (x -ℤ y) (λ e. f (less_none x y e))

pub same-equal : {xs ys : List ℤ} → xs ≡ ys → same xs ys ≡ true
same-equal {xs} e = ap (same xs) (sym e) ∙ go xs
  where
    go : (xs : List ℤ) → same xs xs ≡ true
    go [] = refl
    go (x ∷ xs) = ap₂ ◌&&◌ (ap is_zero (less-self x)) (go xs)

pub same-is : (xs ys : List ℤ) → same xs ys ≡ true → xs ≡ ys
same-is [] [] e = refl
same-is [] (y ∷ ys) e = absurd (false≢true e)
same-is (x ∷ xs) [] e = absurd (false≢true e)
same-is (x ∷ xs) (y ∷ ys) e =
    let p = and_both (is_zero (x -ℤ y)) (same xs ys) e in
    ap₂ ◌∷◌ (less_none x y (is_zero-is (x -ℤ y) p.0)) (same-is xs ys p.1)
