-- A loop that tests member after member: what is found up to i and the members from i on decide. Assumes nothing.
use mathlib.Core.Path.{◌≡◌, refl, sym, ◌∙◌, ap}
use mathlib.Core.Bool.{Bool, ◌&&◌, and-true, and_assoc}
use mathlib.Core.List.{List, [], ◌∷◌}
use Prim.Native.Nat.{ℕ, ◌+◌, ◌<◌, ◌≤◌}
use lib.ListN.{length, get_or, drop, drop_of_length-le}
use Rattle.std.specs.List.{list_all}
use Rattle.rules.proofs.StoreLaws.{drop-next}
use Rattle.spin.specs.Every.{every}

-- the code's tests are std's
pub every-all : {A : Type 0} (test : A → Bool) (l : List A) → every test l ≡ list_all test l
every-all test [] = refl
every-all test (x ∷ l) = ap (λ b. test x && b) (every-all test l)

-- No proof cites these any more, since the check finds what they say.
module _ {A : Type 0} (test : A → Bool) (l : List A) (i : ℕ) {all : Bool} (found : Bool) (p : all ≡ (found && every test (drop i l))) where
  pub every_more : (d : A) (more : Bool) → i < length l → more ≡ (found && test (get_or l i d)) → all ≡ (more && every test (drop (i + 1) l))
  every_more d more h e =
      let rest = every test (drop (i + 1) l) in
      p ∙ ap (λ m. found && every test m) (drop-next l i d h) ∙ sym (and_assoc found (test (get_or l i d)) rest) ∙ ap (λ b. b && rest) (sym e)

  pub every-end : length l ≤ i → all ≡ found
  every-end h = p ∙ ap (λ m. found && every test m) (drop_of_length-le l h) ∙ and-true found
