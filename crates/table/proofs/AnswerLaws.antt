-- What a test that holds, or fails, makes of a conjunction and of an answer. Assumes nothing.
use mathlib.Core.Path.{◌≡◌, ap}
use mathlib.Core.Bool.{Bool, true, false, ◌&&◌}
use mathlib.Core.List.{List, []}
use Prim.Native.Nat.{ℕ}
use lib.IntN.{ℤ}
use borrow.Author.Tests.{eq-eqb, ne_eqb}
use Rattle.rules.specs.Refusal.{Answer, must, reply_of}

pub and-fails : (a b : Bool) → a ≡ false → a && b ≡ false
and-fails a b e = ap (λ x. x && b) e

pub and-holds : (a b : Bool) → a ≡ true → a && b ≡ b
and-holds a b e = ap (λ x. x && b) e

module _ {A : Type 0} (f : A → List ℤ) (b : Bool) (k : ℕ) (a : Answer A) where
  pub must-fails : b ≡ false → reply_of f (must b k a) ≡ record { number = k; values = [] }
  unfolding must reply_of
  must-fails e = ap (λ x. reply_of f (must x k a)) e

  pub must-holds : b ≡ true → reply_of f (must b k a) ≡ reply_of f a
  unfolding must
  must-holds e = ap (λ x. reply_of f (must x k a)) e

pub ruleset must_steps = (must-fails, must-holds, eq-eqb, ne_eqb)
