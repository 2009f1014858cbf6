-- The contracts tell any two answers apart. Assumes nothing.
use mathlib.Core.Path.{◌≡◌, refl, sym, ap}
use mathlib.Core.List.{List}
use mathlib.Mathlib.Logic.Function.Defs.{LeftInverse-Injective}
use Prim.Native.Nat.{ℕ}
use lib.IntN.{ℤ}
use mathlib.Core.Option as logic
use mathlib.Core.Option.{some, none}
use Rattle.std.specs.Prelude.{Result, Ok, Err, Option, Some, None}
use Rattle.rules.specs.Cut as rule
use Rattle.limits.specs.declared.refusals.Refusal.{Refusal}
use Rattle.limits.proofs.NumberLaws.{number-inj, number-some, answer-inj}
use Rattle.cut.specs.declared.Cut.{Cut}
use Rattle.cut.specs.declared.Violation.{Violation}
use Rattle.cut.specs.Reply.{Found, violation_of, found_of, seen_of}

violation-inj : (a b : Option Violation) → violation_of a ≡ violation_of b → a ≡ b
violation-inj = LeftInverse-Injective back violation_of again
  where
    back : logic.Option (rule.Violation ℕ) → Option Violation
    back none = None
    back (some v) = Some (record { mask = v.set; depth = v.depth })

    again : (a : Option Violation) → back (violation_of a) ≡ a
    again None = refl
    again (Some v) = refl

pub found-inj : (a b : Found) → found_of a ≡ found_of b → a ≡ b
found-inj = answer-inj violation_of violation-inj

-- what is seen: the answer, and what is left in the buffer
pub seen-inj : (a b : Result Cut Refusal) (hs ks : List ℤ) → seen_of a hs ≡ seen_of b ks → (a ≡ b) × (hs ≡ ks)
seen-inj (Ok c) (Ok d) hs ks e = (ap (λ s. Ok (record { mask = s.mask; depth = s.depth; top = s.top })) e, ap (λ s. s.heights) e)
seen-inj (Ok c) (Err k) hs ks e = absurd (number-some k (sym (ap (λ s. s.number) e)))
seen-inj (Err j) (Ok d) hs ks e = absurd (number-some j (ap (λ s. s.number) e))
seen-inj (Err j) (Err k) hs ks e = (ap Err (number-inj j k (ap (λ s. s.number) e)), ap (λ s. s.heights) e)
