-- The contract tells any two lines apart: each is read back from its view. Assumes nothing.
use mathlib.Core.Path.{◌≡◌, refl, ap}
use mathlib.Mathlib.Logic.Function.Defs.{LeftInverse-Injective}
use Rattle.std.specs.Prelude.{Result, Ok, Err}
use Rattle.rules.specs.Report as report
use Rattle.limits.specs.declared.refusals.Refusal.{Refusal}
use Rattle.limits.proofs.NumberLaws.{named, named-number}
use Rattle.reporting.specs.declared.Line.{Line}
use Rattle.reporting.specs.declared.Line.TheVariants.{Running, Certified, Spent}
use Rattle.reporting.specs.View.{line_of}

pub line-inj : (a b : Result Line Refusal) → line_of a ≡ line_of b → a ≡ b
line-inj = LeftInverse-Injective back line_of again
  where
    back : report.Line → Result Line Refusal
    back (report.refused_line k) = Err (named k)
    back (report.running_line n) = Ok (Running n)
    back (report.certified_line n a q) = Ok (Certified n a q)
    back (report.spent_line n) = Ok (Spent n)

    again : (a : Result Line Refusal) → back (line_of a) ≡ a
    again (Err k) = ap Err (named-number k)
    again (Ok (Running n)) = refl
    again (Ok (Certified n a q)) = refl
    again (Ok (Spent n)) = refl
