-- Document 01's line for each case of the code's. Definitions only. Assumes nothing.
use Rattle.std.specs.Prelude.{Result, Ok, Err}
use Rattle.rules.specs.Report as report
use Rattle.limits.specs.Numbers.{number_of}
use Rattle.limits.specs.declared.refusals.Refusal.{Refusal}
use Rattle.reporting.specs.declared.Line.{Line}
use Rattle.reporting.specs.declared.Line.TheVariants.{Running, Certified, Spent}

abbrev pub line_of : Result Line Refusal → report.Line
line_of (Err k) = report.refused_line (number_of k)
line_of (Ok (Running n)) = report.running_line n
line_of (Ok (Certified n a q)) = report.certified_line n a q
line_of (Ok (Spent n)) = report.spent_line n
