-- A claim's rows, and what it comes to (document 01, "Certificates"). Definitions only. Assumes nothing.
use Rattle.std.specs.Prelude.{Bool, List, ℤ, length}
use Rattle.rules.specs.Bound.{Row, bound}
use Rattle.rules.specs.Scatter.{Reduces}
use Rattle.rules.specs.Certificate.{scale_of, items_of, rows_at}
use Rattle.rules.specs.Judge.{Verdict}
use Rattle.judge.specs.declared.claim.Claim.{Claim}
use Rattle.judge.specs.Rows.{gap_on, sole_on}
use Rattle.judge.specs.Stages.{verdict_on}

abbrev pub rows_of : Claim → List Row
rows_of c = rows_at c.table.now (items_of c.certificate.now)

-- these are its reduced numbers
abbrev pub ReducedIn : Claim → List ℤ → Type 0
ReducedIn c r = Reduces (scale_of c.certificate.now) c.frame.now (rows_of c) r

abbrev pub bound_in : Claim → ℤ
bound_in c = bound (length c.frame.now) (scale_of c.certificate.now) c.frame.now (rows_of c)

abbrev pub gap_in : Claim → ℤ
gap_in c = gap_on c.table.now c.frame.now c.word.now c.certificate.now

abbrev pub sole_in : Claim → Bool
sole_in c = sole_on c.table.now c.frame.now c.certificate.now

abbrev pub verdict_in : Claim → Verdict
verdict_in c = verdict_on c.table.now c.frame.now c.word.now c.certificate.now
