-- What step 4 of a round finds (document 01, "One round"). Definitions only. Assumes nothing.
use Rattle.std.specs.Prelude.{List, ℕ, length, ℤ}
use Rattle.std.proofs.Math.Option.{Option}
use Rattle.rules.specs.Table.{at}
use Rattle.rules.specs.Cut.{negatives, keep}
use Rattle.rules.specs.Bound.{gap}
use Rattle.rules.specs.Round.{candidate}
use Rattle.decoder.specs.Closing.{met_by, rows_from}

-- the gap of a candidate that meets all checks, from the frame l, the checks cs, the round's spins s, multipliers bs and masks ks
unfoldable pub found : List ℤ → List (List ℕ) → List ℤ → List ℕ → List ℕ → Option ℤ
found l cs s bs ks = keep (met_by (candidate (length s) (at s)) cs) (gap (length s) 1 l (rows_from cs bs ks) (negatives s))
