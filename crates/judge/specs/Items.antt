-- The code's entries as document 01's. Definitions only. Assumes nothing.
use Rattle.std.proofs.Math.Option as math
use Rattle.std.proofs.Math.Option.{some, none}
use Rattle.std.specs.Prelude.{Option, Some, None}
use Rattle.rules.specs.Certificate.{Item}
use Rattle.judge.specs.declared.entries.Entry.{Entry}

abbrev pub item_of : Entry → Item
item_of e = record { check = e.check; multiplier = e.multiplier; mask = e.mask }

-- the entry before, if any
abbrev pub item_before : Option Entry → math.Option Item
item_before None = none
item_before (Some e) = some (item_of e)
