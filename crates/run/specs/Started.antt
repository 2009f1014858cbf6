-- A start as a contract has it: its answer, and the slices that it is lent, as they come and as they are left. Definitions only. Assumes nothing.
use Rattle.std.specs.Prelude.{◌≡◌, List, ℤ, Result}
use Rattle.rules.specs.Refusal.{Answer}
use Rattle.rules.specs.Buffers.{Buffers, start_lent}
use Rattle.rules.specs.Run.{Progress, Started}
use Rattle.limits.specs.declared.refusals.Refusal.{Refusal}
use Rattle.run.specs.declared.Record.{Record}
use Rattle.run.specs.Reply.{started_of}
use Rattle.run.specs.Slices.{Slice, came, left}

abbrev pub started_as : Answer Progress → List ℤ → List ℤ → List ℤ → Started
started_as a z y x = record { answer = a; buffers = start_lent z y x }

-- f makes the answer, and what is left in copies, offsets and sums, of what came in them
abbrev pub StartBecomes : (Buffers → Started) → Result Record Refusal → Slice ℤ → Slice ℤ → Slice ℤ → Type 0
StartBecomes f r z y x = started_as (started_of r) (left z) (left y) (left x) ≡ f (start_lent (came z) (came y) (came x))
