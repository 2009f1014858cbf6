-- What is written and the bodies from this mask on make the slice.
use Rattle.std.proofs.Common.{◌≡◌, ◌+◌, ◌-◌, ◌*◌, ◌≤◌, length, drop}
use Rattle.std.proofs.lemmas.List.Edits.{sets}
use Rattle.writing.specs.Written.{bodies_from}
use Rattle.writing.proofs.entries.write_bodies.Given as goal

abbrev pub invariant-loop-mask : goal.invariant-loop-mask
invariant-loop-mask l =
    (l.at + 4 * (length l.masks - l.mask-index) ≤ length l.bytes)
    × (sets l.bytes l.at (bodies_from (drop l.mask-index l.masks)) ≡ sets l.initial.bytes l.from (bodies_from l.masks))
