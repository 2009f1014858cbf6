-- What is written and the contents of what the iterators have left make the slice.
use Rattle.std.proofs.Common.{◌≡◌, ◌+◌, ◌*◌, ◌≤◌, length}
use Rattle.std.proofs.lemmas.List.Edits.{sets}
use Rattle.std.specs.Slice.Iter.{iter_rest}
use Rattle.writing.specs.Written.{contents_from}
use Rattle.writing.proofs.entries.write_contents.Given as goal

abbrev pub invariant-loop-j : goal.invariant-loop-j
invariant-loop-j l =
    (l.at + 6 * length (iter_rest l.j-iterator.iter.b) ≤ length l.bytes)
    × (l.at + length (contents_from l.j-iterator.count (iter_rest l.j-iterator.iter.a) (iter_rest l.j-iterator.iter.b)) ≡ l.from + length (contents_from 0 l.multipliers l.masks))
    × (sets l.bytes l.at (contents_from l.j-iterator.count (iter_rest l.j-iterator.iter.a) (iter_rest l.j-iterator.iter.b)) ≡ sets l.initial.bytes l.from (contents_from 0 l.multipliers l.masks))
