-- What is written and what the iterators have left make the slice.
use Rattle.std.proofs.Common.{◌≡◌, length}
use Rattle.std.proofs.lemmas.List.Edits.{sets}
use Rattle.std.specs.Slice.Iter.{iter_rest}
use Rattle.file_numbers.proofs.put.Given as goal

abbrev pub invariant-loop-i : goal.invariant-loop-i
invariant-loop-i l =
    (l.i-iterator.a.end ≡ length l.bytes) × (sets l.bytes l.i-iterator.a.start (iter_rest l.i-iterator.b) ≡ sets l.initial.bytes l.at l.values)
