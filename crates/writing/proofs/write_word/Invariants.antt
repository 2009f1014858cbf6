-- What is written and the bytes from i on make the slice.
use Rattle.std.proofs.Common.{◌≡◌, length, drop}
use Rattle.std.proofs.lemmas.List.Edits.{sets}
use Rattle.rules.specs.Cut.{negatives}
use Rattle.rules.specs.Buffers.{bytes_of}
use Rattle.writing.proofs.write_word.Given as goal

abbrev pub invariant-loop-i : goal.invariant-loop-i
invariant-loop-i l =
    (length l.word ≡ length l.initial.word) × (sets l.word l.i (bytes_of (negatives (drop l.i l.spins))) ≡ sets l.initial.word 0 (bytes_of (negatives l.spins)))
