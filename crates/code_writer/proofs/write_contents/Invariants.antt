-- What is written and the contents from check j on make the slice.
use Rattle.std.proofs.Common.{◌≡◌, ◌+◌, ◌*◌, ◌≤◌, length, drop}
use Rattle.std.proofs.lemmas.List.Edits.{sets}
use Rattle.rules.specs.FileBytes.{bytes16, content_numbers}
use Rattle.code_writer.proofs.write_contents.Given as goal

abbrev pub invariant-loop-j : goal.invariant-loop-j
invariant-loop-j l =
    (l.start ≤ 65535 * l.j) × (length l.file ≡ length l.initial.file)
    × (sets l.file (4 + 4 * l.j) (bytes16 (content_numbers l.start (drop l.j l.counts))) ≡ sets l.initial.file 4 (bytes16 (content_numbers 0 l.counts)))
