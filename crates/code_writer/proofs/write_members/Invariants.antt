-- What is written and the members from k on make the slice.
use Rattle.std.proofs.Common.{◌≡◌, ◌+◌, ◌*◌, length, drop}
use Rattle.std.proofs.lemmas.List.Edits.{sets}
use Rattle.rules.specs.FileBytes.{bytes16}
use Rattle.code_writer.proofs.write_members.Given as goal

abbrev pub invariant-loop-k : goal.invariant-loop-k
invariant-loop-k l =
    (length l.file ≡ length l.initial.file)
    × (sets l.file (l.from + 2 * l.k) (bytes16 (drop l.k l.members)) ≡ sets l.initial.file l.from (bytes16 l.members))
