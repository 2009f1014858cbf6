-- What `write` leaves of a table within document 01's limits is accepted, and is that table. Assumes nothing.
use mathlib.Core.Path.{◌≡◌, ◌∙◌, ap}
use mathlib.Core.List.{List}
use Prim.Native.Nat.{ℕ, ◌≤◌}
use native.Mathlib.Omega.{arith}
use lib.ListN.{length, take, drop}
use lib.Seq.{take_at}
use Rattle.rules.specs.Limits.{file_length}
use Rattle.rules.specs.Refusal.{gives}
use Rattle.rules.specs.Table.{Table, edges, edges_of, checks_of}
use Rattle.rules.specs.CodeFile.{code_file}
use Rattle.rules.specs.Buffers.{over}
use Rattle.rules.specs.FileBytes.{counts, file_bytes}
use Rattle.rules.specs.Sound.{Sound}
use Rattle.rules.proofs.FileBytesLaws.{counts-length, file-length, file-accepted}
use Rattle.code_writer.specs.Written.{Filled, file_written}
use Rattle.code_writer.proofs.WriterLaws.{whole}

-- `write` on the table's counts and members
abbrev pub table_written : Table → List ℕ → Filled
table_written t old = file_written t.bits (counts t.checks) (edges t.checks) old

module _ (t : Table) (sound : Sound t) (old : List ℕ) (room : file_length (checks_of t) (edges_of t) ≤ length old) where
  long : length (file_bytes t) ≡ file_length (checks_of t) (edges_of t)
  long = omega (arith, file-length t.bits (counts t.checks) (edges t.checks), counts-length t.checks)

  pub written-whole : table_written t old ≡ record { answer = gives (length (file_bytes t)); bytes = over (file_bytes t) old }
  written-whole = whole t.bits (counts t.checks) (edges t.checks) old (omega (arith, sound.checks.1, counts-length t.checks)) sound.few (omega (arith, counts-length t.checks))

  pub written-accepted : code_file (take (file_length (checks_of t) (edges_of t)) (table_written t old).bytes) ≡ gives t
  written-accepted = ap (λ w. code_file (take (file_length (checks_of t) (edges_of t)) w.bytes)) written-whole
      ∙ ap code_file (take_at (file_bytes t) (drop (length (file_bytes t)) old) (file_length (checks_of t) (edges_of t)) long)
      ∙ file-accepted t sound
