-- What loading a code file answers and leaves in the two slices. Definitions only. Assumes nothing.
use Rattle.std.specs.Prelude.{◌&&◌, List, [], ◌∷◌, ℕ, leb, ltb, pos, length}
use Rattle.rules.specs.Refusal.{Answer, refused, gives, must, then, Reply, reply_of, buffer_short}
use Rattle.rules.specs.Table.{Table, edges, edges_of, checks_of}
use Rattle.rules.specs.CodeFile.{code_file, table_values}
use Rattle.rules.specs.Buffers.{over}
use Rattle.table.specs.Starts.{starts_of}

pub record Loaded : Type 0 where
  pub reply : Reply
  pub starts : List ℕ
  pub members : List ℕ

-- "41 a lent buffer too short": the m + 1 starts and the E members want room
unfoldable pub with_room : List ℕ → List ℕ → Table → Answer Table
with_room s ms t = must (ltb (checks_of t) (length s) && leb (edges_of t) (length ms)) buffer_short (gives t)

-- an answer and what the slices hold; a refusal's number; a table's n, m and E
abbrev pub loaded_as : Reply → List ℕ → List ℕ → Loaded
loaded_as q s ms = record { reply = q; starts = s; members = ms }

abbrev pub not_loaded : ℕ → List ℕ → List ℕ → Loaded
not_loaded k s ms = loaded_as (record { number = k; values = [] }) s ms

abbrev pub with_table : ℕ → ℕ → ℕ → List ℕ → List ℕ → Loaded
with_table n m e s ms = loaded_as (record { number = 0; values = pos n ∷ pos m ∷ pos e ∷ [] }) s ms

-- A refusal leaves both slices as they were; of a table, the starts and the members are written from the front.
unfoldable pub laid : Answer Table → List ℕ → List ℕ → Loaded
laid (refused k) s ms = record { reply = reply_of table_values (refused k); starts = s; members = ms }
laid (gives t) s ms = record {
  reply = reply_of table_values (gives t);
  starts = over (starts_of 0 t.checks) s;
  members = over (edges t.checks) ms;
}

unfoldable pub loaded : List ℕ → List ℕ → List ℕ → Loaded
loaded file s ms = laid (then (code_file file) (with_room s ms)) s ms
