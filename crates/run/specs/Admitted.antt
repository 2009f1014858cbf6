-- The refusals of a call for rounds in the code's own numbers, and what admitting a call leaves. Definitions only. Assumes nothing.
use Rattle.std.specs.Prelude.{◌≡◌, List, ℕ, leb, take, ℤ, Result}
use Rattle.rules.specs.Limits.{round_limit}
use Rattle.rules.specs.Refusal.{Answer, refused, gives, must, then, asked_too_much, buffer_short, run_ended, run_damaged}
use Rattle.rules.specs.Table.{Table, edges, edges_of, checks_of}
use Rattle.rules.specs.Round.{State}
use Rattle.rules.specs.Buffers.{Lengths, needs_by, fits, over}
use Rattle.rules.specs.Run.{Progress, is_running, sound}
use Rattle.rules.specs.CodeFile.{code_file}
use Rattle.limits.specs.declared.refusals.Refusal.{Refusal}
use Rattle.limits.specs.Numbers.{answer_by}
use Rattle.table.specs.declared.Sizes as table
use Rattle.table.specs.Starts.{starts_of}
use Rattle.table.specs.Loaded.{with_room}
use Rattle.inputs.specs.Refusals.{frame_refusal, turned_down}
use Rattle.run.specs.Slices.{Slice, came, left, lent_of}
use Rattle.run.specs.declared.Lent.{Lent}

-- n, m and E
pub record Sizes : Type 0 where
  pub bits : ℕ
  pub checks : ℕ
  pub edges : ℕ

abbrev pub sizes_as : ℕ → ℕ → ℕ → Sizes
sizes_as n m e = record { bits = n; checks = m; edges = e }

abbrev pub sizes_of : Table → Sizes
sizes_of t = sizes_as t.bits (checks_of t) (edges_of t)

-- the lengths that are needed
abbrev pub needs_of : Sizes → Lengths
needs_of z = needs_by z.bits z.checks z.edges

-- those of the code
abbrev pub sizes_by : table.Sizes → Sizes
sizes_by z = sizes_as z.bits z.checks z.edges

abbrev pub admitted_of : Result table.Sizes Refusal → Answer Sizes
admitted_of = answer_by sizes_by

-- 8, 9, 17, 41, 42, 43, of a table with the edges es
unfoldable pub admits_by : Sizes → List ℕ → List ℤ → ℕ → Lengths → Progress → State → List ℤ → Answer Sizes
admits_by z es l wanted lent p s xs =
    turned_down (frame_refusal z.bits l)
    (must (leb wanted round_limit) asked_too_much
    (must (fits (needs_of z) lent) buffer_short
    (must (is_running p.status) run_ended
    (must (sound z.bits es p.rounds s xs) run_damaged
    (gives z)))))

-- the first e copies and offsets
abbrev pub first_state : ℕ → List ℤ → List ℤ → State
first_state e z y = record { copies = take e z; offsets = take e y }

-- the answer, and what is left in starts and members
pub record Admission : Type 0 where
  pub answer : Answer Sizes
  pub starts : List ℕ
  pub members : List ℕ

abbrev pub admission_as : Answer Sizes → List ℕ → List ℕ → Admission
admission_as a ss ms = record { answer = a; starts = ss; members = ms }

-- of a table that was accepted, starts and members are written whatever is refused after it
abbrev pub admission_by : Answer Table → List ℤ → ℕ → Lengths → Progress → List ℤ → List ℤ → List ℤ → List ℕ → List ℕ → Admission
admission_by (refused k) l wanted lent p z y x ss ms = admission_as (refused k) ss ms
admission_by (gives t) l wanted lent p z y x ss ms = record {
  answer = admits_by (sizes_of t) (edges t.checks) l wanted lent p (first_state (edges_of t) z y) (take t.bits x);
  starts = over (starts_of 0 t.checks) ss;
  members = over (edges t.checks) ms;
}

-- any code file, frame, wanted number, record and lent buffers: 1 to 7, then 41 for starts and members, then the rest
unfoldable pub admission : List ℕ → List ℤ → ℕ → Lengths → Progress → List ℤ → List ℤ → List ℤ → List ℕ → List ℕ → Admission
admission file l wanted lent p z y x ss ms = admission_by (then (code_file file) (with_room ss ms)) l wanted lent p z y x ss ms

-- the same of a call that tells what it lends
abbrev pub admission_lent : List ℕ → List ℤ → ℕ → Lent → Progress → List ℤ → List ℤ → List ℤ → List ℕ → List ℕ → Admission
admission_lent file l wanted lent p z y x ss ms = admission file l wanted (lent_of lent z y x) p z y x ss ms

-- f makes the answer, and what is left in the two slices, of what came in them
abbrev pub AdmitBecomes : (List ℕ → List ℕ → Admission) → Result table.Sizes Refusal → Slice ℕ → Slice ℕ → Type 0
AdmitBecomes f r ss ms = admission_as (admitted_of r) (left ss) (left ms) ≡ f (came ss) (came ms)
