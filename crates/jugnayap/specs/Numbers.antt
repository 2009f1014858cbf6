-- What the functions of the C interface return: its version, and the rest made of rules' own replies and calls. Definitions only. Assumes nothing.
use Rattle.std.specs.Prelude.{◌≡◌, List, ℕ, zero, suc, ◌+◌, ◌*◌, get_or, ℤ, pos, nat_abs}
use Rattle.std.proofs.Math.Option.{Option, some, none}
use Rattle.rules.specs.Limits.{round_limit}
use Rattle.rules.specs.Refusal.{Answer, refused, gives, Reply, reply_of}
use Rattle.rules.specs.Cut.{Violation}
use denote.Triple.Both.{Both}
use Rattle.rules.specs.Buffers.{Buffers, start_lent}
use Rattle.rules.specs.Run.{Status, running, certified, spent, status_number, status_values, Progress, progress_values, Run, Called, call, Started, start}
use Rattle.run.specs.Slices.{Slice, came, left}
use Rattle.jugnayap.specs.declared.JugnayapTable.{JugnayapTable}
use Rattle.jugnayap.specs.declared.JugnayapCut.{JugnayapCut}
use Rattle.jugnayap.specs.declared.JugnayapVerdict.{JugnayapVerdict}
use Rattle.jugnayap.specs.declared.JugnayapAgreement.{JugnayapAgreement}
use Rattle.jugnayap.specs.declared.JugnayapRun.{JugnayapRun}
use Rattle.jugnayap.specs.declared.JugnayapCalled.{JugnayapCalled}

-- ---- the version, 0.4.0, as one number that grows with it
abbrev pub version_number : ℕ → ℕ → ℕ → ℕ
version_number major minor patch = major * 10000 + minor * 100 + patch

abbrev pub version : ℕ
version = version_number 0 4 0

-- ---- a reply as a struct: its number, then its values in their order, 0 where there is none
abbrev pub signed : Reply → ℕ → ℤ
signed r i = get_or r.values i (pos 0)

-- of a value that is never negative
abbrev pub unsigned : Reply → ℕ → ℕ
unsigned r i = nat_abs (signed r i)

abbrev pub table_from : Reply → JugnayapTable
table_from r = record { number = r.number; bits = unsigned r 0; checks = unsigned r 1; edges = unsigned r 2 }

abbrev pub cut_from : Reply → JugnayapCut
cut_from r = record { number = r.number; mask = unsigned r 0; depth = unsigned r 1 }

-- the same of a mask and its depth, or none
abbrev pub mask_from : Answer (Option (Violation ℕ)) → JugnayapCut
mask_from (refused k) = record { number = k; mask = 0; depth = 0 }
mask_from (gives none) = record { number = 0; mask = 0; depth = 0 }
mask_from (gives (some v)) = record { number = 0; mask = v.set; depth = v.depth }

abbrev pub verdict_from : Reply → JugnayapVerdict
verdict_from r = record { number = r.number; kind = unsigned r 0; value = signed r 1; sole = unsigned r 2 }

abbrev pub agreement_from : Reply → JugnayapAgreement
agreement_from r = record { number = r.number; agreement = signed r 0 }

abbrev pub started_from : Reply → JugnayapCalled
started_from r = record { number = r.number; run = record { rounds = unsigned r 0; status = unsigned r 1 } }

-- ---- what a start or a call for rounds returns and leaves
pub record Left : Type 0 where
  pub called : JugnayapCalled
  pub buffers : Buffers

abbrev pub left_as : JugnayapCalled → Buffers → Left
left_as r b = record { called = r; buffers = b }

abbrev pub start_left : Started → Left
start_left d = left_as (started_from (reply_of progress_values d.answer)) d.buffers

-- ---- the record: the rounds done, and 0 running, 1 certified, 2 spent
abbrev pub run_numbers : Progress → JugnayapRun
run_numbers p = record { rounds = p.rounds; status = status_number p.status }

abbrev pub status_at : ℕ → Option Status
status_at zero = some running
status_at (suc zero) = some certified
status_at (suc (suc zero)) = some spent
status_at (suc (suc (suc s))) = none

-- A record of unknown status is handed on as a running one that has done 1,024 rounds: a call refuses that with 43 in 43's turn.
abbrev pub progress_by : ℕ → Option Status → Progress
progress_by k none = record { rounds = round_limit; status = running }
progress_by k (some s) = record { rounds = k; status = s }

abbrev pub progress_at : JugnayapRun → Progress
progress_at h = progress_by h.rounds (status_at h.status)

-- the run that is handed in as numbers and buffers
abbrev pub run_from : JugnayapRun → Buffers → Run
run_from h b = record { progress = progress_at h; buffers = b }

-- ---- a call for rounds: a record of unknown status comes back as handed in
abbrev pub run_after : Option Status → JugnayapRun → Progress → JugnayapRun
run_after none h p = h
run_after (some s) h p = run_numbers p

abbrev pub called_from : JugnayapRun → Answer Status → Progress → JugnayapCalled
called_from h a p = record { number = (reply_of status_values a).number; run = run_after (status_at h.status) h p }

abbrev pub called_by : JugnayapRun → Called → JugnayapCalled
called_by h d = called_from h d.answer d.run.progress

abbrev pub call_left : JugnayapRun → Called → Left
call_left h d = left_as (called_by h d) d.run.buffers

-- document 01's start and call, in numbers
abbrev pub start_numbers : List ℕ → Buffers → Left
start_numbers file b = start_left (start file b)

abbrev pub call_numbers : List ℕ → List ℤ → ℕ → JugnayapRun → Buffers → Left
call_numbers file l wanted h b = call_left h (call file l wanted (run_from h b))

-- ---- f makes what is returned, and what is left in the slices, of what came in them
abbrev pub StartBecomes : (Buffers → Left) → JugnayapCalled → Slice ℤ → Slice ℤ → Slice ℤ → Type 0
StartBecomes f r z y x = left_as r (start_lent (left z) (left y) (left x)) ≡ f (start_lent (came z) (came y) (came x))

abbrev pub NumbersBecome : (Buffers → Left) → JugnayapCalled → Both Buffers Buffers → Type 0
NumbersBecome f r b = left_as r b.exit ≡ f b.entry
