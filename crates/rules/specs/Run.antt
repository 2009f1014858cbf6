-- A run: its record, its start, a call for rounds, and what each buffer holds afterwards (document 01, "One round" and "Turned down because of how
-- the run stands"). Definitions only. Assumes nothing.
use Rattle.std.specs.Prelude.{◌≡◌, Bool, true, false, cond, ◌&&◌, ◌||◌, List, [], ◌∷◌, ℕ, zero, suc, ◌+◌, ◌*◌, ◌<◌, leb, ltb, eqb, take, ℤ, pos, ◌-ℤ◌}
use Rattle.std.proofs.Math.Option.{Option, some, none}
use Rattle.integers.specs.Sum.{AllWithin}
use Rattle.rules.specs.Limits.{unit, round_limit, offset_per_round, max_multiplier}
use Rattle.rules.specs.Refusal.{Answer, refused, gives, must, then, asked_too_much, buffer_short, run_ended, run_damaged, multiplier_large}
use Rattle.rules.specs.Table.{Table, edges, edges_of}
use Rattle.rules.specs.CodeFile.{code_file}
use Rattle.rules.specs.Input.{each_within, on_frame}
use Rattle.rules.specs.Step.{Entry}
use Rattle.rules.specs.Round.{State, is_zero, sums_of, Round, round}
use Rattle.rules.specs.Buffers.{Buffers, Lengths, lengths_of, needs, fits, write, fits_start, zeroing, multiplier_of, leaves}

-- "whether the run is running, certified or spent"
pub data Status : Type 0 where
  running : Status
  certified : Status
  spent : Status

-- "The run's record holds the rounds done and whether the run is running, certified or spent"
pub record Progress : Type 0 where
  pub rounds : ℕ
  pub status : Status

-- "a start gives 0 and running"
abbrev pub fresh : Progress
fresh = record { rounds = 0; status = running }

-- the record and the buffers, which are handed on from call to call
pub record Run : Type 0 where
  pub progress : Progress
  pub buffers : Buffers

-- ---- what a round leaves
abbrev pub written : Round → Buffers → Buffers
written d b = write (leaves d) b

-- "ends the run as certified"; "done 1,024 without a certificate it is spent"
abbrev pub status_at : ℕ → Option (List Bool) → Status
status_at k none = cond (leb round_limit k) spent running
status_at k (some w) = certified

abbrev pub moved : Run → Round → Run
moved r d = record {
  progress = record { rounds = suc r.progress.rounds; status = status_at (suc r.progress.rounds) d.word };
  buffers = written d r.buffers;
}

-- "44 a round's multiplier above 16,777,215"
abbrev pub too_large : List Entry → Bool
too_large [] = false
too_large (e ∷ es) = ltb max_multiplier (multiplier_of e) || too_large es

-- A run that has ended, or whose next round is refused with 44 ("that round is not counted and no buffer shows it"), stays.
abbrev pub next_by : Status → Run → Round → Run
next_by running r d = cond (too_large d.entries) r (moved r d)
next_by certified r d = r
next_by spent r d = r

abbrev pub state_in : Table → Buffers → State
state_in t b = record { copies = take (edges_of t) b.copies; offsets = take (edges_of t) b.offsets }

-- the n sums that a run carries, and those that its copies and offsets have
abbrev pub sums_in : Table → Buffers → List ℤ
sums_in t b = take t.bits b.sums

abbrev pub true_sums : Table → Buffers → List ℤ
true_sums t b = sums_of t.bits (edges t.checks) (state_in t b)

unfoldable pub next : Table → List ℤ → Run → Run
next t l r = next_by r.progress.status r (round t l (state_in t r.buffers))

-- "fewer are done if the run ends. 0 rounds change nothing"
unfoldable pub iterate : Table → List ℤ → ℕ → Run → Run
iterate t l zero r = r
iterate t l (suc k) r = iterate t l k (next t l r)

-- ---- refusals of a call: "then 17, 41, 42, 43"
abbrev pub is_running : Status → Bool
is_running running = true
is_running certified = false
is_running spent = false

-- "43 rounds done above 1,024, or 1,024 in a running run, a copy outside −U..U, or an offset beyond 8,192 × rounds done"
unfoldable pub limited : ℕ → State → Bool
limited k s = (ltb k round_limit && each_within unit s.copies) && each_within (offset_per_round * k) s.offsets

-- number by number the same
abbrev pub same : List ℤ → List ℤ → Bool
same [] [] = true
same [] (y ∷ ys) = false
same (x ∷ xs) [] = false
same (x ∷ xs) (y ∷ ys) = is_zero (x -ℤ y) && same xs ys

-- "and 43 a sum that isn't true": of n bits with the edges es
unfoldable pub sound : ℕ → List ℕ → ℕ → State → List ℤ → Bool
sound n es k s xs = limited k s && same xs (sums_of n es s)

abbrev pub sound_run : Table → Run → Bool
sound_run t r = sound t.bits (edges t.checks) r.progress.rounds (state_in t r.buffers) (sums_in t r.buffers)

-- 43's limits, and that the sums are true, as facts of a run that may have ended
pub record Safe (t : Table) (r : Run) : Type 0 where
  pub copies : AllWithin unit (state_in t r.buffers).copies
  pub offsets : AllWithin (offset_per_round * r.progress.rounds) (state_in t r.buffers).offsets
  pub sums : sums_in t r.buffers ≡ true_sums t r.buffers
  pub early : r.progress.status ≡ running → r.progress.rounds < round_limit

-- what a call with these parts lent must meet
unfoldable pub admits : Table → List ℤ → ℕ → Lengths → Run → Answer (Unit {0})
admits t l wanted lent r =
    on_frame t l
    (must (leb wanted round_limit) asked_too_much
    (must (fits (needs t) lent) buffer_short
    (must (is_running r.progress.status) run_ended
    (must (sound_run t r) run_damaged
    (gives tt)))))

-- ---- a call for rounds
-- "a call for rounds that neither is refused nor ends the run answers running"; running with fewer rounds done than due, the next was refused with 44
abbrev pub answer_at : Status → ℕ → ℕ → Answer Status
answer_at running done due = cond (eqb done due) (gives running) (refused multiplier_large)
answer_at certified done due = gives certified
answer_at spent done due = gives spent

pub record Called : Type 0 where
  pub answer : Answer Status
  pub run : Run

abbrev pub ran_on : ℕ → Run → Called
ran_on due r = record { answer = answer_at r.progress.status r.progress.rounds due; run = r }

-- "A refusal returns its number, the run's record unchanged, and no buffer changed"
abbrev pub refused_at : ℕ → Run → Called
refused_at k r = record { answer = refused k; run = r }

abbrev pub perform : Table → List ℤ → ℕ → Run → Answer (Unit {0}) → Called
perform t l wanted r (refused k) = refused_at k r
perform t l wanted r (gives u) = ran_on (r.progress.rounds + wanted) (iterate t l wanted r)

unfoldable pub call_on : Table → List ℤ → ℕ → Lengths → Run → Called
call_on t l wanted lent r = perform t l wanted r (admits t l wanted lent r)

abbrev pub call_by : List ℤ → ℕ → Run → Answer Table → Called
call_by l wanted r (refused k) = refused_at k r
call_by l wanted r (gives t) = call_on t l wanted (lengths_of r.buffers) r

-- any code file, frame, wanted number, record and lent buffers
unfoldable pub call : List ℕ → List ℤ → ℕ → Run → Called
call file l wanted r = call_by l wanted r (code_file file)

-- the values of the answer: 0 running, 1 certified, 2 spent
abbrev pub status_number : Status → ℕ
status_number running = 0
status_number certified = 1
status_number spent = 2

abbrev pub status_values : Status → List ℤ
status_values s = pos (status_number s) ∷ []

-- ---- a start
pub record Started : Type 0 where
  pub answer : Answer Progress
  pub buffers : Buffers

abbrev pub start_by : Buffers → Answer Table → Started
start_by b (refused k) = record { answer = refused k; buffers = b }
start_by b (gives t) = record { answer = gives fresh; buffers = write (zeroing t) b }

-- any code file and lent buffers: 1 to 7, then 41 for the buffers that a start zeroes
unfoldable pub start : List ℕ → Buffers → Started
start file b = start_by b (then (code_file file) (λ t. must (fits_start t (lengths_of b)) buffer_short (gives t)))

-- the values of the answer: the rounds done and the status of the record
abbrev pub progress_values : Progress → List ℤ
progress_values p = pos p.rounds ∷ pos (status_number p.status) ∷ []
