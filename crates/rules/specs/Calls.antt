-- A list of calls for rounds in one run, and what demand 3 says of such lists (document 01, "One round"; document 00, demand 3). Definitions only.
-- Assumes nothing.
use Rattle.std.specs.Prelude.{◌≡◌, Bool, cond, List, [], ◌∷◌, ℕ, ◌+◌, ◌-◌, eqb, take, ℤ}
use Rattle.rules.specs.Refusal.{Answer, refused, gives, multiplier_large}
use Rattle.rules.specs.Buffers.{Buffers, Lengths, part_of, over_all, bytes_of}
use Rattle.rules.specs.Run.{Status, certified, Run, Called, call, Started, start, fresh}

-- "A call in it may want any number of rounds, above 1,024 too, or be lent too short a part of a buffer"
pub record Call : Type 0 where
  pub wanted : ℕ
  pub lent : Lengths

-- The caller lends the first part of each buffer, and has it back as the call left it.
abbrev pub lend : Lengths → Run → Run
lend n r = record { progress = r.progress; buffers = part_of n r.buffers }

abbrev pub give_back : Called → Run → Called
give_back d r = record { answer = d.answer; run = record { progress = d.run.progress; buffers = over_all d.run.buffers r.buffers } }

unfoldable pub lent_call : List ℕ → List ℤ → Call → Run → Called
lent_call file l x r = give_back (call file l x.wanted (lend x.lent r)) r

-- "with record and buffers handed on as the last call left them": what each place of the list has
abbrev pub call_list : List ℕ → List ℤ → List Call → Run → List Called
call_list file l [] r = []
call_list file l (x ∷ xs) r = lent_call file l x r ∷ call_list file l xs (lent_call file l x r).run

-- A start is lent first parts too; it looks at those of the buffers that it zeroes.
abbrev pub start_on : List ℕ → Lengths → Buffers → Started
start_on file n b = start file (part_of n b)

-- "The list begins at what the start left"
abbrev pub started_run : List ℕ → Buffers → Run
started_run file b = record { progress = fresh; buffers = (start file b).buffers }

-- "The rounds wanted by its calls not refused", added up
abbrev pub wanted_by : Answer Status → ℕ → ℕ
wanted_by (refused k) v = 0
wanted_by (gives s) v = v

abbrev pub wanted_in : List Call → List Called → ℕ
wanted_in [] ds = 0
wanted_in (x ∷ xs) [] = 0
wanted_in (x ∷ xs) (d ∷ ds) = wanted_by d.answer x.wanted + wanted_in xs ds

-- the run after a list that began with r
abbrev pub run_after : Run → List Called → Run
run_after r [] = r
run_after r (d ∷ ds) = run_after d.run ds

-- "those wanted by its calls not refused, and those a call counted before 44, added up", of a run that had done n rounds before
abbrev pub counted_by : Answer Status → ℕ → ℕ → ℕ
counted_by (refused k) v n = cond (eqb k multiplier_large) n 0
counted_by (gives s) v n = v

abbrev pub counted_in : ℕ → List Call → List Called → ℕ
counted_in n [] ds = 0
counted_in n (x ∷ xs) [] = 0
counted_in n (x ∷ xs) (d ∷ ds) = counted_by d.answer x.wanted (d.run.progress.rounds - n) + counted_in d.run.progress.rounds xs ds

-- "A list certifies w if one of its calls answers certified and writes w; w took the rounds done by then. A call's multipliers are the m numbers it
-- leaves in their buffer": of n bits and m checks
pub record Says (n m : ℕ) (w : List Bool) (k : ℕ) (bs : List ℕ) (d : Called) : Type 0 where
  pub answers : d.answer ≡ gives certified
  pub writes : take n d.run.buffers.word ≡ bytes_of w
  pub took : d.run.progress.rounds ≡ k
  pub leaves : take m d.run.buffers.multipliers ≡ bs

pub data Certifies (n m : ℕ) (w : List Bool) (k : ℕ) (bs : List ℕ) : List Called → Type 0 where
  here : {d : Called} {ds : List Called} → Says n m w k bs d → Certifies n m w k bs (d ∷ ds)
  later : {d : Called} {ds : List Called} → Certifies n m w k bs ds → Certifies n m w k bs (d ∷ ds)
