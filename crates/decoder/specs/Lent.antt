-- A run as a contract has it: in a record and in slices that the call is lent, as they come and as they are left. Definitions only. Assumes nothing.
use Rattle.std.specs.Prelude.{◌≡◌, List, ℕ, ℤ}
use denote.Triple.Both.{Both}
use Rattle.rules.specs.Buffers.{Buffers, round_lent}
use Rattle.rules.specs.Run.{Run, Called}
use Rattle.run.specs.declared.Record.{Record}
use Rattle.run.specs.Reply.{progress_of}
use Rattle.run.specs.Slices.{Slice}
use Rattle.decoder.specs.declared.Called as declared
use Rattle.decoder.specs.Passed.{Passed, passed_to}
use Rattle.decoder.specs.Finished.{Ending, ended_to}
use Rattle.decoder.specs.Reply.{outcome_of}

-- a run in its record and its buffers: all of them, and those that a round writes
abbrev pub run_in : Record → Buffers → Run
run_in p b = record { progress = progress_of p; buffers = b }

abbrev pub loop_in : Record → List ℤ → List ℤ → List ℤ → List ℤ → List ℕ → List ℕ → List ℕ → Run
loop_in p s z y x b k d = run_in p (round_lent s z y x b k d)

-- ---- f makes what is left, record q and buffers, of what came, record p and the same buffers
abbrev pub RunBecomes : (Run → Run) → Record → Record → Both Buffers Buffers → Type 0
RunBecomes f p q b = run_in q b.exit ≡ f (run_in p b.entry)

abbrev pub LoopBecomes : (Run → Run) → Record → Record → Slice ℤ → Slice ℤ → Slice ℤ → Slice ℤ → Slice ℕ → Slice ℕ → Slice ℕ → Type 0
LoopBecomes f p q s z y x b k d =
    loop_in q s.exit.now z.exit.now y.exit.now x.exit.now b.exit.now k.exit.now d.exit.now
    ≡ f (loop_in p s.entry.now z.entry.now y.entry.now x.entry.now b.entry.now k.entry.now d.entry.now)

-- the same with the call's answer
abbrev pub CallBecomes : (Run → Called) → Record → declared.Called → Both Buffers Buffers → Type 0
CallBecomes f p a b = (record { answer = outcome_of a.outcome; run = run_in a.run b.exit }) ≡ f (run_in p b.entry)

-- what a pass writes, and what the end of a run writes
abbrev pub PassBecomes : (Passed → Passed) → Slice ℤ → Slice ℤ → Slice ℤ → Slice ℕ → Slice ℕ → Slice ℕ → Type 0
PassBecomes f z y x b k d =
    passed_to z.exit.now y.exit.now x.exit.now b.exit.now k.exit.now d.exit.now
    ≡ f (passed_to z.entry.now y.entry.now x.entry.now b.entry.now k.entry.now d.entry.now)

abbrev pub EndBecomes : (Ending → Ending) → Slice ℕ → Slice ℕ → Type 0
EndBecomes f w c = ended_to w.exit.now c.exit.now ≡ f (ended_to w.entry.now c.entry.now)
