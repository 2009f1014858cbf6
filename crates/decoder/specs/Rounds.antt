-- The rounds of a call as the loop does them: on buffers of exactly the stated lengths, without word and certificate, which are written at the end of
-- the call that certifies. Definitions only. Assumes nothing.
use Rattle.std.specs.Prelude.{◌≡◌, cond, List, [], ℕ, ◌≤◌, ◌<◌, length, get_or, replicate, ℤ, ◌-◌}
use Rattle.integers.specs.Sum.{AllWithin}
use Rattle.rules.specs.Limits.{frame_limit}
use Rattle.rules.specs.Table.{Table, edges, degree_of}
use Rattle.rules.specs.Buffers.{the, each, nought, lengths_of, needs, at_end}
use Rattle.rules.specs.Run.{running, Run, iterate, Safe, Status, certified, spent}

-- a frame for the table, and its bits' degrees
pub record Given (t : Table) (l : List ℤ) (ds : List ℕ) : Type 0 where
  pub size : length l ≡ t.bits
  pub frame : AllWithin frame_limit l
  pub room : t.bits ≤ length ds
  pub degrees : (i : ℕ) → i < t.bits → get_or ds i 0 ≡ degree_of i (edges t.checks)

-- a run's own, and with blank others as long as the table needs
abbrev pub looped : Run → Run
looped r = record { progress = r.progress; buffers = each (λ x. cond (at_end x) [] (the x r.buffers)) }

abbrev pub filled : Table → Run → Run
filled t r = record { progress = r.progress; buffers = each (λ x. cond (at_end x) (replicate (needs t x) (nought x)) (the x r.buffers)) }

-- k rounds on the frame l
unfoldable pub rounds_from : ℕ → List ℤ → Table → Run → Run
rounds_from k l t r = looped (iterate t l k (filled t r))

-- a running run on buffers of exactly the stated lengths, within 43's limits
pub record Steady (t : Table) (r : Run) : Type 0 where
  pub runs : r.progress.status ≡ running
  pub sizes : lengths_of (filled t r).buffers ≡ needs t
  pub safe : Safe t (filled t r)

-- the rounds still wanted where k were wanted before this one
abbrev pub left_by : Status → ℕ → ℕ
left_by running k = k - 1
left_by certified k = 0
left_by spent k = 0
