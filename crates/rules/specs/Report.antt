-- The frame report (document 01, "The frame report"): how much of the input is the code file, and what the program prints of each frame. Definitions,
-- and the lengths of a few files by computation. Assumes nothing.
use Rattle.std.specs.Prelude.{◌≡◌, refl, cond, ◌||◌, List, [], ◌∷◌, map, ℕ, ltb, length, take, ℤ}
use Rattle.rules.specs.Limits.{max_checks, max_edges, contents_end, file_length, round_limit}
use Rattle.rules.specs.Refusal.{Answer, refused, gives}
use Rattle.rules.specs.Bytes.{u16_at}
use Rattle.rules.specs.Table.{Table}
use Rattle.rules.specs.Parity.{agreement}
use Rattle.rules.specs.CodeFile.{contents, total_count, code_file}
use Rattle.rules.specs.Input.{bits_of}
use Rattle.rules.specs.Buffers.{needs, blank}
use Rattle.rules.specs.Run.{Status, running, certified, spent, Run, Called, call}
use Rattle.rules.specs.Calls.{started_run}

-- ---- the code file on standard input
-- "The code file is as long as its contents say": from how many of its bytes are there, m and E. The four in front say m, and the contents E. A file of
-- more than 2,048 checks (2) or 8,192 edges (3 or 4) is refused whatever follows, so nothing more of it is asked for.
abbrev pub announced_by : ℕ → ℕ → ℕ → ℕ
announced_by have m e =
    cond (ltb have 4 || ltb max_checks m) 4
    (cond (ltb have (contents_end m) || ltb max_edges e) (contents_end m) (file_length m e))

-- what the bytes read so far say
unfoldable pub announced : List ℕ → ℕ
announced bs = announced_by (length bs) (u16_at bs 2) (total_count (contents bs 0 (u16_at bs 2)))

-- the code file at the front of an input: read on to what is announced, first by no bytes, then by the first four, then by the contents
abbrev pub file_in : List ℕ → List ℕ
file_in input = take (announced (take (announced (take (announced []) input)) input)) input

-- document 01's 14 bytes, with a frame behind them
abbrev file_and_frame : List ℕ
file_and_frame = 3 ∷ 0 ∷ 1 ∷ 0 ∷ 0 ∷ 0 ∷ 3 ∷ 0 ∷ 0 ∷ 0 ∷ 1 ∷ 0 ∷ 2 ∷ 0 ∷ 160 ∷ 15 ∷ 160 ∷ 15 ∷ 48 ∷ 248 ∷ []

-- as they come
announced-coming : map (λ have. announced (take have file_and_frame)) (2 ∷ 4 ∷ 8 ∷ 14 ∷ 20 ∷ []) ≡ 4 ∷ 8 ∷ 14 ∷ 14 ∷ 14 ∷ []
unfolding announced u16_at contents total_count
announced-coming = refl

-- 2,049 checks; a count of 8,193
announced-large : map announced ((3 ∷ 0 ∷ 1 ∷ 8 ∷ 0 ∷ 0 ∷ 3 ∷ 0 ∷ []) ∷ (3 ∷ 0 ∷ 1 ∷ 0 ∷ 0 ∷ 0 ∷ 1 ∷ 32 ∷ 0 ∷ 0 ∷ []) ∷ []) ≡ 4 ∷ 8 ∷ []
unfolding announced u16_at contents total_count
announced-large = refl

-- ---- a frame's line
-- "After certified: rounds, agreement, cuts"
pub data Line : Type 0 where
  refused_line : ℕ → Line
  certified_line : ℕ → ℤ → ℕ → Line
  spent_line : ℕ → Line
  running_line : ℕ → Line

abbrev pub line_at : Table → List ℤ → Run → Answer Status → Line
line_at t l r (refused k) = refused_line k
line_at t l r (gives running) = running_line r.progress.rounds
line_at t l r (gives certified) =
    certified_line r.progress.rounds (agreement t.bits l (bits_of (take t.bits r.buffers.word))) (u16_at r.buffers.certificate 0)
line_at t l r (gives spent) = spent_line r.progress.rounds

-- of what a call came to
abbrev pub line_after : Table → List ℤ → Called → Line
line_after t l d = line_at t l d.run d.answer

-- "each frame gets a fresh run of 1,024 rounds"
abbrev pub line_by : List ℕ → List ℤ → Answer Table → Line
line_by file l (refused k) = refused_line k
line_by file l (gives t) = line_after t l (call file l round_limit (started_run file (blank (needs t))))

unfoldable pub frame_line : List ℕ → List ℤ → Line
frame_line file l = line_by file l (code_file file)
