-- What the report reads of a frame's run, and its line from that. Definitions only. Assumes nothing.
use Rattle.std.specs.Prelude.{List, ℕ, length, take, replicate, ℤ}
use Rattle.rules.specs.Limits.{max_bits, max_checks, max_edges, round_limit}
use Rattle.rules.specs.Refusal.{Answer, refused, gives}
use Rattle.rules.specs.Bytes.{u16_at}
use Rattle.rules.specs.Buffers.{word, certificate, Buffers, Lengths, needs_by, blank, end_lent}
use Rattle.rules.specs.Run.{Status, running, certified, spent, Called, call}
use Rattle.rules.specs.Calls.{started_run}
use Rattle.rules.specs.Report.{Line, refused_line, certified_line, spent_line, running_line}
use Rattle.inputs.specs.Agreed.{agreed}
use Rattle.decoder.specs.declared.Called as code
use Rattle.decoder.specs.Reply.{outcome_of}

-- no table needs longer buffers
abbrev pub greatest : Lengths
greatest = needs_by max_bits max_checks max_edges

abbrev pub blank_word : List ℕ
blank_word = replicate (greatest word) 0

abbrev pub blank_certificate : List ℕ
blank_certificate = replicate (greatest certificate) 0

-- the buffers of a frame's run: blank, but for word and certificate, which the caller lends
unfoldable pub lent_with : List ℕ → List ℕ → Buffers
lent_with w c = end_lent w c (blank greatest)

pub record Ran : Type 0 where
  pub answer : Answer Status
  pub rounds : ℕ
  pub word : List ℕ
  pub certificate : List ℕ

-- of the call as the definitions have it, and as the code's answer has it, with word and certificate as they are then
abbrev pub ran_of : Called → Ran
ran_of d = record { answer = d.answer; rounds = d.run.progress.rounds; word = d.run.buffers.word; certificate = d.run.buffers.certificate }

abbrev pub ran_as : code.Called → List ℕ → List ℕ → Ran
ran_as d w c = record { answer = outcome_of d.outcome; rounds = d.run.rounds; word = w; certificate = c }

-- "each frame gets a fresh run of 1,024 rounds"
unfoldable pub fresh_ran : List ℕ → List ℤ → Buffers → Ran
fresh_ran file l b = ran_of (call file l round_limit (started_run file b))

-- "After certified: rounds, agreement, cuts"
abbrev pub line_from : List ℤ → Answer Status → Ran → Line
line_from l (refused k) r = refused_line k
line_from l (gives running) r = running_line r.rounds
line_from l (gives certified) r = certified_line r.rounds (agreed l (take (length l) r.word)) (u16_at r.certificate 0)
line_from l (gives spent) r = spent_line r.rounds
