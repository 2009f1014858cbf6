-- Sole winners (document 02, #113), of the code: about every call of `judge` of which its contract, as it is proved, holds. Whoever wrote the certificate: where
-- the answer is certified and marked, each point of the relaxation other than the word's own spins times its D, and each other codeword, agrees strictly less
-- with the frame. What a call of `rounds` has certified is marked in the same way when it is judged (Passes, Scaled). Assumes nothing.
use mathlib.Core.Path.{◌≡◌, sym, ◌∙◌, ap}
use mathlib.Core.Bool.{true}
use Rattle.rules.specs.Refusal.{gives}
use Rattle.rules.specs.Table.{Table}
use Rattle.rules.specs.CodeFile.{code_file}
use Rattle.rules.specs.Input.{bits_of}
use Rattle.rules.specs.Sole.{SoleWinner}
use Rattle.judge.specs.Reply.{verdict_of}
use Rattle.std.specs.Prelude.{Ok}
use Rattle.judge.specs.declared.Verdict.TheVariants.{Certified}
use Rattle.judge.proofs.Certified.{certified-sole}
use Rattle.judge.proofs.judge.Statement.{statement as jd-statement}
use Rattle.judge.proofs.judge.Met.{met as judge-met}
use Rattle.promises.proofs.Passes.{JudgeCall, judges_file, judges_frame, judges_word, judges_certificate, judge-says}

abbrev pub MarkedWins : Type 0
MarkedWins = (t : Table) (y : JudgeCall) → code_file (judges_file y) ≡ gives t → y.result ≡ Ok (Certified true) → SoleWinner t (judges_frame y) (bits_of (judges_word y))

pub marked-wins : MarkedWins
marked-wins t y is_file e = certified-sole (judges_file y) (judges_frame y) (judges_word y) (judges_certificate y) t is_file (ap verdict_of (sym e) ∙ judge-says y)

-- beside the proof of the function
pub proved : {M : Type 1} → jd-statement M × MarkedWins
proved = (judge-met, marked-wins)
