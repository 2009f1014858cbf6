-- Rules' `judge`, `syndrome` and `agreement_of` from the table on: what the code's later stages answer. Definitions only. Assumes nothing.
use Rattle.std.specs.Prelude.{List, ℕ, ℤ}
use Rattle.std.proofs.Math.Option.{Option}
use Rattle.rules.specs.Refusal.{Answer, gives}
use Rattle.rules.specs.Table.{Table}
use Rattle.rules.specs.Parity.{first_broken, agreement}
use Rattle.rules.specs.Input.{on_frame, on_word, bits_of}
use Rattle.rules.specs.Certificate.{on_certificate, scale_of, items_of, rows_at}
use Rattle.rules.specs.Judge.{Verdict, verdict}
use Rattle.inputs.specs.Refusals.{frame_refusal, word_refusal, turned_down}

abbrev pub verdict_on : Table → List ℤ → List ℕ → List ℕ → Verdict
verdict_on t l w bs = verdict t (scale_of bs) l (rows_at t (items_of bs)) (bits_of w)

abbrev pub judge_on : Table → List ℤ → List ℕ → List ℕ → Answer Verdict
judge_on t l w bs = on_frame t l (on_word t w (on_certificate t bs (gives (verdict_on t l w bs))))

abbrev pub syndrome_on : Table → List ℕ → Answer (Option ℕ)
syndrome_on t w = on_word t w (gives (first_broken 0 (bits_of w) t.checks))

-- of a table, only n counts
abbrev pub agreement_on : ℕ → List ℤ → List ℕ → Answer ℤ
agreement_on n l w = turned_down (frame_refusal n l) (turned_down (word_refusal n w) (gives (agreement n l (bits_of w))))
