-- `judge_table` meets its contract. Assumes nothing.
use mathlib.Core.Path.{◌≡◌, ◌∙◌, ap}
use mathlib.Core.List.{List}
use Prim.Native.Nat.{ℕ}
use native.Mathlib.Omega.{arith}
use lib.IntN.{ℤ}
use Rattle.limits.proofs.NumberLaws.{handed-on}
use Rattle.rules.specs.Refusal.{gives}
use Rattle.inputs.specs.Refusals.{frame_refusal, word_refusal, or_else}
use Rattle.judge.proofs.StageLaws.{judge-inputs, judge-unread, judge-entries, judge-passes, unrefused}
use Rattle.judge.proofs.stages.judge_table.Goals as goal

-- the two inputs' refusal, of the table's own number of bits
tested : {k n b : ℕ} (l : List ℤ) (w : List ℕ) → n ≡ b → k ≡ or_else (frame_refusal n l) (word_refusal n w) → k ≡ or_else (frame_refusal b l) (word_refusal b w)
tested l w e f = f ∙ ap (λ n. or_else (frame_refusal n l) (word_refusal n w)) e

pub returns-in_err-inputs_refusal : goal.returns-in_err-inputs_refusal
returns-in_err-inputs_refusal c =
    rw (handed-on _ c.from_residual.ensures) (judge-inputs _ _ _ _ _ (tested _ _ c.bits.ensures.0 c.in_err-inputs_refusal.ensures))

pub returns-in_err-certificate : goal.returns-in_err-certificate
returns-in_err-certificate c =
    rw (handed-on _ c.from_residual-in_err-certificate.ensures) (judge-unread _ _ _ _ (tested _ _ c.bits.ensures.0 c.in_ok-inputs_refusal.ensures) _ c.in_err-certificate.ensures)

pub returns-in_err-entries_refusal : goal.returns-in_err-entries_refusal
returns-in_err-entries_refusal c =
    rw (handed-on _ c.from_residual-in_err-entries_refusal.ensures)
    (judge-entries _ _ _ _ (tested _ _ c.bits.ensures.0 c.in_ok-inputs_refusal.ensures) _ c.in_ok-certificate.ensures _ c.in_err-entries_refusal.ensures)

pub invariant_of-verdict : goal.invariant_of-verdict
invariant_of-verdict c =
    record {
      few = omega (arith, c.bits.ensures.0, c.bits.ensures.1);
      unrefused = unrefused _ _ _ _ (tested _ _ c.bits.ensures.0 c.in_ok-inputs_refusal.ensures) c.in_ok-entries_refusal.ensures;
    }

pub returns : goal.returns
returns c =
    ap gives c.verdict.ensures
    ∙ judge-passes _ _ _ _ (tested _ _ c.bits.ensures.0 c.in_ok-inputs_refusal.ensures) _ c.in_ok-certificate.ensures c.in_ok-entries_refusal.ensures
