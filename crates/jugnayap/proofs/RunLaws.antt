-- What a start and a call return and leave, from the answer that the decoder gave. Assumes nothing.
use mathlib.Core.Path.{◌≡◌, ◌∙◌, ap}
use mathlib.Core.List.{List}
use Prim.Native.Nat.{ℕ}
use lib.IntN.{ℤ}
use Rattle.rules.specs.Refusal.{reply_of}
use Rattle.rules.specs.Buffers.{Buffers}
use Rattle.rules.specs.Run.{Progress, progress_values, Called, call, Started}
use Rattle.jugnayap.specs.declared.JugnayapRun.{JugnayapRun}
use Rattle.jugnayap.specs.declared.JugnayapCalled.{JugnayapCalled}
use Rattle.jugnayap.specs.Numbers.{started_from, left_as, start_left, progress_at, called_by, call_left, call_numbers}

pub start_left_lem : (d e : Started) (r : JugnayapCalled) → r ≡ started_from (reply_of progress_values d.answer) → d ≡ e → left_as r d.buffers ≡ start_left e
start_left_lem d e r p q = ap (λ x. left_as x d.buffers) p ∙ ap start_left q

-- h is the record handed in, p the decoder's, d what the decoder's call came to
module _ (h : JugnayapRun) (file : List ℕ) (l : List ℤ) (wanted : ℕ) (b : Buffers) (p : Progress) (d : Called) (r : JugnayapCalled) where
  pub call-left : r ≡ called_by h d → d ≡ call file l wanted (record { progress = p; buffers = b }) → p ≡ progress_at h → left_as r d.run.buffers ≡ call_numbers file l wanted h b
  call-left e f g = ap (λ x. left_as x d.run.buffers) e ∙ ap (call_left h) (f ∙ ap (λ x. call file l wanted (record { progress = x; buffers = b })) g)
