-- `odd_check` meets its contract: the sum so far and the members from k on decide. Assumes nothing.
use mathlib.Core.Path.{◌≡◌, refl, sym, ◌∙◌, ap}
use mathlib.Core.Bool.{Bool, true, false, not, beq}
use lib.ListN.{length, get_or}
use Rattle.rules.specs.Parity.{◌⊕◌}
use Rattle.rules.specs.Input.{bits_of}
use Rattle.rules.proofs.Duality.{below_at}
use Rattle.rules.proofs.ParityLaws.{odd-more}
use Rattle.inputs.proofs.AgreedLaws.{bits-at}
use Rattle.judge.proofs.checks.odd_check.Goals as goal

-- one bit more of a sum modulo 2, as the code adds it
toggled : (a b : Bool) → not (beq a b) ≡ a ⊕ b
toggled true true = refl
toggled true false = refl
toggled false true = refl
toggled false false = refl

pub bounds-word-i : goal.bounds-word-i
bounds-word-i c =
    below_at (length c.args.word.now) c.args.members.now c.loop-i.i-index c.loop-i-test.true c.requires

pub loop-i-preserved : goal.loop-i-preserved
loop-i-preserved c =
    let args = c.args in
    let loop = c.loop-i in
    let w = args.word.now in
    let ms = args.members.now in
    let bit = toggled loop.sum _ ∙ ap (λ b. loop.sum ⊕ b) (sym (bits-at w (get_or ms loop.i-index 0))) in
    odd-more (bits_of w) ms loop.i-index loop.sum c.loop-i-test.true bit ∙ loop.invariant
