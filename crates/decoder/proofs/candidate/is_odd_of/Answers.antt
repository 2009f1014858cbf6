-- `is_odd_of` meets its contract: the parity found and that of the members from the loop's place on make the whole. Assumes nothing.
use mathlib.Core.Path.{◌≡◌, refl, sym, ◌∙◌, ap}
use mathlib.Core.Bool.{Bool, true, false, not, beq}
use native.Mathlib.Omega.{arith}
use lib.IntN.{ℤ, pos, negsuc}
use lib.ListN.{get_or}
use lib.Signed.{lt_z}
use mir.Syntax.{w32}
use mir.Facts.{to_z-of_z}
use Rattle.integers.specs.Linear.{lin, arith_z, le-lt_z}
use Rattle.integers.specs.Machine.{fit}
use Rattle.rules.specs.Table.{at}
use Rattle.rules.specs.Parity.{◌⊕◌}
use Rattle.rules.specs.Cut.{is_neg, negatives}
use Rattle.rules.proofs.ParityLaws.{odd-more}
use Rattle.decoder.proofs.CandidateLaws.{negatives-at}
use Rattle.decoder.proofs.candidate.is_odd_of.Goals as goal

-- the code's `b ^ (x < 0)`
xor_is : (b t : Bool) → not (beq b t) ≡ b ⊕ t
xor_is true true = refl
xor_is true false = refl
xor_is false true = refl
xor_is false false = refl

below-zero : (x : ℤ) → lt_z x (pos 0) ≡ is_neg x
below-zero (pos n) = le-lt_z (pos n) (pos 0) (simp lin (omega arith_z))
below-zero (negsuc n) = refl

pub loop-i-preserved : goal.loop-i-preserved
loop-i-preserved c =
    let loop = c.loop-i in
    let s = c.args.spins.now in
    let ms = c.args.members.now in
    let i = get_or ms loop.i-index 0 in
    let read = to_z-of_z (fit w32 (at s i) (omega arith)) in
    let bit = xor_is loop.odd _ ∙ ap (λ b. loop.odd ⊕ b) (ap (λ z. lt_z z (pos 0)) read ∙ below-zero (at s i) ∙ sym (negatives-at s i)) in
    odd-more (negatives s) ms loop.i-index loop.odd (omega arith) bit ∙ loop.invariant
