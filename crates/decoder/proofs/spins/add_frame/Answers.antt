-- `add_frame` meets its contract: the first i places hold the totals, and the others what came. Assumes nothing.
use mathlib.Core.Path.{◌≡◌, sym, ◌∙◌, ap₂, subst}
use Prim.Native.Nat.{◌<◌}
use native.Mathlib.Omega.{arith}
use lib.ListN.{length}
use lib.IntN.{ℤ, pos, ◌+ℤ◌}
use mir.Syntax.{w16, w32}
use mir.Val.{SFits, to_z, of_z}
use mir.Facts.{to_z-of_z}
use Rattle.integers.specs.Linear.{lin, arith_z, Within}
use Rattle.integers.specs.Machine.{reads}
use Rattle.rules.specs.Limits.{frame_limit, sum_limit}
use Rattle.rules.specs.Table.{at}
use Rattle.rules.proofs.Optimal.{within-at}
use Rattle.rules.proofs.RoundSizes.{first-length, first-at}
use Rattle.rules.proofs.FillLaws.{fill_none, fill_more, fill-all}
use Rattle.spin.proofs.DividedParts.{wrap}
use Rattle.decoder.specs.Spins.{totals_of}
use Rattle.decoder.proofs.SpinsLaws.{total-fits}
use Rattle.decoder.proofs.spins.add_frame.Goals as goal

-- a total as the code forms it
abbrev formed : ℤ → ℤ → ℤ
formed a x = wrap (to_z w16 (of_z w16 a)) +ℤ wrap x

module _ {a x : ℤ} (h : Within frame_limit a) (k : Within sum_limit x) where
  number-16 : SFits w16 a
  number-16 = simp lin (omega arith_z)

  number-32 : SFits w32 a
  number-32 = simp lin (omega arith_z)

  sum-32 : SFits w32 x
  sum-32 = simp lin (omega arith_z)

  formed-is : formed a x ≡ a +ℤ x
  formed-is = ap₂ ◌+ℤ◌ (reads (subst (SFits w32) (sym (to_z-of_z number-16)) number-32) (to_z-of_z number-16)) (to_z-of_z sum-32)

  formed-fits : SFits w32 (formed a x)
  formed-fits = subst (SFits w32) (sym formed-is) (total-fits a x h k)

pub overflow_add-spin : goal.overflow_add-spin
overflow_add-spin c =
    formed-fits (within-at frame_limit _ c.requires.2 c.loop-i.i) (within-at sum_limit _ c.requires.3 c.loop-i.i)

pub loop-i-init : goal.loop-i-init
loop-i-init c = sym (fill_none _ _)

pub loop-i-preserved : goal.loop-i-preserved
loop-i-preserved c =
    let l = c.args.frame.now in
    let x = c.args.sums.now in
    let i = c.loop-i.i in
    let number = within-at frame_limit l c.requires.2 i in
    let sum = within-at sum_limit x c.requires.3 i in
    let here : i < length x = omega (arith, c.loop-i-test.true, c.requires.1) in
    fill_more i (totals_of l x) c.args.spins.now c.loop-i.spins _ (pos 0) (omega (arith, here, first-length (length x) (λ i. at l i +ℤ at x i)))
    (reads (formed-fits number sum) (formed-is number sum) ∙ sym (first-at (length x) (λ i. at l i +ℤ at x i) i here)) c.loop-i.invariant

pub returns : goal.returns
returns c =
    let l = c.args.frame.now in
    let x = c.args.sums.now in
    c.loop-i.invariant ∙ fill-all c.loop-i.i (totals_of l x) _ (first-length (length x) (λ i. at l i +ℤ at x i) ∙ c.requires.1) (omega arith)
