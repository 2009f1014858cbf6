-- `sum_sizes` meets its contract: the sum over the numbers before the loop's place. Assumes nothing.
use mathlib.Core.Path.{◌≡◌, sym, ◌∙◌, ap, subst}
use native.Mathlib.Omega.{arith}
use Prim.Native.Nat.{ℕ}
use lib.IntN.{ℤ}
use mir.Syntax.{w64}
use mir.Facts.{to_z-of_z}
use Rattle.integers.specs.Linear.{Within}
use Rattle.integers.specs.Machine.{fit}
use Rattle.integers.specs.Product.{abs}
use Rattle.integers.specs.Signed64.{abs-within, summed-next}
use Rattle.rules.specs.Limits.{size_limit}
use Rattle.rules.specs.Table.{at}
use Rattle.decoder.proofs.gap.sum_sizes.Goals as goal

pub loop-x-preserved : goal.loop-x-preserved
loop-x-preserved c =
    let i = c.loop-x.x-index in
    let x = at c.args.numbers.now i in
    let sizes : ℕ → ℤ = λ j. abs (at c.args.numbers.now j) in
    let size = c.abs-sum.result in
    let is : size ≡ abs x = c.abs-sum.ensures.value ∙ ap abs (to_z-of_z (fit w64 x (omega arith))) in
    let small : Within size_limit size = subst (Within size_limit) (sym is) (abs-within size_limit x (c.requires.1.place i)) in
    summed-next size_limit i _ size sizes (fit w64 size c.abs-sum.type_inv) c.loop-x.invariant small is (omega arith)
