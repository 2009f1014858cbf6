-- `mask_right` meets its contract: a shift by at most 32 loses nothing in 64 bits. Assumes nothing.
use mathlib.Core.Path.{◌≡◌, sym, ◌∙◌, ap}
use Prim.Native.Nat.{◌%◌, ◌^◌}
use native.Mathlib.Omega.{arith}
use native.Mathlib.Nat.{one-mul}
use lib.Dec.{ltb}
use lib.Count.{ones}
use lib.Pow.{shl_exact}
use borrow.Author.Tests.{eq-eqb, ne_eqb}
use Rattle.rules.specs.Mask.{mask_right}
use Rattle.table.proofs.AnswerLaws.{and-fails, and-holds}
use Rattle.judge.proofs.entries.mask_right.Goals as goal

pub returns-then-mask-eq1 : goal.returns-then-mask-eq1
unfolding mask_right
returns-then-mask-eq1 c =
    let odd : ones c.args.mask % 2 ≡ 1 = omega arith in
    ap (ltb c.args.mask) (shl_exact {a = 1} 1 c.args.d 64 (omega arith) (omega arith) ∙ one-mul (2 ^ c.args.d))
    ∙ sym (and-holds _ _ (eq-eqb (ones c.args.mask % 2) 1 odd))

pub returns-else-mask-eq1 : goal.returns-else-mask-eq1
unfolding mask_right
returns-else-mask-eq1 c =
    let off = ne_eqb (ones c.args.mask % 2) 1 c.if-mask-eq1.false in
    off ∙ sym (and-fails _ _ off)
