-- `sum_of` meets its contract: the sum of the heights so far. Assumes nothing.
use mathlib.Core.Path.{◌≡◌, sym, ◌∙◌, ap₂, subst}
use mathlib.Core.List.{List}
use Prim.Native.Nat.{ℕ, ◌+◌, ◌<◌}
use native.Mathlib.Omega.{arith}
use lib.ListN.{length, take}
use lib.IntN.{ℤ, pos, ◌+ℤ◌}
use mir.Syntax.{w32}
use mir.Val.{SFits}
use mir.Facts.{to_z-of_z}
use Rattle.integers.specs.Machine.{fit, reads}
use Rattle.rules.specs.Table.{at}
use Rattle.multiplier_search.specs.Lifted.{sum_z}
use Rattle.multiplier_search.specs.Sums.{AllNarrow, partials}
use Rattle.multiplier_search.proofs.PackedLaws.{sum-take}
use Rattle.multiplier_search.proofs.SumsLaws.{sum-narrow}
use Rattle.spin.proofs.DividedParts.{wrap}
use Rattle.decoder.proofs.multiplier.sum_of.Goals as goal

-- with the next height
module _ (hs : List ℤ) (i : ℕ) (sum : ℤ) (n : AllNarrow (partials (pos 0) hs)) (h : i < length hs) (f : SFits w32 (at hs i)) (e : sum ≡ sum_z (take i hs)) where
  next-is : sum +ℤ wrap (at hs i) ≡ sum_z (take i hs) +ℤ at hs i
  next-is = ap₂ ◌+ℤ◌ e (to_z-of_z f)

  next-fits : SFits w32 (sum +ℤ wrap (at hs i))
  next-fits = subst (SFits w32) (sym next-is) (sum-narrow hs i h n)

  next_sum : wrap (sum +ℤ wrap (at hs i)) ≡ sum_z (take (i + 1) hs)
  next_sum = reads next-fits next-is ∙ sym (sum-take hs i h)

pub overflow_add-sum : goal.overflow_add-sum
overflow_add-sum c =
    let hs = c.args.heights.now in
    let l = c.loop-h in
    next-fits hs l.h-index _ c.requires (omega arith) (fit w32 (at hs l.h-index) c.sum-1.given) l.invariant

pub loop-h-preserved : goal.loop-h-preserved
loop-h-preserved c =
    let hs = c.args.heights.now in
    let l = c.loop-h in
    next_sum hs l.h-index _ c.requires (omega arith) (fit w32 (at hs l.h-index) c.sum-1.given) l.invariant
