-- `first_step` meets its contract. Assumes nothing.
use mathlib.Core.Path.{◌≡◌, sym, ◌∙◌, ap, ap₂, subst}
use mathlib.Core.List.{List}
use Prim.Native.Nat.{ℕ, ◌+◌, ◌-◌, ◌/◌, min}
use lib.IntN.{ℤ, pos, nat_abs, ◌-ℤ◌}
use lib.Signed.{◌≤ℤ◌}
use lib.ListN.{length}
use mir.Syntax.{w32}
use mir.Val.{SFits}
use mir.Facts.{to_z-of_z}
use Rattle.integers.specs.Machine.{fit, reads, to-unsigned}
use Rattle.multiplier_search.specs.Lifted.{lack, sum_z, first_step, reach}
use Rattle.multiplier_search.specs.Sums.{AllNarrow, partials, first_sums}
use Rattle.multiplier_search.proofs.StartLaws.{lack-above}
use Rattle.multiplier_search.proofs.SumsLaws.{narrow-fits, front, rest}
use Rattle.spin.proofs.DividedParts.{wrap}
use Rattle.decoder.proofs.multiplier.first_step.Goals as goal

module _ (hs : List ℤ) (top sum : ℤ) (n : AllNarrow (first_sums hs top)) (f : SFits w32 sum) (e : sum ≡ sum_z hs) where
  -- what all heights lack together
  abbrev together : ℤ
  together = pos reach -ℤ wrap sum

  together-is : together ≡ lack hs
  together-is = ap (λ z. pos reach -ℤ z) (reads f e)

  together-fits : SFits w32 together
  together-fits = subst (SFits w32) (sym together-is) (narrow-fits _ (rest (partials (pos 0) hs) _ n).0)

  -- rounded up
  abbrev level : ℕ
  level = (nat_abs (wrap together) + (length hs - 1)) / length hs

  level-is : level ≡ (nat_abs (lack hs) + (length hs - 1)) / length hs
  level-is = ap (λ z. (nat_abs z + (length hs - 1)) / length hs) (reads together-fits together-is)

  module _ (g : SFits w32 top) where
    -- what the greatest lacks
    abbrev alone : ℤ
    alone = pos reach -ℤ wrap top

    top-lacks : alone ≡ pos reach -ℤ top
    top-lacks = ap (λ z. pos reach -ℤ z) (to_z-of_z g)

    alone-is : nat_abs (wrap alone) ≡ nat_abs (pos reach -ℤ top)
    alone-is = ap nat_abs (reads (subst (SFits w32) (sym top-lacks) (narrow-fits _ (rest (partials (pos 0) hs) _ n).1.0)) top-lacks)

pub overflow_sub-together : goal.overflow_sub-together
overflow_sub-together c =
    together-fits _ c.args.top _ c.requires.1 (fit w32 c.sum_of.result c.sum_of.type_inv) c.sum_of.ensures

pub overflow_cast-together : goal.overflow_cast-together
overflow_cast-together c =
    let hs = c.args.heights.now in
    let sum = fit w32 c.sum_of.result c.sum_of.type_inv in
    to-unsigned tt (together-fits hs c.args.top _ c.requires.1 sum c.sum_of.ensures)
    (subst (λ z. pos 0 ≤ℤ z) (sym (together-is hs c.args.top _ c.requires.1 sum c.sum_of.ensures)) (lack-above hs c.requires.0.short))

pub returns : goal.returns
unfolding first_step
returns c =
    let hs = c.args.heights.now in
    let sum = fit w32 c.sum_of.result c.sum_of.type_inv in
    c.min.ensures ∙ ap₂ min (level-is hs c.args.top _ c.requires.1 sum c.sum_of.ensures) (alone-is hs c.args.top _ c.requires.1 sum c.sum_of.ensures c.ranges.top)

pub sum_of-requires : goal.sum_of-requires
sum_of-requires c = front (partials (pos 0) c.args.heights.now) _ c.requires.1
