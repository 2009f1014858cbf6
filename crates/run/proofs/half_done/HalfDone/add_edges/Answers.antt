-- `add_edges` meets its contract: the first e edges are added, each at its member. Assumes nothing.
use mathlib.Core.Path.{◌≡◌, sym, ◌∙◌, ap₂, subst}
use mathlib.Core.List.{List}
use Prim.Native.Nat.{ℕ, ◌+◌, ◌<◌}
use native.Mathlib.Omega.{arith}
use lib.ListN.{length, get_or, set}
use lib.IntN.{ℤ, ◌+ℤ◌, ◌-ℤ◌}
use mir.Syntax.{w32}
use mir.Val.{SFits, to_z, of_z}
use mir.Facts.{to_z-of_z}
use Rattle.integers.specs.Machine.{fit, op_fits, reads}
use Rattle.rules.specs.Table.{at}
use Rattle.rules.specs.Step.{minus}
use Rattle.rules.proofs.Duality.{below_at}
use Rattle.rules.specs.Scatter.{Added}
use Rattle.rules.proofs.SumLaws.{added-fits, added_more, added-all}
use Rattle.run.specs.Sums.{EdgesFit, Held, held_as}
use Rattle.run.proofs.SumsLaws.{weights-long, weight-at, weight-fits, weight-within}
use Rattle.run.proofs.half_done.HalfDone.add_edges.Goals as goal

-- a number in 32 bits, read back
abbrev wrap : ℤ → ℤ
wrap z = to_z w32 (of_z w32 z)

-- the weight of edge e, as the code forms it of a copy and an offset
module _ {ms : List ℕ} {z y x₀ : List ℤ} (edges : EdgesFit ms z y x₀) (e : ℕ) where
  abbrev weight : ℤ
  weight = wrap (at z e) -ℤ wrap (at y e)

  module _ (copy : SFits w32 (at z e)) (offset : SFits w32 (at y e)) where
    less-fits : SFits w32 weight
    less-fits = op_fits w32 ◌-ℤ◌ (to_z-of_z copy) (to_z-of_z offset) (weight-fits edges e)

    weight_read : e < length ms → wrap weight ≡ at (minus z y) e
    weight_read h = reads less-fits (ap₂ ◌-ℤ◌ (to_z-of_z copy) (to_z-of_z offset) ∙ sym (weight-at edges e h))

-- edge e is added at its member
module _ {ms : List ℕ} {z y x₀ x : List ℤ} {e : ℕ} (edges : EdgesFit ms z y x₀) (p : Added ms (minus z y) x₀ e x) (h : e < length ms) where
  inside : get_or ms e 0 < length x
  inside = omega (arith, p.long, below_at (length x₀) ms e h edges.below)

  many : e < length (minus z y)
  many = omega (arith, h, weights-long edges)

  module _ (copy : SFits w32 (at z e)) (offset : SFits w32 (at y e)) (sum : SFits w32 (at x (get_or ms e 0))) where
    sum-fits : SFits w32 (wrap (at x (get_or ms e 0)) +ℤ wrap (weight edges e))
    sum-fits = op_fits w32 ◌+ℤ◌ (to_z-of_z sum) (weight_read edges e copy offset h) (added-fits p h many inside (weight-within edges e))

    next : Added ms (minus z y) x₀ (e + 1) (set x (get_or ms e 0) (wrap (wrap (at x (get_or ms e 0)) +ℤ wrap (weight edges e))))
    next = added_more p h many inside (weight-within edges e) (reads sum-fits (ap₂ ◌+ℤ◌ (to_z-of_z sum) (weight_read edges e copy offset h)))

-- what is asked of the value, of its fields
of-fields : {ms : List ℕ} {z y x x₀ : List ℤ} {h : Held} → held_as ms z y x ≡ h → EdgesFit h.members h.state.copies h.state.offsets x₀ → EdgesFit ms z y x₀
of-fields {x₀ = x₀} e f = subst (λ h. EdgesFit h.members h.state.copies h.state.offsets x₀) (sym e) f

pub slice_copy_out-sums : goal.slice_copy_out-sums
slice_copy_out-sums c = inside (of-fields c.self.view_is c.requires) c.loop-e.invariant c.loop-e-test.true

pub overflow_sub-sums : goal.overflow_sub-sums
overflow_sub-sums c = less-fits (of-fields c.self.view_is c.requires) _ (fit w32 _ c.sums-1.given) (fit w32 _ c.sums-in-loop-e-1.given)

pub overflow_add-sums : goal.overflow_add-sums
overflow_add-sums c =
    sum-fits (of-fields c.self.view_is c.requires) c.loop-e.invariant c.loop-e-test.true
    (fit w32 _ c.sums-1.given) (fit w32 _ c.sums-in-loop-e-1.given) (fit w32 _ c.sums-in-loop-e-2-1.given)

pub bounds-sums-m : goal.bounds-sums-m
bounds-sums-m c = inside (of-fields c.self.view_is c.requires) c.loop-e.invariant c.loop-e-test.true

pub loop-e-preserved : goal.loop-e-preserved
loop-e-preserved c =
    next (of-fields c.self.view_is c.requires) c.loop-e.invariant c.loop-e-test.true
    (fit w32 _ c.sums-1.given) (fit w32 _ c.sums-in-loop-e-1.given) (fit w32 _ c.sums-in-loop-e-2-1.given)

pub returns : goal.returns
returns c = rw (← c.self.view_is) (added-all c.loop-e.invariant c.loop-e-test.false)
