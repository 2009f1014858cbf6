-- `move_all` meets its contract: the first i places are done, and the others still hold the values. Assumes nothing.
use mathlib.Core.Path.{◌≡◌, refl, sym, ◌∙◌, ap, ap₂, subst}
use mathlib.Core.Bool.{Bool}
use mathlib.Core.List.{List}
use Prim.Native.Nat.{ℕ, ◌+◌, ◌/◌, ◌%◌, ◌^◌, ◌<◌}
use native.Mathlib.Omega.{arith}
use lib.Dec.{eqb}
use lib.ListN.{length, get_or, set}
use lib.IntN.{ℤ, ◌+ℤ◌, ◌-ℤ◌}
use mir.Syntax.{w32}
use mir.Val.{SFits}
use mir.Facts.{to_z-of_z}
use Rattle.rules.specs.Limits.{unit, value_limit}
use Rattle.integers.specs.Linear.{lin, arith_z, Within}
use Rattle.integers.specs.Clip.{clip-within}
use Rattle.integers.specs.Machine.{fit, reads, op_fits}
use Rattle.rules.specs.Table.{at}
use Rattle.rules.specs.Step.{move}
use Rattle.rules.proofs.Optimal.{within-at}
use Rattle.spin.proofs.DividedParts.{wrap}
use Rattle.decoder.specs.Stepped.{MoveFits}
use Rattle.decoder.proofs.MoveAllLaws.{Moving, offset-fits, moving-first, moving-long, moving-at, weight-fits, inside, sum_fits, moving-next, moving-last}
use Rattle.decoder.proofs.step.move_all.Goals as goal

-- an offset and a weight as the code forms them
abbrev left : ℤ → ℤ → ℤ
left v c = wrap v -ℤ wrap c

abbrev weight : ℤ → ℤ → ℤ
weight v c = wrap c -ℤ wrap (left v c)

value-word : (v : ℤ) → Within value_limit v → SFits w32 v
value-word v = simp lin (omega arith_z)

module _ {b m : ℕ} {ms : List ℕ} {z₀ v x₀ : List ℤ} (r : MoveFits b ms z₀ v x₀) {i : ℕ} {z y x : List ℤ} (g : Moving b m ms z₀ v x₀ i z y x) where
  small : Within value_limit (at v i)
  small = within-at value_limit v r.small i

  -- the value that is moved, as it is read
  value-is : wrap (at y i) ≡ at v i
  value-is = reads (subst (SFits w32) (sym (moving-at r g)) (value-word _ small)) (moving-at r g)

  value-small : Within value_limit (wrap (at y i))
  value-small = subst (Within value_limit) (sym value-is) small

  -- where it goes to, and its offset, as they are read
  module _ {t : Bool} {c : ℤ} (d : t ≡ eqb (m / 2 ^ i % 2) 1) (k : SFits w32 c) (p : c ≡ move unit b t (wrap (at y i))) where
    copy : wrap c ≡ move unit b t (at v i)
    copy = reads k (p ∙ ap (move unit b t) value-is)

    left-fits : SFits w32 (left (at y i) c)
    left-fits = op_fits w32 ◌-ℤ◌ value-is copy (offset-fits _ _ small (clip-within unit _))

    offset : wrap (left (at y i) c) ≡ at v i -ℤ wrap c
    offset = reads left-fits (ap (λ a. a -ℤ wrap c) value-is)

    -- there is a member i
    module _ (h : i < length y) where
      here : i < length v
      here = omega (arith, h, (moving-long r g).1)

      formed-fits : SFits w32 (weight (at y i) c)
      formed-fits = weight-fits r g here d copy offset

      -- its sum with z − y
      module _ (f : SFits w32 (at x (get_or ms i 0))) where
        total-is : wrap (at x (get_or ms i 0)) +ℤ wrap (weight (at y i) c) ≡ at x (get_or ms i 0) +ℤ weight (at y i) c
        total-is = ap₂ ◌+ℤ◌ (to_z-of_z f) (to_z-of_z formed-fits)

        total-fits : SFits w32 (wrap (at x (get_or ms i 0)) +ℤ wrap (weight (at y i) c))
        total-fits = subst (SFits w32) (sym total-is) (sum_fits r g here d copy offset)

        next : Moving b m ms z₀ v x₀ (i + 1) (set z i (wrap c)) (set y i (wrap (left (at y i) c)))
            (set x (get_or ms i 0) (wrap (wrap (at x (get_or ms i 0)) +ℤ wrap (weight (at y i) c))))
        next = moving-next r g here d copy offset refl refl (ap (set x (get_or ms i 0)) (reads total-fits total-is))

pub moved-z-requires : goal.moved-z-requires
moved-z-requires c =
    (value-small c.requires c.loop-i.invariant, c.requires.bounded)

pub overflow_sub-y : goal.overflow_sub-y
overflow_sub-y c =
    left-fits c.requires c.loop-i.invariant c.holds.ensures (fit w32 c.moved-z.result c.moved-z.type_inv) c.moved-z.ensures

pub overflow_sub-sums : goal.overflow_sub-sums
overflow_sub-sums c =
    formed-fits c.requires c.loop-i.invariant c.holds.ensures (fit w32 c.moved-z.result c.moved-z.type_inv) c.moved-z.ensures (omega arith)

pub slice_copy_out-sums : goal.slice_copy_out-sums
slice_copy_out-sums c =
    inside c.requires c.loop-i.invariant c.loop-i-test.true

pub bounds-sums-members : goal.bounds-sums-members
bounds-sums-members c =
    inside c.requires c.loop-i.invariant c.loop-i-test.true

pub overflow_add-sums : goal.overflow_add-sums
overflow_add-sums c =
    let moved = fit w32 c.moved-z.result c.moved-z.type_inv in
    let sum = fit w32 (at c.loop-i.sums (get_or c.args.members.now c.loop-i.i 0)) search in
    total-fits c.requires c.loop-i.invariant c.holds.ensures moved c.moved-z.ensures (omega arith) sum

pub loop-i-init : goal.loop-i-init
loop-i-init c = moving-first c.requires

pub loop-i-preserved : goal.loop-i-preserved
loop-i-preserved c =
    let moved = fit w32 c.moved-z.result c.moved-z.type_inv in
    let sum = fit w32 (at c.loop-i.sums (get_or c.args.members.now c.loop-i.i 0)) search in
    next c.requires c.loop-i.invariant c.holds.ensures moved c.moved-z.ensures (omega arith) sum

pub returns : goal.returns
returns c =
    moving-last c.requires c.loop-i.invariant (omega (arith, (moving-long c.requires c.loop-i.invariant).1))
