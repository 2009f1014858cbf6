-- `all_even` meets its contract: the checks from the loop's place on decide, and that check's part of the members begins at a. Assumes nothing.
use mathlib.Core.Path.{◌≡◌, refl, sym, ◌∙◌, ap, ap₂, subst}
use mathlib.Core.List.{List, []}
use Prim.Native.Nat.{ℕ, ◌+◌, ◌-◌, ◌≤◌, ◌<◌}
use native.Mathlib.Omega.{arith}
use lib.ListN.{length, get_or, take, drop, length-drop}
use lib.Seq.{get_or-take, get_or-drop}
use Rattle.std.proofs.Common.{length-take}
use Rattle.rules.specs.Table.{Table, checks_of}
use Rattle.rules.specs.Limits.{max_edges}
use Rattle.rules.specs.Sound.{Below}
use Rattle.rules.specs.Cut.{negatives}
use Rattle.rules.proofs.ParityLaws.{meets-odd, meets-even, meets-end}
use Rattle.table.specs.Layout.{checks_from, table_of, edges_before, Holds}
use Rattle.table.proofs.LayoutLaws.{starts-long, start_is_lem, members-fit, part-is, part_in_lem, part-below}
use Rattle.decoder.proofs.candidate.all_even.Goals as goal

-- check j, whose members begin at a and end where the loop reads it
module _ {n : ℕ} {ss ms : List ℕ} {t : Table} (h : Holds n ss ms) (e : table_of n ss ms ≡ t) (k j a : ℕ) (more : j < length (take k (drop 1 ss)))
    (begins : a ≡ edges_before j t.checks) where
  abbrev end : ℕ
  end = get_or (take k (drop 1 ss)) j 0

  end_is : end ≡ get_or ss (j + 1) 0
  end_is = get_or-take k (drop 1 ss) j 0 (omega (arith, length-take k (drop 1 ss))) ∙ get_or-drop 1 ss j 0 ∙ ap (λ i. get_or ss i 0) (omega arith)

  held : j < length (checks_from ss ms)
  held = omega (arith, length-take k (drop 1 ss), length-drop 1 ss, starts-long _ _ _ h)

  check : j < checks_of t
  check = omega (arith, held, ap checks_of e)

  begins-at : a ≡ get_or ss j 0
  begins-at = begins ∙ ap (λ x. edges_before j x.checks) (sym e) ∙ sym (start_is_lem _ _ _ h j (omega (arith, held)))

  next : end ≡ edges_before (j + 1) t.checks
  next = end_is ∙ start_is_lem _ _ _ h (j + 1) (omega (arith, held)) ∙ ap (λ x. edges_before (j + 1) x.checks) e

  within : (a ≤ end) × (end ≤ length ms) × (length ms ≤ max_edges)
  within = omega (arith, end_is, begins-at, part_in_lem _ _ _ h j held, (members-fit _ _ _ h).0)

  members_are : take (end - a) (drop a ms) ≡ get_or t.checks j []
  members_are = ap₂ (λ x y. take (y - x) (drop x ms)) begins-at end_is ∙ part-is _ _ _ h j held ∙ ap (λ x. get_or x.checks j []) e

  below : Below t.bits (take (end - a) (drop a ms))
  below = subst (Below t.bits) (sym members_are) (subst (λ x. Below x.bits (get_or x.checks j [])) e (part-below _ _ _ h j held))

pub slice_bounds-end-items-count : goal.slice_bounds-end-items-count
slice_bounds-end-items-count c = omega (arith, starts-long _ _ _ c.table.invariant)

pub slice_bounds-end-items-start : goal.slice_bounds-end-items-start
slice_bounds-end-items-start c = omega (arith, starts-long _ _ _ c.table.invariant)

pub loop-end-init : goal.loop-end-init
loop-end-init c = (refl, refl)

pub offset_bounds-members-a : goal.offset_bounds-members-a
offset_bounds-members-a c = omega (arith, within c.table.invariant c.table.view_is _ _ _ c.loop-end-test.true c.loop-end.invariant.1)

pub slice_bounds-is_odd-count : goal.slice_bounds-is_odd-count
slice_bounds-is_odd-count c = (within c.table.invariant c.table.view_is _ _ _ c.loop-end-test.true c.loop-end.invariant.1).0

pub slice_bounds-is_odd-start : goal.slice_bounds-is_odd-start
slice_bounds-is_odd-start c = (within c.table.invariant c.table.view_is _ _ _ c.loop-end-test.true c.loop-end.invariant.1).0

pub slice_bounds-is_odd-end : goal.slice_bounds-is_odd-end
slice_bounds-is_odd-end c = (within c.table.invariant c.table.view_is _ _ _ c.loop-end-test.true c.loop-end.invariant.1).1

pub is_odd-requires : goal.is_odd-requires
is_odd-requires c = rw c.requires (below c.table.invariant c.table.view_is _ _ _ c.loop-end-test.true c.loop-end.invariant.1)

pub returns-then-is_odd : goal.returns-then-is_odd
returns-then-is_odd c =
    let j = c.loop-end.end-index in
    let part = members_are c.table.invariant c.table.view_is _ _ _ c.loop-end-test.true c.loop-end.invariant.1 in
    let more = check c.table.invariant c.table.view_is _ _ _ c.loop-end-test.true c.loop-end.invariant.1 in
    let odd = meets-odd (negatives c.args.spins.now) _ j more part in
    sym (c.loop-end.invariant.0 ∙ odd (sym c.is_odd.ensures ∙ c.if-is_odd.true))

pub loop-end-preserved : goal.loop-end-preserved
loop-end-preserved c =
    let j = c.loop-end.end-index in
    let part = members_are c.table.invariant c.table.view_is _ _ _ c.loop-end-test.true c.loop-end.invariant.1 in
    let more = check c.table.invariant c.table.view_is _ _ _ c.loop-end-test.true c.loop-end.invariant.1 in
    let even = meets-even (negatives c.args.spins.now) _ j more part in
    (c.loop-end.invariant.0 ∙ even (sym c.is_odd.ensures ∙ c.if-is_odd.false), next c.table.invariant c.table.view_is _ _ _ c.loop-end-test.true c.loop-end.invariant.1)

pub returns : goal.returns
returns c =
    let cs = c.args.table.now.checks in
    let past : length cs ≤ c.loop-end.end-index = omega (arith, starts-long _ _ _ c.table.invariant, ap checks_of c.table.view_is) in
    sym (c.loop-end.invariant.0 ∙ meets-end (negatives c.args.spins.now) cs c.loop-end.end-index past)
