-- `slope_at` meets its contract: the members so far in one number. Assumes nothing.
use mathlib.Core.Path.{◌≡◌, sym, ◌∙◌, ap, ap₂, subst}
use mathlib.Core.List.{List}
use Prim.Native.Nat.{ℕ, ◌+◌, ◌/◌, ◌%◌, ◌<◌}
use native.Mathlib.Omega.{arith}
use lib.ListN.{length}
use lib.IntN.{ℤ}
use mir.Syntax.{w32}
use mir.Val.{SFits}
use mir.Facts.{to_z-of_z}
use Rattle.integers.specs.Machine.{fit}
use Rattle.rules.specs.Table.{at}
use Rattle.multiplier_search.specs.Lifted.{one, packed}
use Rattle.multiplier_search.specs.Sums.{AllNarrow, share_sums, shares_sums}
use Rattle.multiplier_search.proofs.PackedLaws.{packed_first, first-none, first_next, unpacked}
use Rattle.multiplier_search.proofs.SumsLaws.{front, rest, share-at, packed-narrow}
use Rattle.spin.proofs.DividedParts.{wrap}
use Rattle.decoder.proofs.multiplier.slope_at.Goals as goal

-- with the next one's share
both_is : (hs : List ℤ) (b i both share : ℕ) → i < length hs → SFits w32 (at hs i) → both ≡ packed_first hs b i → share ≡ packed b (wrap (at hs i))
    → both + share ≡ packed_first hs b (i + 1)
both_is hs b i both share h f p q = ap₂ ◌+◌ p (q ∙ ap (packed b) (to_z-of_z f)) ∙ first_next hs b i h

pub loop-h-init : goal.loop-h-init
loop-h-init c = first-none _ _

pub share-both-requires : goal.share-both-requires
share-both-requires c =
    let hs = c.args.heights.now in
    subst (λ h. AllNarrow (share_sums c.args.b h)) (sym (to_z-of_z (fit w32 (at hs c.loop-h.h-index) c.h-1.given)))
    (share-at c.args.b hs c.loop-h.h-index (omega arith) (front (shares_sums c.args.b hs) _ c.requires.2))

pub overflow_add-both : goal.overflow_add-both
overflow_add-both c =
    let hs = c.args.heights.now in
    let l = c.loop-h in
    let height = fit w32 (at hs l.h-index) c.h-1.given in
    let both = both_is hs c.args.b l.h-index l.both c.share-both.result (omega arith) height l.invariant c.share-both.ensures in
    let small = packed-narrow hs c.args.b l.h-index (omega arith) (rest (shares_sums c.args.b hs) _ c.requires.2) in
    omega (arith, small, both)

pub loop-h-preserved : goal.loop-h-preserved
loop-h-preserved c =
    let height = fit w32 (at c.args.heights.now c.loop-h.h-index) c.h-1.given in
    both_is _ _ _ _ _ (omega arith) height c.loop-h.invariant c.share-both.ensures

pub returns : goal.returns
returns c =
    let l = c.loop-h in
    let e = unpacked c.args.heights.now c.args.b l.h-index c.requires.0 c.requires.1 (omega arith) in
    (ap (λ n. n % one) l.invariant ∙ e.0, ap (λ n. n / one) l.invariant ∙ e.1)
