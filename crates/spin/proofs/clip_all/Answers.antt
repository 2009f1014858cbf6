-- `clip_all` meets its contract: the spins so far are clipped, and the others still as they came. Assumes nothing.
use mathlib.Core.Path.{◌≡◌, sym, ◌∙◌, ap}
use native.Mathlib.Omega.{arith}
use lib.IntN.{pos}
use mir.Syntax.{w32}
use mir.Val.{SFits}
use mir.Facts.{to_z-of_z}
use Rattle.std.proofs.Common.{rules}
use Rattle.integers.specs.Clip.{clip_z}
use Rattle.integers.specs.Machine.{fit}
use Rattle.rules.specs.Limits.{unit}
use Rattle.rules.specs.Table.{at}
use Rattle.rules.proofs.Steps.{clips-length, clips-at}
use Rattle.rules.proofs.FillLaws.{fill_none, fill-at, fill_more, fill-all}
use Rattle.spin.proofs.clip_all.Goals as goal

pub loop-spin-init : goal.loop-spin-init
loop-spin-init c = sym (fill_none _ _)

pub loop-spin-preserved : goal.loop-spin-preserved
loop-spin-preserved c =
    let spins = c.args.spins.now in
    let loop = c.loop-spin in
    let i = loop.spin-index in
    let old : at loop.spins i ≡ at spins i = ap (λ l. at l i) loop.invariant ∙ fill-at i _ _ (pos 0) in
    let fits : SFits w32 (at loop.spins i) = search rules in
    let made = to_z-of_z (fit w32 c.clip.result c.clip.type_inv) ∙ c.clip.ensures ∙ ap (clip_z unit) (to_z-of_z fits ∙ old) ∙ sym (clips-at unit spins i c.loop-spin-test.true) in
    fill_more i _ _ _ _ (pos 0) (omega (arith, clips-length unit spins)) made loop.invariant

pub returns : goal.returns
returns c = c.loop-spin.invariant ∙ fill-all c.loop-spin.spin-index _ _ (clips-length unit c.args.spins.now) (omega arith)
