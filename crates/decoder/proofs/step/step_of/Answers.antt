-- `step_of` meets its contract: the values, their cut, its multiplier, and what they leave. Assumes nothing.
use mathlib.Core.Path.{sym, ◌∙◌, ap, subst}
use mir.Syntax.{w32}
use mir.Facts.{to_z-of_z}
use Rattle.integers.specs.Machine.{fit}
use Rattle.cut.specs.Reply.{seen_of}
use Rattle.multiplier_search.specs.Lifted.{Rising}
use Rattle.decoder.proofs.StepLaws.{sees, multiplier-asks, move_asks, step_left}
use Rattle.decoder.proofs.step.step_of.Goals as goal

pub unwrap-found-requires : goal.unwrap-found-requires
unwrap-found-requires c =
    sees _ _ _ _ _ _ c.requires c.add_spins.ensures _ _ c.see.ensures

pub multiplier_for-b-requires : goal.multiplier_for-b-requires
multiplier_for-b-requires c = λ f.
    let seen = ap (λ r. seen_of r c.see.new.heights) (sym c.unwrap-found.ensures) ∙ c.see.ensures in
    subst (Rising _) (sym (to_z-of_z (fit w32 c.unwrap-found.result.top search)))
    (multiplier-asks _ _ _ _ _ _ c.requires c.add_spins.ensures _ _ _ _ _ seen f)

pub move_all-requires : goal.move_all-requires
move_all-requires c =
    let seen = ap (λ r. seen_of r c.see.new.heights) (sym c.unwrap-found.ensures) ∙ c.see.ensures in
    move_asks _ _ _ _ _ _ c.requires c.add_spins.ensures _ _ _ _ _ seen _ c.multiplier_for-b.ensures

pub returns : goal.returns
returns c =
    let seen = ap (λ r. seen_of r c.see.new.heights) (sym c.unwrap-found.ensures) ∙ c.see.ensures in
    step_left _ _ _ _ _ _ c.requires c.add_spins.ensures _ _ _ _ _ seen _ c.multiplier_for-b.ensures _ _ _ c.move_all.ensures
