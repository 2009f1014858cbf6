-- `is_sound` meets its contract. Assumes nothing.
use mathlib.Core.Path.{sym, ◌∙◌}
use Rattle.run.proofs.BoundsLaws.{copies-small, offsets-small}
use Rattle.run.proofs.half_done.HalfDone.is_sound.Goals as goal

pub are_sums_true-requires : goal.are_sums_true-requires
are_sums_true-requires c =
    let h = sym c.is_limited.ensures ∙ c.if-is_limited.true in
    (copies-small _ _ c.args.self.now.state.offsets h, offsets-small _ c.args.self.now.state.copies _ h)
