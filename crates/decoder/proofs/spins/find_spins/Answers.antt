-- `find_spins` meets its contract: the totals, the division and the clip make the spins. Assumes nothing.
use mathlib.Core.Path.{◌∙◌, ap}
use Rattle.rules.specs.Limits.{unit}
use Rattle.rules.specs.Step.{clips}
use Rattle.rules.specs.Buffers.{zeros}
use Rattle.decoder.specs.Spins.{quotients_over}
use Rattle.decoder.proofs.SpinsLaws.{spins-are}
use Rattle.decoder.proofs.spins.find_spins.Goals as goal

pub returns : goal.returns
returns c =
    record {
      spins = c.clip_all.ensures
          ∙ ap (clips unit) (c.divide_totals.ensures ∙ ap (quotients_over c.args.degrees.now) c.add_frame.ensures) ∙ spins-are c.requires;
      sums = c.clear.ensures ∙ ap zeros c.requires.sums_long;
    }
