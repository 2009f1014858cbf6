-- `divide_part` meets its contract: a common degree is each bit's. Assumes nothing.
use mathlib.Core.Path.{◌∙◌, ap}
use Rattle.spin.specs.Totals.{quotients}
use Rattle.decoder.proofs.DivideLaws.{over-common}
use Rattle.decoder.proofs.divide.divide_part.Goals as goal

pub returns-else-d-eq0 : goal.returns-else-d-eq0
returns-else-d-eq0 c =
    let ds = c.args.degrees.now in
    let ts = c.args.totals.now in
    let is = c.common_degree-d.ensures in
    c.divide_all.ensures ∙ ap (λ d. quotients d ts) is ∙ over-common ds ts (λ e. c.if-d-eq0.false (is ∙ e)) c.requires
