-- `pass_one` meets its contract: the check's step on its parts, put back. Assumes nothing.
use mathlib.Core.Path.{ap}
use Rattle.decoder.specs.Stepped.{Stepped}
use Rattle.decoder.specs.Passed.{passed_to}
use Rattle.decoder.specs.Parts.{part, splice, placed, one_passed}
use Rattle.decoder.proofs.pass.pass_one.Goals as goal

pub step-entry-requires : goal.step-entry-requires
unfolding part
step-entry-requires c =
    c.requires.step

pub returns : goal.returns
unfolding one_passed part splice
returns c =
    let a = c.args in
    let came = passed_to a.copies.now a.offsets.now a.sums.now a.multipliers.now a.masks.now a.depths.now in
    ap (λ (t : Stepped). placed a.j a.a a.e t came) c.step-entry.ensures
