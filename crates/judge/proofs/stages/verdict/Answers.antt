-- `verdict` meets its contract. Assumes nothing.
use mathlib.Core.Path.{refl, ◌∙◌}
use Rattle.judge.proofs.StageLaws.{verdict-broken, verdict-weighed}
use Rattle.judge.proofs.stages.verdict.Goals as goal

pub returns-in-Some : goal.returns-in-Some
returns-in-Some c =
    let args = c.args.claim.now in
    verdict-broken _ args.frame.now args.word.now args.certificate.now _ c.in-Some.ensures

pub returns-in-None : goal.returns-in-None
returns-in-None c =
    let args = c.args.claim.now in
    c.weighed.ensures ∙ verdict-weighed _ args.frame.now args.word.now args.certificate.now _ _ c.in-None.ensures refl refl
