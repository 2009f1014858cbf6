-- The line of the run that was decoded.
use Rattle.std.proofs.Common.{◌∙◌, ap, rules, arith, length-take}
use Rattle.std.specs.Prelude.{Ok}
use Rattle.reporting.proofs.LineLaws.{line_of, certified-short}
use Rattle.reporting.proofs.frame_line.Goals as goal

pub slice_bounds-word-end : goal.slice_bounds-word-end
slice_bounds-word-end c = omega (arith, certified-short _ _ c.decode-called.result _ _ c.decode-called.ensures (c.in_ok-status.was ∙ ap Ok c.in-Certified.is))

pub slice_bounds-certified_line-end : goal.slice_bounds-certified_line-end
slice_bounds-certified_line-end c =
    let short = certified-short _ _ c.decode-called.result _ _ c.decode-called.ensures (c.in_ok-status.was ∙ ap Ok c.in-Certified.is) in
    simp length-take (omega (arith, short))

pub returns-in_err-status : goal.returns-in_err-status
returns-in_err-status c =
    let refused = line_of _ _ c.decode-called.result _ _ c.decode-called.ensures _ c.in_err-status.was in search rules

pub returns-in-Running : goal.returns-in-Running
returns-in-Running c = line_of _ _ c.decode-called.result _ _ c.decode-called.ensures _ (c.in_ok-status.was ∙ ap Ok c.in-Running.is)

pub returns-in-Certified : goal.returns-in-Certified
returns-in-Certified c = c.certified_line.ensures ∙ line_of _ _ c.decode-called.result _ _ c.decode-called.ensures _ (c.in_ok-status.was ∙ ap Ok c.in-Certified.is)

pub returns-in-Spent : goal.returns-in-Spent
returns-in-Spent c = line_of _ _ c.decode-called.result _ _ c.decode-called.ensures _ (c.in_ok-status.was ∙ ap Ok c.in-Spent.is)
