-- A refused start is a refused call, and a fresh record goes on with what the start left.
use Rattle.std.proofs.Common.{arith}
use Rattle.reporting.specs.Ran.{lent_with}
use Rattle.reporting.proofs.LineLaws.{ran-refused, ran-started}
use Rattle.reporting.proofs.decode.Goals as goal

pub returns-in-Err : goal.returns-in-Err
unfolding lent_with
returns-in-Err c =
    ran-refused c.args.code.now c.args.frame.now (lent_with c.args.word.now c.args.certificate.now) (omega arith) (omega arith) (omega arith)
    c.start.result _ c.start.ensures _ c.fresh.result c.in-Err.is c.fresh.ensures

pub returns-in-Ok : goal.returns-in-Ok
unfolding lent_with
returns-in-Ok c =
    ran-started c.args.code.now c.args.frame.now (lent_with c.args.word.now c.args.certificate.now) (omega arith) (omega arith) (omega arith)
    c.start.result _ c.start.ensures _ _ c.in-Ok.is c.rounds.ensures
