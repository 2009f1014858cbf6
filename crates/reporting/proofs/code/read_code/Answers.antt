-- No more is announced than the longest file has.
use Rattle.std.proofs.Common.{arith}
use Rattle.std.proofs.lemmas.Result.{IfOk-weaker}
use Rattle.reporting.proofs.CodeLaws.{read-most}
use Rattle.reporting.proofs.code.read_code.Goals as goal

pub read_on-requires-2 : goal.read_on-requires-2
read_on-requires-2 g c = (read-most _ _ _ _ (omega arith) c.in_ok-head.ensures.read, omega (arith, c.read_on.auto.file))

pub read_on-requires-3 : goal.read_on-requires-3
read_on-requires-3 g c =
    let head = read-most _ _ _ _ (omega arith) c.in_ok-head.ensures.read in
    (read-most _ _ _ _ head c.in_ok-contents.ensures.read, omega (arith, c.read_on.auto.file, c.read_on-2.auto.file))

pub returns : goal.returns
returns g c =
    let head = read-most _ _ _ _ (omega arith) c.in_ok-head.ensures.read in
    let contents = read-most _ _ _ _ head c.in_ok-contents.ensures.read in
    IfOk-weaker _ _ _ (λ size h. read-most _ _ _ _ contents h) c.read_on-3.ensures.read
