use Rattle.std.proofs.lemmas.Result.{IfOk-weaker}
use Rattle.stream.proofs.NumberLaws.{numbers-rest}
use Rattle.stream.proofs.read_i16.Goals as goal

pub returns-clause-read : goal.returns-clause-read
returns-clause-read g c = IfOk-weaker _ _ _ (λ got h. numbers-rest _ _ _ _ h) c.read_by.ensures.read
