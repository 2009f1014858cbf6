-- `jugnayap_rounds` meets its contract: the answer of `decoder::rounds` and the buffers that it leaves, by the record handed in. Assumes nothing.
use Rattle.jugnayap.proofs.RunLaws.{call-left}
use Rattle.jugnayap.proofs.jugnayap_rounds.Goals as goal

pub returns : goal.returns
returns c = call-left c.args.run _ _ _ _ _ _ _ c.called_numbers.ensures c.rounds-called.ensures c.record_of-handed.ensures
