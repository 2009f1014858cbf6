-- `jugnayap_start` meets its contract: the answer of `run::start`, and the buffers that it leaves. Assumes nothing.
use Rattle.jugnayap.proofs.RunLaws.{start_left_lem}
use Rattle.jugnayap.proofs.jugnayap_start.Goals as goal

pub returns : goal.returns
returns c = start_left_lem _ _ _ c.started_numbers.ensures c.start.ensures
