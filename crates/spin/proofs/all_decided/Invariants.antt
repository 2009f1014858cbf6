-- `all_decided` meets its contract: whether all spins so far are decided. Assumes nothing.
use Rattle.std.proofs.Common.{◌≡◌, take}
use Rattle.spin.specs.Spin.{no_zero}
use Rattle.spin.proofs.all_decided.Given as goal

abbrev pub invariant-loop-spin : goal.invariant-loop-spin
invariant-loop-spin l = l.all ≡ no_zero (take l.spin-index l.spins)
