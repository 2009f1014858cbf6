-- `bytes_right` meets its contract: whether all bytes so far are bits. Assumes nothing.
use Rattle.std.proofs.Common.{◌≡◌, take}
use lib.Dec.{leb}
use Rattle.std.specs.List.{list_all}
use Rattle.inputs.proofs.bytes_right.Given as goal

abbrev pub invariant-loop-byte : goal.invariant-loop-byte
invariant-loop-byte l = l.right ≡ list_all (λ b. leb b 1) (take l.byte-index l.w)
