use Rattle.std.proofs.Common.{◌≡◌}
use Rattle.rules.specs.Buffers.{over}
use Rattle.stream.specs.Numbers.{numbers_of}
use Rattle.stream.proofs.decode.Given as goal

abbrev pub invariant-loop-i : goal.invariant-loop-i
invariant-loop-i l = l.numbers ≡ over (numbers_of l.bytes l.i) l.initial.numbers
