-- `bit_degrees` meets its contract: what is counted and the members from k on make each degree. Assumes nothing.
use Prim.Native.Nat.{◌+◌, ◌*◌, ◌-◌}
use Rattle.rules.specs.CodeFile.{numbers_at}
use Rattle.table.proofs.DegreesLaws.{counted-more, counted_skip, counted-at, counted_none}
use Rattle.table.proofs.degrees.bit_degrees.Goals as goal
use Rattle.table.proofs.degrees.bit_degrees.Goals.{then-x-lt-MAX_BITS, else-x-lt-MAX_BITS}

pub loop-k-preserved : goal.loop-k-preserved
loop-k-preserved c =
    let members = c.args.members.now in
    let loop = c.loop-k in
    let x = c.get-x.result in
    let all = numbers_at members.code.now members.at members.count in
    let rest = numbers_at members.code.now (members.at + 2 * (loop.k + 1)) (members.count - (loop.k + 1)) in
    let here = counted-at loop.degrees members.code.now all members.at members.count loop.k x c.loop-k-test.true c.get-x.ensures.0 loop.invariant in
    elim c.if-x-lt-MAX_BITS.branch [
      | then-x-lt-MAX_BITS w ↦ counted-more loop.degrees c.if-x-lt-MAX_BITS.degrees rest all x here w.if-x-lt-MAX_BITS.true w.degrees-is
      | else-x-lt-MAX_BITS w ↦ counted_skip loop.degrees c.if-x-lt-MAX_BITS.degrees rest all x here w.if-x-lt-MAX_BITS.false w.degrees-is
    ]

pub loop-k-init : goal.loop-k-init
loop-k-init c = counted_none _ _ _
