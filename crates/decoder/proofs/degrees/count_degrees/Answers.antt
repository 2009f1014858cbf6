-- `count_degrees` meets its contract: what is counted and the members from the loop's place on make each degree. Assumes nothing.
use mathlib.Core.Path.{refl}
use Prim.Native.Nat.{ℕ}
use native.Mathlib.Omega.{arith}
use lib.ListN.{get_or, get_or-replicate}
use Rattle.rules.specs.Limits.{max_bits}
use Rattle.table.proofs.DegreesLaws.{degree-length}
use Rattle.rules.proofs.Duality.{below_at}
use Rattle.decoder.proofs.degrees.count_degrees.Goals as goal

pub loop-i-init : goal.loop-i-init
loop-i-init c = (refl, λ i h. omega (arith, get_or-replicate {A = ℕ} max_bits i 0 0 h))

pub overflow_add-degrees : goal.overflow_add-degrees
overflow_add-degrees c =
    let members = c.args.members.now in
    let i = get_or members c.loop-i.i-index 0 in
    omega (arith, c.loop-i.invariant.1 i (below_at max_bits members c.loop-i.i-index (omega arith) c.requires.1), degree-length i members)
