-- Buffers that are exactly as long as the table needs: what is written takes the place of what was there. Assumes nothing.
use mathlib.Core.Path.{◌≡◌, ap, ap₂}
use Rattle.rules.specs.Table.{Table, edges_of}
use Rattle.rules.specs.Buffers.{copies, offsets, sums, Buffers, lengths_of, needs}
use Rattle.rules.specs.Run.{state_in, sums_in}
use Rattle.rules.proofs.BufferLaws.{take_exact}

-- the state is the copies and the offsets
pub state-exact : (t : Table) (b : Buffers) → lengths_of b ≡ needs t → state_in t b ≡ record { copies = b.copies; offsets = b.offsets }
state-exact t b e = ap₂ (λ z y. record { copies = z; offsets = y }) (take_exact (edges_of t) b.copies (ap (λ n. n copies) e)) (take_exact (edges_of t) b.offsets (ap (λ n. n offsets) e))

pub sums-exact : (t : Table) (b : Buffers) → lengths_of b ≡ needs t → sums_in t b ≡ b.sums
sums-exact t b e = take_exact t.bits b.sums (ap (λ n. n sums) e)
