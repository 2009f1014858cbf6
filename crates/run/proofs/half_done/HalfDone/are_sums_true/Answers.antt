-- `are_sums_true` meets its contract: from zeros the edges make the true sums. Assumes nothing.
use native.Mathlib.Omega.{arith}
use lib.ListN.{length-take}
use Rattle.run.proofs.SumsLaws.{edges_fit, sums-tested}
use Rattle.run.proofs.half_done.HalfDone.are_sums_true.Goals as goal

pub slice_bounds-found-end : goal.slice_bounds-found-end
slice_bounds-found-end c = simp length-take (omega (arith, c.self.invariant.edges.bits))

pub add_edges-requires : goal.add_edges-requires
add_edges-requires c = edges_fit c.self.invariant c.self.view_is c.requires.0 c.requires.1

pub returns : goal.returns
returns c = sums-tested c.self.invariant c.self.view_is c.add_edges.ensures _ c.eq.ensures
