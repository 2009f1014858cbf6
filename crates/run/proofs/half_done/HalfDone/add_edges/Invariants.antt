-- `add_edges` meets its contract: the first e edges are added, each at its member. Assumes nothing.
use Rattle.rules.specs.Step.{minus}
use Rattle.rules.specs.Scatter.{Added}
use Rattle.run.proofs.half_done.HalfDone.add_edges.Given as goal

abbrev pub invariant-loop-e : goal.invariant-loop-e
invariant-loop-e l = Added l.self-inside.members.now (minus l.self-inside.copies.now l.self-inside.offsets.now) l.initial.sums l.e l.sums
