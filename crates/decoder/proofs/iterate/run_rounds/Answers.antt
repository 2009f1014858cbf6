-- `run_rounds` meets its contract. The invariant: what is left of the rounds is done from where the run stands. Assumes nothing.
use mathlib.Core.Path.{sym, ◌∙◌, ap}
use Prim.Native.Nat.{◌-◌}
use native.Mathlib.Omega.{arith}
use denote.Enum.Bare.{differs_true, differs_false}
use Rattle.run.specs.contracts.Status.{the_type}
use Rattle.run.specs.declared.Status.TheVariants.{Running}
use Rattle.run.specs.Reply.{status_of}
use Rattle.run.proofs.ViewLaws.{status-inj}
use Rattle.decoder.specs.Rounds.{left_by}
use Rattle.decoder.proofs.IterateLaws.{going-first, going-ready, going_next, going-ended, going-last}
use Rattle.decoder.proofs.iterate.run_rounds.Goals as goal

pub loop-init : goal.loop-init
loop-init c = going-first _ _ (omega arith) c.requires.ready

pub do_round-at-requires-clause-ready : goal.do_round-at-requires-clause-ready
do_round-at-requires-clause-ready c = going-ready c.loop.invariant (omega arith)

pub returns-then-ne : goal.returns-then-ne
returns-then-ne c =
    going-ended _ _ _ _ _ _ _ c.loop.invariant (omega arith) c.do_round-at.ensures
    (λ e. differs_true the_type _ Running (sym c.ne.ensures ∙ c.if-ne.true) (status-inj _ Running e))

pub loop-preserved : goal.loop-preserved
loop-preserved c =
    let goes = ap status_of (differs_false the_type tt _ Running (sym c.ne.ensures ∙ c.if-ne.false)) in
    going_next _ _ _ _ _ _ _ c.loop.invariant (omega arith) c.do_round-at.ensures _ (omega arith ∙ ap (λ s. left_by s (c.args.wanted - c.loop.counter)) (sym goes))

pub returns : goal.returns
returns c = going-last _ _ _ _ _ _ (omega arith) c.loop.invariant
