-- `put` meets its contract: a turn puts the next byte, and at the end there is no room or no byte left.
use Rattle.std.proofs.Common.{sym, ap, ap₂, ◌∙◌, arith, add-one, inl, inr}
use lib.ListN.{set, length-set}
use lib.Seq.{sets}
use Rattle.std.specs.Slice.Iter.{iter_rest}
use Rattle.file_numbers.proofs.PutLaws.{sets-out, sets-none}
use Rattle.file_numbers.proofs.put.Goals as goal

pub loop-i-preserved : goal.loop-i-preserved
loop-i-preserved c =
    let loop = c.loop-i in
    let turn = c.in-Some.ensures.steps in (
      omega (arith, length-set loop.bytes c.in-Some.i c.in-Some.value.now),
      ap₂ (λ i k. sets (set loop.bytes i c.in-Some.value.now) k (iter_rest c.next.new.self.b)) turn.0.1.1 (turn.0.1.2 ∙ add-one loop.i-iterator.a.start)
          ∙ ap (sets loop.bytes loop.i-iterator.a.start) (sym turn.1) ∙ loop.invariant.1,
    )

pub returns : goal.returns
returns c =
    let loop = c.loop-i in
    let left = iter_rest loop.i-iterator.b in
    let at = loop.i-iterator.a.start in
    elim c.in-None.ensures.steps [
      | inl none ↦ sym (sets-out loop.bytes at left (omega (arith, none.1, loop.invariant.0))) ∙ loop.invariant.1
      | inr none ↦ sym (sets-none loop.bytes at left none.1.0) ∙ loop.invariant.1
    ]
