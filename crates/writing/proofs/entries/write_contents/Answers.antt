-- `write_contents` meets its contract: one check's entry more, and none at the end.
use Rattle.std.proofs.Common.{◌≡◌, [], ◌++◌, ◌∙◌, sym, ap, length, arith, inl, inr}
use lib.ListN.{length-append}
use lib.Seq.{sets, length-sets}
use Rattle.std.specs.Slice.Iter.{iter_rest}
use Rattle.rules.specs.Bytes.{le16, le32}
use Rattle.rules.proofs.StoreLaws.{sets-next}
use Rattle.writing.specs.Written.{if_cut, contents_from}
use Rattle.writing.proofs.CertificateLaws.{if-most, contents-next, contents-end}
use Rattle.writing.proofs.entries.write_contents.Goals as goal

pub loop-j-preserved : goal.loop-j-preserved
loop-j-preserved c =
    let loop = c.loop-j in
    let call = c.put_content-at in
    let turn = c.in-Some.ensures.steps in
    let k = c.in-Some.mask.now in
    let xs = le16 c.in-Some.j ++ le32 c.in-Some.b.now in
    let left = contents_from c.next.new.self.count (iter_rest c.next.new.self.iter.a) (iter_rest c.next.new.self.iter.b) in
    let next : contents_from loop.j-iterator.count (iter_rest loop.j-iterator.iter.a) (iter_rest loop.j-iterator.iter.b) ≡ if_cut k xs ++ left
    = contents-next turn.0.0 turn.0.1 turn.1 turn.2 in
    let long : length call.new.bytes ≡ length loop.bytes = ap length call.ensures.0 ∙ length-sets loop.bytes loop.at (if_cut k xs) in (
      omega (arith, long, call.ensures.1, loop.invariant.0, ap length turn.0.1, if-most k 6 xs (omega arith)),
      omega (arith, call.ensures.1, loop.invariant.1, ap length next, length-append (if_cut k xs) left),
      sets-next loop.bytes call.new.bytes loop.at call.result (if_cut k xs) left call.ensures.0 call.ensures.1 ∙ ap (sets loop.bytes loop.at) (sym next) ∙ loop.invariant.2,
    )

pub returns : goal.returns
returns c =
    let loop = c.loop-j in
    let bs = iter_rest loop.j-iterator.iter.a in
    let ks = iter_rest loop.j-iterator.iter.b in
    let end : contents_from loop.j-iterator.count bs ks ≡ [] = elim c.in-None.ensures.steps.0 [
      | inl none ↦ contents-end loop.j-iterator.count bs ks (inl none.1.0)
      | inr none ↦ contents-end loop.j-iterator.count bs ks (inr none.1.0)
    ] in
    (ap (sets loop.bytes loop.at) (sym end) ∙ loop.invariant.2, omega (arith, loop.invariant.1, ap length end))
