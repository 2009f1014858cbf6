-- `write_bodies` meets its contract: one check's body more, and none at the end.
use Rattle.std.proofs.Common.{◌≡◌, ◌+◌, ◌<◌, ◌∙◌, sym, ap, length, get_or, drop, arith}
use lib.Seq.{sets, length-sets}
use Rattle.rules.specs.Bytes.{le32}
use Rattle.rules.proofs.StoreLaws.{sets-next}
use Rattle.writing.specs.Written.{if_cut, bodies_from}
use Rattle.writing.proofs.CertificateLaws.{if-most, bodies-next, bodies-end}
use Rattle.writing.proofs.entries.write_bodies.Goals as goal

pub loop-mask-preserved : goal.loop-mask-preserved
loop-mask-preserved c =
    let masks = c.args.masks.now in
    let loop = c.loop-mask in
    let call = c.put_body-at in
    let k = get_or masks loop.mask-index 0 in
    let h : loop.mask-index < length masks = c.loop-mask-test.true in
    let long : length call.new.bytes ≡ length loop.bytes = ap length call.ensures.0 ∙ length-sets loop.bytes loop.at (if_cut k (le32 k)) in (
      omega (arith, h, long, call.ensures.1, loop.invariant.0, if-most k 4 (le32 k) (omega arith)),
      sets-next loop.bytes call.new.bytes loop.at call.result (if_cut k (le32 k)) (bodies_from (drop (loop.mask-index + 1) masks)) call.ensures.0 call.ensures.1
          ∙ ap (sets loop.bytes loop.at) (sym (bodies-next masks loop.mask-index h)) ∙ loop.invariant.1,
    )

pub returns : goal.returns
returns c =
    let loop = c.loop-mask in
    ap (sets loop.bytes loop.at) (sym (bodies-end c.args.masks.now loop.mask-index c.loop-mask-test.false)) ∙ loop.invariant.1
