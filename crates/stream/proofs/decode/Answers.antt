use Rattle.std.proofs.Common.{◌<◌, length, refl, arith, ◌∙◌, ap, to_z, to_z-of_z}
use Rattle.std.specs.Int.{w16}
use Rattle.integers.specs.Machine.{fit}
use Rattle.rules.specs.Bytes.{u16_at}
use Rattle.stream.specs.Numbers.{numbers_of}
use Rattle.stream.proofs.NumberLaws.{numbers_more}
use Rattle.stream.proofs.decode.Goals as goal

pub loop-i-init : goal.loop-i-init
unfolding numbers_of
loop-i-init c = refl

-- the number that is stored is the one that its two bytes make
pub loop-i-preserved : goal.loop-i-preserved
unfolding u16_at
loop-i-preserved c =
    let room : c.loop-i.i < length c.args.numbers.now = omega arith in
    let value = to_z-of_z (fit w16 c.from_le_bytes.result c.from_le_bytes.type_inv) ∙ c.from_le_bytes.ensures ∙ ap (to_z w16) (omega arith) in
    numbers_more c.args.bytes.now c.loop-i.i c.loop-i.numbers c.args.numbers.now _ room c.loop-i.invariant value
