-- "A 0 claims nothing: multiplier 2000 in 01's three-bit frame has one, although 000 is alone there", as the mark with multiplier 3333 shows. By computation
-- and `judge-sole`. Assumes nothing.
use mathlib.Core.Path.{◌≡◌, refl}
use mathlib.Core.Bool.{true, false}
use mathlib.Core.List.{[], ◌∷◌}
use lib.Count.{ones}
use Rattle.rules.specs.Refusal.{gives, must, then}
use Rattle.rules.specs.Bytes.{u16_at, u32_at}
use Rattle.rules.specs.Table.{Table}
use Rattle.rules.specs.Parity.{agreement}
use Rattle.rules.specs.Mask.{mask_right}
use Rattle.rules.specs.CodeFile.{in_range, contents, counts_right, starts_right, total_count, numbers_at, bodies, ascends, members_right, bits_right, file_of, code_file}
use Rattle.rules.specs.Input.{on_frame, on_word, bits_of}
use Rattle.rules.specs.Bound.{reduced, bound, gap}
use Rattle.rules.specs.Certificate.{items_at, follows, on_item, on_items, on_certificate}
use Rattle.rules.specs.Sole.{sole, SoleWinner}
use Rattle.rules.specs.Judge.{passes, verdict, judge}
use Rattle.rules.specs.Frames.{three_bits, frame_a, with_multiplier, word000}
use Rattle.rules.proofs.Judged.{judge-sole}

abbrev three : Table
three = record { bits = 3; checks = (0 ∷ 1 ∷ 2 ∷ []) ∷ [] }

-- 2000 leaves (2000, 2000, 0) of the frame, 3333 leaves (667, 667, 1333)
pub marks : (code_file three_bits ≡ gives three) × (judge three_bits frame_a word000 (with_multiplier 0xD0 0x07) ≡ gives (passes false))
    × (judge three_bits frame_a word000 (with_multiplier 0x05 0x0D) ≡ gives (passes true))
unfolding three_bits frame_a must then u16_at u32_at agreement mask_right ones lib.Count.ones_in in_range contents counts_right starts_right total_count numbers_at bodies ascends members_right
    bits_right file_of code_file on_frame on_word reduced bound gap items_at follows on_item on_items on_certificate verdict sole judge
marks = (refl, refl, refl)

pub alone : SoleWinner three frame_a (bits_of word000)
alone = judge-sole three_bits frame_a word000 (with_multiplier 0x05 0x0D) three marks.0 marks.2
