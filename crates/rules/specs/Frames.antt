-- The reference frames that document 01 marks P: one table of questions with their answers, and one theorem over it, by computation. Assumes nothing.
use Rattle.std.specs.Prelude.{◌≡◌, refl, List, [], ◌∷◌, ℕ, ℤ, pos, negsuc}
use lib.Count.{ones}
use Rattle.integers.specs.Clip.{clip_z}
use Rattle.rules.specs.Refusal.{Reply, must, then, reply_of}
use Rattle.rules.specs.Bytes.{u16_at, u32_at}
use Rattle.rules.specs.Parity.{agreement}
use Rattle.rules.specs.Mask.{mask_right}
use Rattle.rules.specs.CodeFile.{in_range, contents, counts_right, starts_right, total_count, numbers_at, bodies, ascends, members_right, bits_right, file_of, code_file, code_file_reply}
use Rattle.rules.specs.Input.{on_frame, on_word}
use Rattle.rules.specs.Cut.{cut}
use Rattle.rules.specs.Step.{last_where, multiplier, step}
use Rattle.rules.specs.Bound.{reduced, bound, gap}
use Rattle.rules.specs.Round.{total, divided, spin, sums_of, round}
use Rattle.rules.specs.Certificate.{certificate_of, items_at, follows, on_item, on_items, on_certificate}
use Rattle.rules.specs.Sole.{sole}
use Rattle.rules.specs.Judge.{verdict, judge, judge_reply}
use Rattle.rules.specs.Buffers.{fits, fits_start}
use Rattle.rules.specs.Run.{next, iterate, limited, sound, admits, call_on, call, start}
use Rattle.rules.specs.Question.{shows, bound_is, judged, reply, leaving, number, Case, asked, said, answer_to}

-- "One check on bits 0, 1, 2", as the code file of document 01's frame report; and "one check on one bit"
unfoldable pub three_bits : List ℕ
three_bits = 0x03 ∷ 0x00 ∷ 0x01 ∷ 0x00 ∷ 0x00 ∷ 0x00 ∷ 0x03 ∷ 0x00 ∷ 0x00 ∷ 0x00 ∷ 0x01 ∷ 0x00 ∷ 0x02 ∷ 0x00 ∷ []

unfoldable pub one_bit : List ℕ
one_bit = 0x01 ∷ 0x00 ∷ 0x01 ∷ 0x00 ∷ 0x00 ∷ 0x00 ∷ 0x01 ∷ 0x00 ∷ 0x00 ∷ 0x00 ∷ []

unfoldable pub frame_a : List ℤ
frame_a = pos 4000 ∷ pos 4000 ∷ negsuc 1999 ∷ []

frame_b : List ℤ
frame_b = negsuc 3999 ∷ negsuc 3999 ∷ negsuc 1999 ∷ []

frame_c : List ℤ
frame_c = negsuc 4 ∷ []

abbrev blank14 : List ℕ
blank14 = 0 ∷ 0 ∷ 0 ∷ 0 ∷ 0 ∷ 0 ∷ 0 ∷ 0 ∷ 0 ∷ 0 ∷ 0 ∷ 0 ∷ 0 ∷ 0 ∷ []

-- a call's answer: running, certified
abbrev running : Reply
running = record { number = 0; values = pos 0 ∷ [] }

abbrev certified : Reply
certified = record { number = 0; values = pos 1 ∷ [] }

-- the judge's: certified with its mark, a gap
abbrev passed_with : ℕ → Reply
passed_with m = record { number = 0; values = pos 1 ∷ pos 0 ∷ pos m ∷ [] }

abbrev gap_of : ℕ → Reply
gap_of g = record { number = 0; values = pos 2 ∷ pos g ∷ [] }

-- scale 1, one entry on check 0, mask 4
abbrev pub with_multiplier : ℕ → ℕ → List ℕ
with_multiplier lo hi = 0x01 ∷ 0x00 ∷ 0x01 ∷ 0x00 ∷ 0x00 ∷ 0x00 ∷ lo ∷ hi ∷ 0x00 ∷ 0x00 ∷ 0x04 ∷ 0x00 ∷ 0x00 ∷ 0x00 ∷ []

abbrev pub word000 : List ℕ
word000 = 0 ∷ 0 ∷ 0 ∷ []

pub cases : List Case
cases =
    record {
      ask = shows three_bits frame_a 1;
      say = leaving running 1
          (pos 4000 ∷ pos 4000 ∷ negsuc 1999 ∷ []) (pos 2032 ∷ pos 2032 ∷ negsuc 31 ∷ []) (pos 1968 ∷ pos 1968 ∷ negsuc 1967 ∷ []) (pos 64 ∷ pos 64 ∷ pos 1936 ∷ [])
          (1968 ∷ []) (4 ∷ []) (5904 ∷ []) word000 blank14;
    }
    ∷ record {
      ask = shows three_bits frame_a 2;
      say = leaving running 2
          (pos 4064 ∷ pos 4064 ∷ negsuc 63 ∷ []) (pos 2698 ∷ pos 2698 ∷ pos 1302 ∷ []) (pos 3334 ∷ pos 3334 ∷ negsuc 3333 ∷ []) (negsuc 635 ∷ negsuc 635 ∷ pos 4636 ∷ [])
          (3334 ∷ []) (4 ∷ []) (6128 ∷ []) word000 blank14;
    }
    ∷ record {
      ask = shows three_bits frame_a 1024;
      say = leaving certified 3
          (pos 3364 ∷ pos 3364 ∷ pos 2636 ∷ []) (pos 3365 ∷ pos 3365 ∷ pos 2635 ∷ []) (pos 3333 ∷ pos 3333 ∷ negsuc 3332 ∷ []) (pos 32 ∷ pos 32 ∷ pos 5968 ∷ [])
          (3333 ∷ []) (4 ∷ []) (4794 ∷ []) word000 (0x01 ∷ 0x00 ∷ 0x01 ∷ 0x00 ∷ 0x00 ∷ 0x00 ∷ 0x05 ∷ 0x0D ∷ 0x00 ∷ 0x00 ∷ 0x04 ∷ 0x00 ∷ 0x00 ∷ 0x00 ∷ []);
    }
    ∷ record {
      ask = shows three_bits frame_b 1024;
      say = leaving certified 3
          (negsuc 3363 ∷ negsuc 3363 ∷ pos 2636 ∷ []) (negsuc 3364 ∷ negsuc 3364 ∷ pos 2635 ∷ []) (negsuc 3332 ∷ negsuc 3332 ∷ negsuc 3332 ∷ []) (negsuc 31 ∷ negsuc 31 ∷ pos 5968 ∷ [])
          (3333 ∷ []) (7 ∷ []) (4794 ∷ []) (1 ∷ 1 ∷ 0 ∷ []) (0x01 ∷ 0x00 ∷ 0x01 ∷ 0x00 ∷ 0x00 ∷ 0x00 ∷ 0x05 ∷ 0x0D ∷ 0x00 ∷ 0x00 ∷ 0x07 ∷ 0x00 ∷ 0x00 ∷ 0x00 ∷ []);
    }
    ∷ record { ask = judged three_bits frame_a word000 (with_multiplier 0xCF 0x07); say = reply (gap_of 2) }
    ∷ record { ask = judged three_bits frame_a word000 (with_multiplier 0xD0 0x07); say = reply (passed_with 0) }
    ∷ record { ask = judged three_bits frame_a word000 (with_multiplier 0xA0 0x0F); say = reply (passed_with 0) }
    ∷ record { ask = judged three_bits frame_a word000 (with_multiplier 0xA1 0x0F); say = reply (gap_of 4) }
    ∷ record {
      ask = shows one_bit frame_c 1024;
      say = leaving certified 2
          (pos 4096 ∷ []) (pos 4096 ∷ []) (negsuc 4100 ∷ []) (pos 8197 ∷ [])
          (4101 ∷ []) (1 ∷ []) (4101 ∷ []) (0 ∷ []) (0x01 ∷ 0x00 ∷ 0x01 ∷ 0x00 ∷ 0x00 ∷ 0x00 ∷ 0x05 ∷ 0x10 ∷ 0x00 ∷ 0x00 ∷ 0x01 ∷ 0x00 ∷ 0x00 ∷ 0x00 ∷ []);
    }
    ∷ record { ask = bound_is one_bit frame_c 1024; say = number (negsuc 4) }
    ∷ []

pub frames : asked cases ≡ said cases
unfolding cases three_bits one_bit frame_a frame_b frame_c answer_to must then reply_of u16_at u32_at agreement mask_right ones lib.Count.ones_in in_range contents counts_right starts_right
    total_count numbers_at bodies ascends members_right bits_right file_of code_file code_file_reply on_frame on_word cut last_where multiplier step reduced bound gap total divided spin round
    certificate_of items_at follows on_item on_items on_certificate verdict sole judge judge_reply fits fits_start next iterate sums_of limited sound admits call_on call start clip_z
frames = refl
