-- Further worked examples, by computation: document 01's cuts, the division, empty checks, multipliers at another scale, marks, the three-frame report, a list of calls with its twin,
-- and which refusal comes first where several apply. Assumes nothing.
use Rattle.std.specs.Prelude.{◌≡◌, refl, List, [], ◌∷◌, ◌++◌, ℕ, zero, suc, ◌+◌, ◌/◌, ◌%◌, ℤ, pos, negsuc, replicate}
use lib.Count.{ones}
use Rattle.integers.specs.Clip.{clip_z}
use Rattle.rules.specs.Refusal.{refused, gives, Reply, must, then, reply_of}
use Rattle.rules.specs.Bytes.{u16_at, u32_at}
use Rattle.rules.specs.Parity.{agreement}
use Rattle.rules.specs.Mask.{mask_right}
use Rattle.rules.specs.CodeFile.{in_range, contents, counts_right, starts_right, total_count, numbers_at, bodies, ascends, members_right, bits_right, file_of, code_file, code_file_reply}
use Rattle.rules.specs.Input.{on_frame, on_word, on_point, on_check}
use Rattle.rules.specs.Cut.{cut, violation, cut_search, cut_reply}
use Rattle.rules.specs.Step.{last_where, multiplier, step}
use Rattle.rules.specs.Bound.{reduced, bound, gap}
use Rattle.rules.specs.Round.{total, divided, spin, sums_of, round}
use Rattle.rules.specs.Certificate.{certificate_of, items_at, follows, on_item, on_items, on_certificate}
use Rattle.rules.specs.Sole.{sole}
use Rattle.rules.specs.Judge.{verdict, judge, judge_reply}
use Rattle.rules.specs.Scaled.{times, at_scale}
use Rattle.rules.specs.Buffers.{Buffers, Lengths, needs_by, fits, fits_start, blank}
use Rattle.rules.specs.Run.{running, certified, spent, Run, next, iterate, limited, sound, admits, call_on, call, start}
use Rattle.rules.specs.Calls.{Call, lent_call, counted_by}
use Rattle.rules.specs.Report.{certified_line, spent_line, frame_line}
use Rattle.rules.specs.Question.{Question, file_is, cut_is, judged, start_is, call_is, shows, line_is, list_is, count_is, Case, asked, said, answer_to}
use Rattle.rules.specs.Question.{Place, Said, reply, shown, buffers, extreme, dirty, leaving, line, places, counts}
use Rattle.rules.specs.Frames.{three_bits, one_bit, frame_a, with_multiplier, word000}

abbrev no : ℕ → Reply
no k = record { number = k; values = [] }

abbrev yes : List ℤ → Reply
yes vs = record { number = 0; values = vs }

-- certified, with its mark
abbrev passed : ℕ → Said
passed m = reply (yes (pos 1 ∷ pos 0 ∷ pos m ∷ []))

abbrev row : Question → Said → Case
row q s = record { ask = q; say = s }

-- checks 0 3, 0 1 and 0 1 2 on four bits
four_bits : List ℕ
four_bits = 4 ∷ 0 ∷ 3 ∷ 0 ∷ 0 ∷ 0 ∷ 2 ∷ 0 ∷ 2 ∷ 0 ∷ 2 ∷ 0 ∷ 4 ∷ 0 ∷ 3 ∷ 0 ∷ 0 ∷ 0 ∷ 3 ∷ 0 ∷ 0 ∷ 0 ∷ 1 ∷ 0 ∷ 0 ∷ 0 ∷ 1 ∷ 0 ∷ 2 ∷ 0 ∷ []

frame_d : List ℤ
frame_d = negsuc 5399 ∷ negsuc 1799 ∷ pos 6000 ∷ pos 7600 ∷ []

frame_f : List ℤ
frame_f = pos 1 ∷ negsuc 1 ∷ negsuc 7999 ∷ pos 5 ∷ []

-- ---- code files
-- two checks of degree one on bit 0 of one bit, with the starts and counts handed in
abbrev two_checks : ℕ → ℕ → ℕ → ℕ → List ℕ
two_checks s a t b = 1 ∷ 0 ∷ 2 ∷ 0 ∷ s ∷ 0 ∷ a ∷ 0 ∷ t ∷ 0 ∷ b ∷ 0 ∷ 0 ∷ 0 ∷ 0 ∷ 0 ∷ []

-- contents of m checks of degree d, from edge s on
regular : ℕ → ℕ → ℕ → List ℕ
regular zero d s = []
regular (suc m) d s = s % 256 ∷ s / 256 ∷ d ∷ 0 ∷ regular m d (s + d)

-- m one-member checks on bit 0 alone
on_bit0 : ℕ → List ℕ
on_bit0 m = 1 ∷ 0 ∷ m ∷ 0 ∷ (regular m 1 0 ++ replicate (m + m) 0)

files : List Case
files =
    row (file_is three_bits) (reply (yes (pos 3 ∷ pos 1 ∷ pos 3 ∷ [])))
    ∷ row (file_is []) (reply (no 1))
    ∷ row (file_is (3 ∷ 0 ∷ 1 ∷ [])) (reply (no 1))
    ∷ row (file_is (0 ∷ 0 ∷ 1 ∷ 0 ∷ [])) (reply (no 2))
    ∷ row (file_is (1 ∷ 0 ∷ 1 ∷ 8 ∷ [])) (reply (no 2))
    -- the contents don't fit, with a bad count in them: 5 before 3
    ∷ row (file_is (1 ∷ 0 ∷ 1 ∷ 0 ∷ 0 ∷ 0 ∷ 33 ∷ [])) (reply (no 5))
    -- a bad count in the last check, a wrong start in the first: 3 before 4
    ∷ row (file_is (two_checks 1 1 1 33)) (reply (no 3))
    -- the second check starts where an empty one does, with one member too many behind; and beyond it
    ∷ row (file_is (two_checks 0 0 0 1)) (reply (no 5))
    ∷ row (file_is (two_checks 0 0 1 1)) (reply (no 4))
    ∷ row (file_is (two_checks 0 1 2 1)) (reply (no 4))
    -- 257 checks of 32 edges, no bodies: 4 before 5
    ∷ row (file_is (32 ∷ 0 ∷ 1 ∷ 1 ∷ regular 257 32 0)) (reply (no 4))
    ∷ row (file_is (32 ∷ 0 ∷ 0 ∷ 1 ∷ regular 256 32 0)) (reply (no 5))
    -- a member not below n, and bytes left over: 5 before 6
    ∷ row (file_is (1 ∷ 0 ∷ 1 ∷ 0 ∷ 0 ∷ 0 ∷ 1 ∷ 0 ∷ 1 ∷ 0 ∷ 0 ∷ [])) (reply (no 5))
    ∷ row (file_is (1 ∷ 0 ∷ 1 ∷ 0 ∷ 0 ∷ 0 ∷ 1 ∷ 0 ∷ 1 ∷ 0 ∷ [])) (reply (no 6))
    -- members 0, 0 and members 1, 0
    ∷ row (file_is (2 ∷ 0 ∷ 1 ∷ 0 ∷ 0 ∷ 0 ∷ 2 ∷ 0 ∷ 0 ∷ 0 ∷ 0 ∷ 0 ∷ [])) (reply (no 6))
    ∷ row (file_is (2 ∷ 0 ∷ 1 ∷ 0 ∷ 0 ∷ 0 ∷ 2 ∷ 0 ∷ 1 ∷ 0 ∷ 0 ∷ 0 ∷ [])) (reply (no 6))
    -- bit 1 in no check; bit 0 in 32 checks, and in 33
    ∷ row (file_is (2 ∷ 0 ∷ 1 ∷ 0 ∷ 0 ∷ 0 ∷ 1 ∷ 0 ∷ 0 ∷ 0 ∷ [])) (reply (no 7))
    ∷ row (file_is (on_bit0 32)) (reply (yes (pos 1 ∷ pos 32 ∷ pos 32 ∷ [])))
    ∷ row (file_is (on_bit0 33)) (reply (no 7))
    ∷ []

-- ---- cuts: "(1365, 1365, −1366) has no cut; (1365, 1365, −1367) has mask 4", and the least depth
cuts : List Case
cuts =
    row (cut_is three_bits (pos 1365 ∷ pos 1365 ∷ negsuc 1365 ∷ []) 0) (reply (yes []))
    ∷ row (cut_is three_bits (pos 1365 ∷ pos 1365 ∷ negsuc 1366 ∷ []) 0) (reply (yes (pos 4 ∷ pos 1 ∷ [])))
    -- the greatest depth: 2U less nothing
    ∷ row (cut_is one_bit (negsuc 4095 ∷ []) 0) (reply (yes (pos 1 ∷ pos 8192 ∷ [])))
    -- no negative spin: the third changes sides
    ∷ row (cut_is three_bits (pos 4000 ∷ pos 4000 ∷ pos 2000 ∷ []) 0) (reply (yes (pos 4 ∷ pos 1904 ∷ [])))
    -- a spin beyond U, and a check number not below m: 16 before 17
    ∷ row (cut_is three_bits (pos 4097 ∷ pos 0 ∷ pos 0 ∷ []) 1) (reply (no 16))
    ∷ row (cut_is three_bits (pos 4096 ∷ pos 0 ∷ pos 0 ∷ []) 1) (reply (no 17))
    ∷ row (cut_is (0 ∷ []) [] 0) (reply (no 1))
    ∷ []

-- ---- the judge: q, S, then one or two entries on check 0
abbrev one : ℕ → ℕ → ℕ → ℕ → ℕ → List ℕ
one q s c b k = q ∷ 0 ∷ s ∷ 0 ∷ c ∷ 0 ∷ b ∷ 0 ∷ 0 ∷ 0 ∷ k ∷ 0 ∷ 0 ∷ 0 ∷ []

abbrev two : ℕ → ℕ → ℕ → ℕ → List ℕ
two c k d j = 2 ∷ 0 ∷ 1 ∷ 0 ∷ c ∷ 0 ∷ 1 ∷ 0 ∷ 0 ∷ 0 ∷ d ∷ 0 ∷ 1 ∷ 0 ∷ 0 ∷ 0 ∷ k ∷ 0 ∷ 0 ∷ 0 ∷ j ∷ 0 ∷ 0 ∷ 0 ∷ []

certificates : List Case
certificates =
    -- 8 before 9, 9 before 15, 15 before 10, 10 before 11, 11 before 12, 12 before 13
    row (judged three_bits (pos 8192 ∷ []) [] []) (reply (no 8))
    ∷ row (judged three_bits (pos 8192 ∷ pos 0 ∷ pos 0 ∷ []) [] []) (reply (no 9))
    ∷ row (judged three_bits frame_a (0 ∷ 2 ∷ 0 ∷ []) []) (reply (no 15))
    ∷ row (judged three_bits frame_a word000 (0 ∷ 0 ∷ 0 ∷ [])) (reply (no 10))
    ∷ row (judged three_bits frame_a word000 (one 2 0 0 1 4)) (reply (no 10))
    ∷ row (judged three_bits frame_a word000 (one 1 0 1 1 4)) (reply (no 11))
    ∷ row (judged three_bits frame_a word000 (one 1 1 1 1 3)) (reply (no 12))
    ∷ row (judged three_bits frame_a word000 (one 1 1 0 0 3)) (reply (no 12))
    ∷ row (judged three_bits frame_a word000 (one 1 1 0 1 3)) (reply (no 13))
    ∷ row (judged three_bits frame_a word000 (one 1 1 0 1 8)) (reply (no 13))
    -- the second entry's order comes before the word's broken check; its check number before its order
    ∷ row (judged three_bits frame_a (1 ∷ 0 ∷ 0 ∷ []) (two 0 4 0 4)) (reply (no 14))
    ∷ row (judged three_bits frame_a word000 (two 0 4 1 1)) (reply (no 12))
    ∷ row (judged three_bits frame_a word000 (two 0 3 1 1)) (reply (no 13))
    -- a broken check comes before the gap; no entries at all: the bound is the sum of sizes
    ∷ row (judged three_bits frame_a (1 ∷ 0 ∷ 0 ∷ []) (two 0 1 0 4)) (reply (yes (pos 0 ∷ pos 0 ∷ [])))
    ∷ row (judged three_bits frame_a word000 (0 ∷ 0 ∷ 1 ∷ 0 ∷ [])) (reply (yes (pos 2 ∷ pos 4000 ∷ [])))
    ∷ []

-- ---- empty checks: document 01's check is number 1 of four, the others have lost their members
emptied : List ℕ
emptied = 3 ∷ 0 ∷ 4 ∷ 0 ∷ 0 ∷ 0 ∷ 0 ∷ 0 ∷ 0 ∷ 0 ∷ 3 ∷ 0 ∷ 3 ∷ 0 ∷ 0 ∷ 0 ∷ 3 ∷ 0 ∷ 0 ∷ 0 ∷ 0 ∷ 0 ∷ 1 ∷ 0 ∷ 2 ∷ 0 ∷ []

empties : List Case
empties =
    row (file_is emptied) (reply (yes (pos 3 ∷ pos 4 ∷ pos 3 ∷ [])))
    -- no check has members: the bit stands in none
    ∷ row (file_is (1 ∷ 0 ∷ 1 ∷ 0 ∷ 0 ∷ 0 ∷ 0 ∷ 0 ∷ [])) (reply (no 7))
    ∷ row (cut_is emptied (pos 1365 ∷ pos 1365 ∷ negsuc 1366 ∷ []) 0) (reply (yes []))
    ∷ row (cut_is emptied (pos 1365 ∷ pos 1365 ∷ negsuc 1366 ∷ []) 1) (reply (yes (pos 4 ∷ pos 1 ∷ [])))
    ∷ row (cut_is emptied (pos 1365 ∷ pos 1365 ∷ negsuc 1366 ∷ []) 3) (reply (yes []))
    ∷ row (cut_is emptied (pos 1365 ∷ pos 1365 ∷ negsuc 1366 ∷ []) 4) (reply (no 17))
    -- the broken check by its own number
    ∷ row (judged emptied frame_a (1 ∷ 0 ∷ 0 ∷ []) (0 ∷ 0 ∷ 1 ∷ 0 ∷ [])) (reply (yes (pos 0 ∷ pos 1 ∷ [])))
    -- an entry on an empty check: 12 by its multiplier, else 13 by any mask, before 14
    ∷ row (judged emptied frame_a word000 (one 1 1 0 0 1)) (reply (no 12))
    ∷ row (judged emptied frame_a word000 (one 1 1 0 1 0)) (reply (no 13))
    ∷ row (judged emptied frame_a word000 (one 1 1 0 1 1)) (reply (no 13))
    ∷ row (judged emptied frame_a word000 (two 1 4 3 1)) (reply (no 13))
    ∷ row (judged emptied frame_a word000 (two 1 4 0 1)) (reply (no 13))
    -- rounds, word and multiplier as without the empty checks; the certificate names check 1
    ∷ row (shows emptied frame_a 1024) (leaving (yes (pos 1 ∷ [])) 3
    (pos 3364 ∷ pos 3364 ∷ pos 2636 ∷ []) (pos 3365 ∷ pos 3365 ∷ pos 2635 ∷ []) (pos 3333 ∷ pos 3333 ∷ negsuc 3332 ∷ []) (pos 32 ∷ pos 32 ∷ pos 5968 ∷ [])
    (0 ∷ 3333 ∷ 0 ∷ 0 ∷ []) (0 ∷ 4 ∷ 0 ∷ 0 ∷ []) (0 ∷ 4794 ∷ 0 ∷ 0 ∷ []) word000 (1 ∷ 0 ∷ 1 ∷ 0 ∷ 1 ∷ 0 ∷ 0x05 ∷ 0x0D ∷ 0 ∷ 0 ∷ 4 ∷ 0 ∷ 0 ∷ 0 ∷ replicate 30 0))
    ∷ row (line_is emptied frame_a) (line (certified_line 3 (pos 6000) 1))
    ∷ []

-- ---- scales: (40, 40, −20) run as (4000, 4000, −2000). Document 01's multipliers 1999, 2000, 4000 and 4001 have at scale 100 the gaps that they have there
frame_e : List ℤ
frame_e = pos 40 ∷ pos 40 ∷ negsuc 19 ∷ []

scaled : (times 100 frame_e ≡ frame_a) × (at_scale 258 (9 ∷ 8 ∷ 7 ∷ 6 ∷ 5 ∷ []) ≡ 9 ∷ 8 ∷ 2 ∷ 1 ∷ 5 ∷ []) × (at_scale 258 (9 ∷ 8 ∷ 7 ∷ []) ≡ 9 ∷ 8 ∷ 7 ∷ [])
unfolding frame_a frame_e
scaled = (refl, refl, refl)

scales : List Case
scales =
    row (judged three_bits frame_e word000 (at_scale 100 (with_multiplier 0xCF 0x07))) (reply (yes (pos 2 ∷ pos 2 ∷ [])))
    ∷ row (judged three_bits frame_e word000 (at_scale 100 (with_multiplier 0xD0 0x07))) (passed 0)
    ∷ row (judged three_bits frame_e word000 (at_scale 100 (with_multiplier 0xA0 0x0F))) (passed 0)
    ∷ row (judged three_bits frame_e word000 (at_scale 100 (with_multiplier 0xA1 0x0F))) (reply (yes (pos 2 ∷ pos 4 ∷ [])))
    ∷ row (judged three_bits frame_e word000 (at_scale 1024 (with_multiplier 0xD0 0x07))) (reply (no 11))
    ∷ []

-- ---- marks
marks : List Case
marks =
    -- multiplier 3333: (667, 667, 1333). At scale 100 too; 2000 and 4000 above have a 0
    row (judged three_bits frame_a word000 (with_multiplier 0x05 0x0D)) (passed 1)
    ∷ row (judged three_bits frame_e word000 (at_scale 100 (with_multiplier 0x05 0x0D))) (passed 1)
    -- the frame's number 0 doesn't count, the reduced one does: (4000, 4000, 0) with no entry, and with multiplier 1 on mask 4
    ∷ row (judged three_bits (pos 4000 ∷ pos 4000 ∷ pos 0 ∷ []) word000 (0 ∷ 0 ∷ 1 ∷ 0 ∷ [])) (passed 0)
    ∷ row (judged three_bits (pos 4000 ∷ pos 4000 ∷ pos 0 ∷ []) word000 (one 1 1 0 1 4)) (passed 1)
    -- the scale counts: (2, 2, 0) and multiplier 2 at scales 1 and 2
    ∷ row (judged three_bits (pos 2 ∷ pos 2 ∷ pos 0 ∷ []) word000 (one 1 1 0 2 4)) (passed 0)
    ∷ row (judged three_bits (pos 2 ∷ pos 2 ∷ pos 0 ∷ []) word000 (one 1 2 0 2 4)) (passed 1)
    -- two masks of one check cancel on bits 0 and 2, with 1 on bit 2 and without
    ∷ row (judged three_bits (pos 1 ∷ pos 10 ∷ pos 1 ∷ []) word000 (two 0 1 0 4)) (passed 1)
    ∷ row (judged three_bits (pos 1 ∷ pos 10 ∷ pos 0 ∷ []) word000 (two 0 1 0 4)) (passed 0)
    -- a 0 at the first bit alone
    ∷ row (judged three_bits (pos 0 ∷ pos 10 ∷ pos 1 ∷ []) word000 (two 0 1 0 4)) (passed 0)
    -- a word with ones
    ∷ row (judged three_bits (negsuc 3999 ∷ negsuc 3999 ∷ negsuc 1999 ∷ []) (1 ∷ 1 ∷ 0 ∷ []) (one 1 1 0 1 7)) (reply (yes (pos 2 ∷ pos 3998 ∷ [])))
    ∷ row (judged three_bits (negsuc 3999 ∷ negsuc 3999 ∷ pos 1 ∷ []) (1 ∷ 1 ∷ 0 ∷ []) (one 1 1 0 1 7)) (passed 1)
    -- 000 and 011 tie on (10, 10, −10)
    ∷ row (judged three_bits (pos 10 ∷ pos 10 ∷ negsuc 9 ∷ []) word000 (one 1 1 0 10 4)) (passed 0)
    ∷ row (judged three_bits (pos 10 ∷ pos 10 ∷ negsuc 9 ∷ []) (0 ∷ 1 ∷ 1 ∷ []) (one 1 1 0 10 4)) (passed 0)
    -- one bit: multiplier 5 leaves nothing of −5, 6 leaves 1
    ∷ row (judged one_bit (negsuc 4 ∷ []) (0 ∷ []) (one 1 1 0 5 1)) (passed 0)
    ∷ row (judged one_bit (negsuc 4 ∷ []) (0 ∷ []) (one 1 1 0 6 1)) (passed 1)
    ∷ []

-- ---- calls on runs as they stand
abbrev stands : ℕ → Rattle.rules.specs.Run.Status → Buffers → Run
stands k s b = record { progress = record { rounds = k; status = s }; buffers = b }

-- refused, with the record and every buffer as they were
abbrev stays : ℕ → Run → Said
stays k r = shown (no k) r.progress.rounds r.buffers

abbrev refusal : List ℤ → ℕ → Run → ℕ → Case
refusal l v r k = row (call_is one_bit l v r) (stays k r)

-- done without a change, still running
abbrev unchanged : List ℕ → ℕ → Run → Case
unchanged file v r = row (call_is file (pos 5 ∷ []) v r) (shown (yes (pos 0 ∷ [])) r.progress.rounds r.buffers)

calls : List Case
calls =
    row (start_is one_bit [] (pos 3 ∷ []) (pos 3 ∷ [])) (reply (no 41))
    ∷ row (start_is one_bit (pos 3 ∷ []) (pos 3 ∷ []) []) (reply (no 41))
    ∷ row (start_is one_bit (pos 3 ∷ []) (pos 3 ∷ pos 3 ∷ []) (pos 3 ∷ [])) (reply (yes (pos 0 ∷ pos 0 ∷ [])))
    -- 17 before 41, 41 before 42, 42 before 43
    ∷ refusal (pos 5 ∷ []) 1025 (stands 0 certified (buffers [] [] [])) 17
    ∷ refusal (pos 5 ∷ []) 1024 (stands 0 certified (buffers [] [] [])) 41
    ∷ refusal (pos 5 ∷ []) 0 (stands 9999 spent (buffers (pos 4097 ∷ []) (pos 1 ∷ []) (pos 0 ∷ []))) 42
    -- a copy outside; 1,024 rounds in a running run; an offset beyond 8,192 × rounds; and just within
    ∷ refusal (pos 5 ∷ []) 0 (stands 3 running (buffers (pos 4097 ∷ []) (pos 0 ∷ []) (pos 4097 ∷ []))) 43
    ∷ refusal (pos 5 ∷ []) 0 (stands 1024 running (buffers (pos 0 ∷ []) (pos 0 ∷ []) (pos 0 ∷ []))) 43
    ∷ refusal (pos 5 ∷ []) 0 (stands 1 running (buffers (pos 0 ∷ []) (negsuc 8192 ∷ []) (pos 8193 ∷ []))) 43
    ∷ unchanged one_bit 0 (stands 1 running (buffers (pos 4096 ∷ []) (negsuc 8191 ∷ []) (pos 12288 ∷ [])))
    -- a sum that isn't true, on either side; no room for it, before 42; and of a run that has ended, 42. What is past n may be anything
    ∷ refusal (pos 5 ∷ []) 0 (stands 1 running (buffers (pos 4096 ∷ []) (negsuc 8191 ∷ []) (pos 12287 ∷ []))) 43
    ∷ refusal (pos 5 ∷ []) 7 (stands 1 running (buffers (pos 4096 ∷ []) (negsuc 8191 ∷ []) (pos 12289 ∷ []))) 43
    ∷ refusal (pos 5 ∷ []) 0 (stands 1 certified (buffers (pos 4096 ∷ []) (negsuc 8191 ∷ []) [])) 41
    ∷ refusal (pos 5 ∷ []) 0 (stands 1 certified (buffers (pos 4096 ∷ []) (negsuc 8191 ∷ []) (pos 12289 ∷ []))) 42
    ∷ unchanged one_bit 0 (stands 1 running (buffers (pos 4096 ∷ []) (negsuc 8191 ∷ []) (pos 12288 ∷ pos 7 ∷ [])))
    -- the largest sum that 43 lets pass: 32 times U and 8,192 × 1,023
    ∷ unchanged (on_bit0 32) 0 (stands 1023 running (extreme (pos 268304384)))
    ∷ row (call_is (on_bit0 32) (pos 5 ∷ []) 0 (stands 1023 running (extreme (pos 268304385)))) (stays 43 (stands 1023 running (extreme (pos 268304385))))
    -- round 1,024 without a certificate: spent
    ∷ row (call_is one_bit (pos 0 ∷ []) 1024 (stands 1023 running (buffers (pos 0 ∷ []) (pos 0 ∷ []) (pos 0 ∷ []))))
    (leaving (yes (pos 2 ∷ [])) 1024
    (pos 0 ∷ []) (pos 4096 ∷ []) (negsuc 4095 ∷ []) (pos 8192 ∷ [])
    (4096 ∷ []) (1 ∷ []) (4096 ∷ []) (6 ∷ []) (replicate 15 5))
    ∷ []

-- ---- rounds that tell a plausible error from the rule
-- one bit in two checks of one member: −5 over two edges is −3
rounds : List Case
rounds =
    row (call_is (on_bit0 2) (negsuc 4 ∷ []) 1 (stands 0 running (blank (needs_by 1 2 2))))
    (leaving (yes (pos 0 ∷ [])) 1
    (negsuc 2 ∷ []) (pos 4096 ∷ pos 4096 ∷ []) (negsuc 4098 ∷ negsuc 4098 ∷ []) (pos 16390 ∷ [])
    (4099 ∷ 4099 ∷ []) (1 ∷ 1 ∷ []) (4099 ∷ 4099 ∷ []) (0 ∷ []) (replicate 24 0))
    -- checks 0 3, 0 1 and 0 1 2: round 5's candidate 1101 meets all checks with gap 2598, and 0000 is certified in round 15. The first check's values
    -- are beyond U in round 5, and its depth is that of the clipped ones
    ∷ row (call_is four_bits frame_d 5 (stands 0 running (blank (needs_by 4 3 7))))
    (leaving (yes (pos 0 ∷ [])) 5
    (negsuc 478 ∷ negsuc 584 ∷ pos 4096 ∷ negsuc 600 ∷ [])
    (negsuc 539 ∷ negsuc 539 ∷ negsuc 531 ∷ negsuc 531 ∷ negsuc 514 ∷ negsuc 548 ∷ pos 4060 ∷ [])
    (negsuc 8498 ∷ pos 8499 ∷ pos 1737 ∷ negsuc 1736 ∷ pos 1359 ∷ negsuc 1358 ∷ pos 1359 ∷ [])
    (pos 3816 ∷ pos 2015 ∷ pos 2701 ∷ negsuc 9038 ∷ [])
    (8499 ∷ 1737 ∷ 1359 ∷ []) (1 ∷ 2 ∷ 2 ∷ []) (8192 ∷ 3474 ∷ 2752 ∷ []) (replicate 4 0) (replicate 34 0))
    -- the third check has a cut of depth 1 in round 1 and none in round 2: nothing is left of it
    ∷ row (call_is four_bits frame_f 1 (stands 0 running (blank (needs_by 4 3 7))))
    (leaving (yes (pos 0 ∷ [])) 1
    (pos 0 ∷ negsuc 0 ∷ negsuc 4095 ∷ pos 5 ∷ [])
    (pos 3 ∷ pos 2 ∷ negsuc 0 ∷ pos 0 ∷ pos 1 ∷ pos 0 ∷ negsuc 4094 ∷ [])
    (negsuc 2 ∷ pos 3 ∷ pos 1 ∷ negsuc 0 ∷ negsuc 0 ∷ negsuc 0 ∷ negsuc 0 ∷ [])
    (pos 6 ∷ pos 2 ∷ negsuc 4093 ∷ negsuc 0 ∷ [])
    (3 ∷ 1 ∷ 1 ∷ []) (1 ∷ 2 ∷ 7 ∷ []) (5 ∷ 1 ∷ 1 ∷ []) (replicate 4 0) (replicate 34 0))
    ∷ row (call_is four_bits frame_f 2 (stands 0 running (blank (needs_by 4 3 7))))
    (leaving (yes (pos 0 ∷ [])) 2
    (pos 2 ∷ pos 0 ∷ negsuc 4095 ∷ pos 4 ∷ [])
    (pos 3 ∷ pos 3 ∷ pos 1 ∷ pos 1 ∷ pos 1 ∷ negsuc 0 ∷ negsuc 4095 ∷ [])
    (negsuc 3 ∷ pos 4 ∷ pos 2 ∷ negsuc 1 ∷ pos 0 ∷ pos 0 ∷ negsuc 0 ∷ [])
    (pos 7 ∷ pos 2 ∷ negsuc 4094 ∷ negsuc 0 ∷ [])
    (4 ∷ 2 ∷ 0 ∷ []) (1 ∷ 2 ∷ 0 ∷ []) (8 ∷ 4 ∷ 0 ∷ []) (replicate 4 0) (replicate 34 0))
    ∷ row (line_is four_bits frame_d) (line (certified_line 15 (pos 6400) 3))
    -- a weak frame that leans as 1101 does: the numbers of bits 0 and 1 are below their degrees 3 and 2
    ∷ row (line_is four_bits (negsuc 1 ∷ negsuc 0 ∷ pos 1 ∷ negsuc 0 ∷ [])) (line (certified_line 1 (pos 5) 0))
    ∷ []

-- ---- step 1's division: "A total of 1 over 3 edges is still 0, 2 over 3 is now 1, −3 over 2 is now −2"; halves at the largest degree
abbrev quotients : ℕ → List ℤ → List ℤ
quotients d [] = []
quotients d (t ∷ ts) = divided t d ∷ quotients d ts

over-1 : quotients 1 (pos 0 ∷ pos 7 ∷ negsuc 6 ∷ []) ≡ (pos 0 ∷ pos 7 ∷ negsuc 6 ∷ [])
unfolding divided
over-1 = refl

over-2 : quotients 2 (pos 1 ∷ pos 3 ∷ negsuc 0 ∷ negsuc 2 ∷ []) ≡ (pos 1 ∷ pos 2 ∷ negsuc 0 ∷ negsuc 1 ∷ [])
unfolding divided
over-2 = refl

over-3 : quotients 3 (pos 1 ∷ pos 2 ∷ pos 4 ∷ negsuc 0 ∷ negsuc 1 ∷ negsuc 3 ∷ []) ≡ (pos 0 ∷ pos 1 ∷ pos 1 ∷ pos 0 ∷ negsuc 0 ∷ negsuc 0 ∷ [])
unfolding divided
over-3 = refl

over-32 : quotients 32 (pos 15 ∷ pos 16 ∷ pos 47 ∷ pos 48 ∷ negsuc 14 ∷ negsuc 15 ∷ negsuc 46 ∷ negsuc 47 ∷ [])
    ≡ (pos 0 ∷ pos 1 ∷ pos 1 ∷ pos 2 ∷ pos 0 ∷ negsuc 0 ∷ negsuc 0 ∷ negsuc 1 ∷ [])
unfolding divided
over-32 = refl

-- ---- a list of calls, refused ones included, and its twin on the frame negated under 110
abbrev full : Lengths
full = needs_by 3 1 3

abbrev too_short : Lengths
too_short = needs_by 3 1 2

abbrev wants : ℕ → Lengths → Call
wants v n = record { wanted = v; lent = n }

calls_of : List Call
calls_of = wants 1025 full ∷ wants 1 full ∷ wants 5 too_short ∷ wants 0 full ∷ wants 7 full ∷ wants 1 full ∷ []

abbrev place : Reply → ℕ → ℕ → ℕ → List ℕ → Place
place a k b d w = record { reply = a; rounds = k; multipliers = b ∷ []; depths = d ∷ []; word = w }

lists : List Case
lists =
    row (list_is three_bits frame_a calls_of (dirty (pos 9) 8)) (places
    (place (no 17) 0 8 8 (8 ∷ 8 ∷ 8 ∷ [])
    ∷ place (yes (pos 0 ∷ [])) 1 1968 5904 (8 ∷ 8 ∷ 8 ∷ [])
    ∷ place (no 41) 1 1968 5904 (8 ∷ 8 ∷ 8 ∷ [])
    ∷ place (yes (pos 0 ∷ [])) 1 1968 5904 (8 ∷ 8 ∷ 8 ∷ [])
    ∷ place (yes (pos 1 ∷ [])) 3 3333 4794 (0 ∷ 0 ∷ 0 ∷ [])
    ∷ place (no 42) 3 3333 4794 (0 ∷ 0 ∷ 0 ∷ [])
    ∷ []))
    ∷ row (list_is three_bits (negsuc 3999 ∷ negsuc 3999 ∷ negsuc 1999 ∷ []) calls_of (dirty (negsuc 5) 4)) (places
    (place (no 17) 0 4 4 (4 ∷ 4 ∷ 4 ∷ [])
    ∷ place (yes (pos 0 ∷ [])) 1 1968 5904 (4 ∷ 4 ∷ 4 ∷ [])
    ∷ place (no 41) 1 1968 5904 (4 ∷ 4 ∷ 4 ∷ [])
    ∷ place (yes (pos 0 ∷ [])) 1 1968 5904 (4 ∷ 4 ∷ 4 ∷ [])
    ∷ place (yes (pos 1 ∷ [])) 3 3333 4794 (1 ∷ 1 ∷ 0 ∷ [])
    ∷ place (no 42) 3 3333 4794 (1 ∷ 1 ∷ 0 ∷ [])
    ∷ []))
    -- of 1 and 7 rounds wanted, none beyond round 3, which ends the run; a list that wants fewer does all it wants
    ∷ row (count_is three_bits frame_a calls_of (dirty (pos 9) 8)) (counts 3 8 3)
    ∷ row (count_is three_bits frame_a (wants 1 full ∷ wants 5 too_short ∷ wants 1 full ∷ []) (dirty (pos 9) 8)) (counts 2 2 3)
    ∷ []

-- ---- the three-frame report
report : List Case
report =
    row (line_is three_bits frame_a) (line (certified_line 3 (pos 6000) 1))
    ∷ row (line_is three_bits (pos 10 ∷ pos 10 ∷ pos 10 ∷ [])) (line (certified_line 1 (pos 30) 0))
    ∷ row (line_is three_bits (pos 0 ∷ pos 0 ∷ pos 0 ∷ [])) (line (spent_line 1024))
    ∷ []

-- "those a call counted before 44"; of other refusals none
counted-44 : (counted_by (refused 44) 7 2 ≡ 2) × (counted_by (refused 43) 7 2 ≡ 0) × (counted_by (gives running) 7 2 ≡ 7)
counted-44 = (refl, refl, refl)

pub cases : List Case
cases = files ++ cuts ++ certificates ++ empties ++ scales ++ marks ++ calls ++ rounds ++ lists ++ report

pub examples : asked cases ≡ said cases
unfolding cases four_bits emptied frame_d frame_e frame_f files cuts certificates empties scales marks calls rounds lists report
    regular on_bit0 calls_of three_bits one_bit frame_a answer_to must then reply_of u16_at u32_at agreement
    mask_right ones lib.Count.ones_in in_range contents counts_right starts_right total_count numbers_at bodies ascends members_right bits_right file_of code_file code_file_reply on_frame on_word
    on_point on_check cut violation cut_search cut_reply last_where multiplier step reduced bound gap total divided spin round certificate_of items_at follows on_item on_items on_certificate verdict
    sole judge judge_reply fits fits_start next iterate sums_of limited sound admits call_on call start lent_call frame_line clip_z
examples = refl
