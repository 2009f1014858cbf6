-- The code's refusals as document 01's numbers, and the code's answers as document 01's answers: a refusal by its number, or what was found.
-- Definitions only. Assumes nothing.
use Rattle.std.specs.Prelude.{ℕ, Result, Ok, Err}
use Rattle.rules.specs.Refusal as rule
use Rattle.rules.specs.Refusal.{Answer, refused, gives}
use Rattle.limits.specs.declared.refusals.Refusal.{Refusal}
use Rattle.limits.specs.declared.refusals.Refusal.TheVariants as the

abbrev pub number_of : Refusal → ℕ
number_of the.HeaderShort = rule.header_short
number_of the.SizeRange = rule.size_range
number_of the.CountRange = rule.count_range
number_of the.StartWrong = rule.start_wrong
number_of the.LengthWrong = rule.length_wrong
number_of the.MemberWrong = rule.member_wrong
number_of the.BitDegree = rule.bit_degree
number_of the.FrameLength = rule.frame_length
number_of the.FrameRange = rule.frame_range
number_of the.CertificateWrong = rule.certificate_wrong
number_of the.ScaleRange = rule.scale_range
number_of the.EntryRange = rule.entry_range
number_of the.MaskWrong = rule.mask_wrong
number_of the.EntryOrder = rule.entry_order
number_of the.WordWrong = rule.word_wrong
number_of the.PointWrong = rule.point_wrong
number_of the.AskedTooMuch = rule.asked_too_much
number_of the.BufferShort = rule.buffer_short
number_of the.RunEnded = rule.run_ended
number_of the.RunDamaged = rule.run_damaged

-- a test's answer as a number: 0 where it passes
abbrev pub refusal_of : Result Unit Refusal → ℕ
refusal_of (Ok u) = 0
refusal_of (Err k) = number_of k

-- an answer, with f for what was found
abbrev pub answer_by : {A B : Type 0} → (A → B) → Result A Refusal → Answer B
answer_by f (Ok a) = gives (f a)
answer_by f (Err k) = refused (number_of k)
