-- An answer, or a refusal by its number (document 01, "Turned down because of what was handed in" and "because of how the run stands").
-- Definitions only. Assumes nothing.
use Rattle.std.specs.Prelude.{Bool, true, false, List, [], ℤ, ℕ}

pub data Answer (A : Type 0) : Type 0 where
  refused : ℕ → Answer A
  gives : A → Answer A

-- A test that must hold, the number where it does not, and what follows where it does: the order of refusals is the order of the tests.
unfoldable pub must : {A : Type 0} → Bool → ℕ → Answer A → Answer A
must true k a = a
must false k a = refused k

-- what follows an answer; a refusal is handed on
unfoldable pub then : {A B : Type 0} → Answer A → (A → Answer B) → Answer B
then (refused k) f = refused k
then (gives a) f = f a

-- ---- because of what was handed in
abbrev pub header_short : ℕ
header_short = 1

abbrev pub size_range : ℕ
size_range = 2

abbrev pub count_range : ℕ
count_range = 3

abbrev pub start_wrong : ℕ
start_wrong = 4

abbrev pub length_wrong : ℕ
length_wrong = 5

abbrev pub member_wrong : ℕ
member_wrong = 6

abbrev pub bit_degree : ℕ
bit_degree = 7

abbrev pub frame_length : ℕ
frame_length = 8

abbrev pub frame_range : ℕ
frame_range = 9

abbrev pub certificate_wrong : ℕ
certificate_wrong = 10

abbrev pub scale_range : ℕ
scale_range = 11

abbrev pub entry_range : ℕ
entry_range = 12

abbrev pub mask_wrong : ℕ
mask_wrong = 13

abbrev pub entry_order : ℕ
entry_order = 14

abbrev pub word_wrong : ℕ
word_wrong = 15

abbrev pub point_wrong : ℕ
point_wrong = 16

-- a check number not below m, or rounds wanted above 1,024
abbrev pub asked_too_much : ℕ
asked_too_much = 17

-- ---- because of how the run stands
abbrev pub buffer_short : ℕ
buffer_short = 41

abbrev pub run_ended : ℕ
run_ended = 42

abbrev pub run_damaged : ℕ
run_damaged = 43

abbrev pub multiplier_large : ℕ
multiplier_large = 44

-- ---- the number and the values of an answer: number 0 and what the call answers, or the refusal's number and no value
pub record Reply : Type 0 where
  pub number : ℕ
  pub values : List ℤ

unfoldable pub reply_of : {A : Type 0} → (A → List ℤ) → Answer A → Reply
reply_of f (refused k) = record { number = k; values = [] }
reply_of f (gives a) = record { number = 0; values = f a }
