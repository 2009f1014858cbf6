-- Questions to the definitions, and what each answers: the language of the tables of worked examples (Frames, Examples). Definitions only.
-- Assumes nothing.
use Rattle.std.specs.Prelude.{List, [], ◌∷◌, ℕ, replicate, ℤ, pos, neg_ℤ}
use Rattle.rules.specs.Limits.{unit, round_limit, offset_limit}
use Rattle.rules.specs.Refusal.{Answer, refused, gives, Reply, reply_of}
use Rattle.rules.specs.Table.{Table}
use Rattle.rules.specs.CodeFile.{code_file, code_file_reply}
use Rattle.rules.specs.Cut.{cut_reply}
use Rattle.rules.specs.Bound.{bound}
use Rattle.rules.specs.Certificate.{scale_of, items_of, rows_at}
use Rattle.rules.specs.Judge.{judge_reply}
use Rattle.rules.specs.Buffers.{Buffers, lent, needs, start_lent, blank}
use Rattle.rules.specs.Run.{Run, iterate, Called, call, status_values, start, progress_values}
use Rattle.rules.specs.Calls.{Call, call_list, started_run, run_after, counted_in}
use Rattle.rules.specs.Report.{Line, frame_line}

pub data Question : Type 0 where
  -- what the code file is
  file_is : List ℕ → Question
  -- the cut of a check at spins
  cut_is : List ℕ → List ℤ → ℕ → Question
  -- what the judge says
  judged : List ℕ → List ℤ → List ℕ → List ℕ → Question
  -- a start on copies and offsets
  start_is : List ℕ → List ℤ → List ℤ → List ℤ → Question
  -- one call for rounds on a run as it stands
  call_is : List ℕ → List ℤ → ℕ → Run → Question
  -- what a fresh run on blank buffers shows after a call for so many rounds
  shows : List ℕ → List ℤ → ℕ → Question
  -- the bound of the certificate that such a run has written
  bound_is : List ℕ → List ℤ → ℕ → Question
  -- the report's line of a frame
  line_is : List ℕ → List ℤ → Question
  -- answer, rounds, multipliers, depths and word at each place of a list of calls from a fresh start
  list_is : List ℕ → List ℤ → List Call → Buffers → Question
  -- the rounds done after such a list, those that its calls count, and the round that ends the run
  count_is : List ℕ → List ℤ → List Call → Buffers → Question

pub record Place : Type 0 where
  pub reply : Reply
  pub rounds : ℕ
  pub multipliers : List ℕ
  pub depths : List ℕ
  pub word : List ℕ

pub data Said : Type 0 where
  reply : Reply → Said
  shown : Reply → ℕ → Buffers → Said
  number : ℤ → Said
  line : Line → Said
  places : List Place → Said
  counts : ℕ → ℕ → ℕ → Said
  nothing : Said

-- ---- the buffers of examples, listed here alone
-- of one bit and one check, with these copies, offsets and sums; and of three bits and one check, with one number in those of either sign
abbrev pub buffers : List ℤ → List ℤ → List ℤ → Buffers
buffers z y x = lent (pos 9 ∷ []) z y x (8 ∷ []) (7 ∷ []) (4 ∷ []) (6 ∷ []) (replicate 15 5)

-- of one bit in 32 checks at the ends of 43's limits before round 1,024, with this sum
abbrev pub extreme : ℤ → Buffers
extreme x =
    lent (pos 9 ∷ []) (replicate 32 (pos unit)) (replicate 32 (neg_ℤ (pos offset_limit))) (x ∷ []) (replicate 32 8) (replicate 32 7) (replicate 32 4) (6 ∷ []) (replicate 324 5)

abbrev pub dirty : ℤ → ℕ → Buffers
dirty z n = lent (replicate 3 z) (replicate 4 z) (replicate 5 z) (replicate 6 z) (replicate 1 n) (replicate 1 n) (replicate 1 n) (replicate 3 n) (replicate 15 n)

-- what a call leaves: spins, copies, offsets and sums, multipliers, masks and depths, word and certificate
abbrev pub leaving : Reply → ℕ → List ℤ → List ℤ → List ℤ → List ℤ → List ℕ → List ℕ → List ℕ → List ℕ → List ℕ → Said
leaving a k s z y x b m d w c = shown a k (lent s z y x b m d w c)

-- ---- answers
abbrev shown_in : Called → Said
shown_in d = shown (reply_of status_values d.answer) d.run.progress.rounds d.run.buffers

abbrev places_in : List Called → List Place
places_in [] = []
places_in (d ∷ ds) =
    record {
      reply = reply_of status_values d.answer;
      rounds = d.run.progress.rounds;
      multipliers = d.run.buffers.multipliers;
      depths = d.run.buffers.depths;
      word = d.run.buffers.word;
    }
    ∷ places_in ds

-- with the table that a code file has
abbrev on_table : Answer Table → (Table → Said) → Said
on_table (refused k) f = nothing
on_table (gives t) f = f t

abbrev ran_fresh : List ℕ → List ℤ → ℕ → Table → Called
ran_fresh file l k t = call file l k (started_run file (blank (needs t)))

abbrev counts_of : Table → List ℤ → List Call → Run → List Called → Said
counts_of t l xs r ds = counts (run_after r ds).progress.rounds (counted_in 0 xs ds) (iterate t l round_limit r).progress.rounds

abbrev bound_of : Table → List ℤ → List ℕ → Said
bound_of t l bs = number (bound t.bits (scale_of bs) l (rows_at t (items_of bs)))

unfoldable pub answer_to : Question → Said
answer_to (file_is file) = reply (code_file_reply file)
answer_to (cut_is file s j) = reply (cut_reply file s j)
answer_to (judged file l w bs) = reply (judge_reply file l w bs)
answer_to (start_is file z y x) = reply (reply_of progress_values (start file (start_lent z y x)).answer)
answer_to (call_is file l k r) = shown_in (call file l k r)
answer_to (shows file l k) = on_table (code_file file) (λ t. shown_in (ran_fresh file l k t))
answer_to (bound_is file l k) = on_table (code_file file) (λ t. bound_of t l (ran_fresh file l k t).run.buffers.certificate)
answer_to (line_is file l) = line (frame_line file l)
answer_to (list_is file l xs b) = places (places_in (call_list file l xs (started_run file b)))
answer_to (count_is file l xs b) = on_table (code_file file) (λ t. counts_of t l xs (started_run file b) (call_list file l xs (started_run file b)))

pub record Case : Type 0 where
  pub ask : Question
  pub say : Said

abbrev pub asked : List Case → List Said
asked [] = []
asked (c ∷ cs) = answer_to c.ask ∷ asked cs

abbrev pub said : List Case → List Said
said [] = []
said (c ∷ cs) = c.say ∷ said cs
