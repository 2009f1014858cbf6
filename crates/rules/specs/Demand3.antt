-- Demand 3 of document 00, as one statement about whole lists of calls for rounds. The theorem is in proofs/Demand3. Definitions only. Assumes nothing.
use Rattle.std.specs.Prelude.{◌≡◌, Bool, true, List, [], ◌∷◌, ℕ, ◌≤◌, min, take, ℤ, pos, ◌*ℤ◌}
use Rattle.integers.specs.Linear.{◌⩽◌}
use Rattle.rules.specs.Limits.{round_limit}
use Rattle.rules.specs.Refusal.{gives}
use Rattle.rules.specs.Table.{Table, checks_of}
use Rattle.rules.specs.Parity.{plus, turns, Codeword, agreement, Point, point_agreement}
use Rattle.rules.specs.CodeFile.{code_file}
use Rattle.rules.specs.Buffers.{Buffers, Lengths, lengths_of, fits, bytes_of}
use Rattle.rules.specs.Run.{running, certified, Run, iterate, Called, fresh}
use Rattle.rules.specs.Calls.{Call, call_list, start_on, started_run, wanted_in, run_after, counted_in, Certifies}

-- "no codeword and no point of the parity relaxation agrees with the frame better than w"
pub record Best (t : Table) (l : List ℤ) (w : List Bool) : Type 0 where
  pub is_codeword : Codeword t w
  pub over_codewords : (c : List Bool) → Codeword t c → agreement t.bits l c ⩽ agreement t.bits l w
  pub over_points : (d : ℕ) (p : List ℤ) → Point t d p → point_agreement t.bits l p ⩽ pos d *ℤ agreement t.bits l w

-- "made from a fresh start": the file is the table's, and a start that is lent first parts of these buffers, whatever they hold, is not refused. What
-- it leaves is what it would leave if it were lent the whole (proofs/Fresh).
pub record FreshStart (file : List ℕ) (t : Table) (b : Buffers) : Type 0 where
  pub is_table : code_file file ≡ gives t
  pub lent : Lengths
  pub started : (start_on file lent b).answer ≡ gives fresh

-- each call is lent parts of these buffers, long enough or too short
abbrev pub AllLent : Buffers → List Call → Type 0
AllLent b [] = Unit {0}
AllLent b (x ∷ xs) = (fits x.lent (lengths_of b) ≡ true) × AllLent b xs

-- what a list of calls, from a fresh start on these buffers, comes to
abbrev pub list_from : List ℕ → List ℤ → List Call → Buffers → List Called
list_from file l xs b = call_list file l xs (started_run file b)

-- the list certifies w after k rounds, with multipliers bs
abbrev pub CertifiesOn : Table → List Bool → ℕ → List ℕ → List Called → Type 0
CertifiesOn t w k bs ds = Certifies t.bits (checks_of t) w k bs ds

-- "the same answer, the same rounds done and the same multipliers" (compared once a round is done, and the depths with them), "and where the first
-- certifies w it certifies w plus c modulo 2"
pub record SamePlace (t : Table) (c : List Bool) (x y : Called) : Type 0 where
  pub answer : y.answer ≡ x.answer
  pub rounds : y.run.progress.rounds ≡ x.run.progress.rounds
  pub multipliers : 1 ≤ x.run.progress.rounds → take (checks_of t) y.run.buffers.multipliers ≡ take (checks_of t) x.run.buffers.multipliers
  pub depths : 1 ≤ x.run.progress.rounds → take (checks_of t) y.run.buffers.depths ≡ take (checks_of t) x.run.buffers.depths
  pub word : (w : List Bool) → x.answer ≡ gives certified → take t.bits x.run.buffers.word ≡ bytes_of w → take t.bits y.run.buffers.word ≡ bytes_of (plus c w)

-- "at each place"
abbrev pub SamePlaces : Table → List Bool → List Called → List Called → Type 0
SamePlaces t c [] [] = Unit {0}
SamePlaces t c [] (y ∷ ys) = ⊥
SamePlaces t c (x ∷ xs) [] = ⊥
SamePlaces t c (x ∷ xs) (y ∷ ys) = SamePlace t c x y × SamePlaces t c xs ys

-- "The rounds done after a list are those wanted by its calls not refused, and those a call counted before 44, added up, but none beyond the round
-- that ends the run". That round: the run, let do 1,024, has ended, and has done so many.
pub record RoundsDone (t : Table) (l : List ℤ) (calls : List Call) (r : Run) (ds : List Called) : Type 0 where
  pub ends : (iterate t l round_limit r).progress.status ≡ running → ⊥
  pub rounds : (run_after r ds).progress.rounds ≡ min (counted_in 0 calls ds) (iterate t l round_limit r).progress.rounds

-- "every other list from a fresh start" on this frame certifies w, after k rounds and with multipliers bs, "once its calls not refused want together
-- at least that many"
abbrev pub AllCertify : List ℕ → Table → List ℤ → List Bool → ℕ → List ℕ → Type 0
AllCertify file t l w k bs =
    (b : Buffers) → FreshStart file t b → (xs : List Call) → AllLent b xs
    → k ≤ wanted_in xs (list_from file l xs b) → CertifiesOn t w k bs (list_from file l xs b)

-- "For every table, frame and codeword c of that table, and for every list of calls for rounds, refused ones included, made from a fresh start":
-- the list runs on the buffers a, "the same list from a fresh start of its own, on the frame with its numbers negated under the ones of c" on b
pub record Demand3 (file : List ℕ) (t : Table) (l : List ℤ) (c : List Bool) (calls : List Call) (a b : Buffers) : Type 0 where
  -- "if the list certifies a word w, no codeword and no point of the parity relaxation agrees with the frame better than w"
  pub best : (w : List Bool) (k : ℕ) (bs : List ℕ) → CertifiesOn t w k bs (list_from file l calls a) → Best t l w
  -- document 01's "rounds done after a list", whatever it comes to
  pub done : RoundsDone t l calls (started_run file a) (list_from file l calls a)
  -- "And whatever the list comes to, the same list [..] has at each place the same answer, the same rounds done and the same multipliers, and where
  -- the first certifies w it certifies w plus c modulo 2"
  pub twin : SamePlaces t c (list_from file l calls a) (list_from file (turns c l) calls b)
  -- "Then every other list from a fresh start on the negated frame certifies that word too, after exactly as many rounds as w took and with the same
  -- multipliers, once its calls not refused want together at least that many"
  pub others : (w : List Bool) (k : ℕ) (bs : List ℕ) → CertifiesOn t w k bs (list_from file l calls a) → AllCertify file t (turns c l) (plus c w) k bs
