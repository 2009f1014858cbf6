-- Demand 3 of document 00 for the code: about every list of calls of `start` and `rounds` of which their contracts, as they are proved, hold.
-- Assumes nothing.
use mathlib.Core.Path.{◌≡◌, refl, sym, ◌∙◌, ap, ap₂, subst}
use mathlib.Core.Bool.{Bool, cond}
use mathlib.Core.List.{List, [], ◌∷◌}
use Prim.Native.Nat.{ℕ, ◌≤◌}
use lib.IntN.{ℤ}
use contract.Lifetimes.{Lfts}
use denote.Triple.Clauses as Clauses
use borrow.Fn.World.{ArgsD, ResD}
use borrow.Fn.Kinds.{ended_of}
use Rattle.rules.specs.Refusal.{Answer, refused, gives, then, must, buffer_short}
use Rattle.rules.specs.Table.{Table}
use Rattle.rules.specs.Parity.{plus, turns, Codeword}
use Rattle.rules.specs.CodeFile.{code_file}
use Rattle.rules.specs.Buffers.{Buffers, lent, Lengths, lengths_of, part_of, over_all, zeroed, start_lent, fits_start}
use Rattle.rules.specs.Run.{Progress, Run, Called, call, Started, start_by, start, fresh}
use Rattle.rules.specs.Calls.{Call, lend, give_back, lent_call, call_list, start_on, started_run, wanted_in}
use Rattle.rules.specs.Demand3.{Best, FreshStart, AllLent, list_from, CertifiesOn, SamePlaces, RoundsDone, Demand3}
use Rattle.rules.proofs.AnswerLaws.{refused≢gives, gives-inj}
use Rattle.rules.proofs.Fresh.{started-back}
use Rattle.rules.proofs.Demand3.{demand3}
use Rattle.run.specs.Reply.{started_of}
use Rattle.decoder.specs.Reply.{outcome_of}
use Rattle.decoder.specs.Lent.{run_in}
use Rattle.run.specs.contracts.start as st
use Rattle.run.proofs.start.Kinds as st-kinds
use Rattle.run.proofs.start.Reads as st-reads
use Rattle.run.proofs.start.Statement.{statement as st-statement}
use Rattle.run.proofs.start.Met.{met as start-met}
use Rattle.decoder.specs.contracts.rounds as rd
use Rattle.decoder.proofs.rounds.Kinds as rd-kinds
use Rattle.decoder.proofs.rounds.Reads as rd-reads
use Rattle.decoder.proofs.rounds.Statement.{statement as rd-statement}
use Rattle.decoder.proofs.rounds.Met.{met as rounds-met}

-- ---- one call of each, of which its contract holds
pub record StartCall : Type 0 where
  pub lives : Lfts (st.signature).lifetimes
  pub args : ArgsD st.signature lives
  pub result : ResD st.signature lives
  pub exit : Clauses.AtExit (ended_of (st.signature).lifetimes st-kinds.ps st-kinds.r) lives
  pub holds : st-reads.Post lives args result exit

abbrev pub starts_file : StartCall → List ℕ
starts_file x = x.args.0.now

abbrev pub starts_lent : StartCall → Buffers
starts_lent x = start_lent x.args.1.0.now x.args.1.1.0.now x.args.1.1.1.0.now

abbrev pub start_gave : StartCall → Started
start_gave x = record { answer = started_of x.result; buffers = start_lent x.exit.1.0.now x.exit.1.1.0.now x.exit.1.1.1.0.now }

pub record RoundsCall : Type 0 where
  pub lives : Lfts (rd.signature).lifetimes
  pub args : ArgsD rd.signature lives
  pub result : ResD rd.signature lives
  pub exit : Clauses.AtExit (ended_of (rd.signature).lifetimes rd-kinds.ps rd-kinds.r) lives
  pub holds : rd-reads.Post lives args result exit

abbrev pub rounds_file : RoundsCall → List ℕ
rounds_file x = x.args.0.now

abbrev pub rounds_frame : RoundsCall → List ℤ
rounds_frame x = x.args.1.0.now

abbrev pub rounds_wanted : RoundsCall → ℕ
rounds_wanted x = x.args.1.1.1.0

abbrev pub rounds_run : RoundsCall → Run
rounds_run x =
    let b = x.args.1.1.1.1 in
    run_in x.args.1.1.0
    (lent b.0.now b.1.0.now b.1.1.0.now b.1.1.1.0.now b.1.1.1.1.0.now b.1.1.1.1.1.0.now b.1.1.1.1.1.1.0.now
    b.1.1.1.1.1.1.1.0.now b.1.1.1.1.1.1.1.1.0.now)

abbrev pub rounds_gave : RoundsCall → Called
rounds_gave x =
    let b = x.exit.1.1.1.1 in
    record {
      answer = outcome_of x.result.outcome;
      run = run_in x.result.run
          (lent b.0.now b.1.0.now b.1.1.0.now b.1.1.1.0.now b.1.1.1.1.0.now b.1.1.1.1.1.0.now b.1.1.1.1.1.1.0.now
          b.1.1.1.1.1.1.1.0.now b.1.1.1.1.1.1.1.1.0.now);
    }

-- what the contracts say, by document 01's definitions
pub start-says : (x : StartCall) → start_gave x ≡ start (starts_file x) (starts_lent x)
start-says x = x.holds

pub rounds-says : (x : RoundsCall) → rounds_gave x ≡ call (rounds_file x) (rounds_frame x) (rounds_wanted x) (rounds_run x)
rounds-says x = x.holds

-- ---- a list of calls in one run
-- o is the call x of a run that stands at r: it is lent parts of the buffers
pub record Makes (file : List ℕ) (l : List ℤ) (x : Call) (r : Run) (o : RoundsCall) : Type 0 where
  pub same_file : rounds_file o ≡ file
  pub same_frame : rounds_frame o ≡ l
  pub same_wanted : rounds_wanted o ≡ x.wanted
  pub same_run : rounds_run o ≡ lend x.lent r

-- what it comes to on the whole buffers
abbrev pub back_in : Run → RoundsCall → Called
back_in r o = give_back (rounds_gave o) r

-- record and buffers are handed on as each call left them
pub data Chain (file : List ℕ) (l : List ℤ) : List Call → Run → List Called → Type 0 where
  none : {r : Run} → Chain file l [] r []
  more : {calls : List Call} {r : Run} {ds : List Called} (x : Call) (o : RoundsCall)
      → Makes file l x r o → Chain file l calls (back_in r o).run ds → Chain file l (x ∷ calls) r (back_in r o ∷ ds)

pub chain-is : {file : List ℕ} {l : List ℤ} {calls : List Call} {r : Run} {ds : List Called} → Chain file l calls r ds → ds ≡ call_list file l calls r
unfolding lent_call
chain-is none = refl
chain-is {file} {l} (more {calls} {r} {ds} x o m h) =
    ap₂ ◌∷◌ one (chain-is h ∙ ap (λ d. call_list file l calls d.run) one)
  where
    one : back_in r o ≡ lent_call file l x r
    one = ap (λ d. give_back d r) (rounds-says o ∙ ap₂ (λ g k. call g k (rounds_wanted o) (rounds_run o)) m.same_file m.same_frame ∙ ap₂ (call file l) m.same_wanted m.same_run)

-- of the buffers that a start zeroes so much, of the others nothing
abbrev pub for_start : Lengths → Lengths
for_start n x = cond (zeroed x) (n x) 0

-- a start that is lent first parts of these buffers and is not refused, and calls from what it left; `ds` is what each call comes to
pub record CodeRun (file : List ℕ) (l : List ℤ) (calls : List Call) (b : Buffers) (ds : List Called) : Type 0 where
  pub first : StartCall
  pub lent_first : Lengths
  pub same_file : starts_file first ≡ file
  pub same_lent : starts_lent first ≡ part_of (for_start lent_first) b
  pub progress : Progress
  pub begun : (start_gave first).answer ≡ gives progress
  pub chain : Chain file l calls (record { progress = progress; buffers = over_all (start_gave first).buffers b }) ds
  pub lent : AllLent b calls

only-fresh : (b : Buffers) (a : Answer Table) (p : Progress) → (start_by b a).answer ≡ gives p → p ≡ fresh
only-fresh b (refused k) p e = absurd (refused≢gives e)
only-fresh b (gives t) p e = sym (gives-inj _ _ e)

module _ {file : List ℕ} {l : List ℤ} {calls : List Call} {b : Buffers} {ds : List Called} (h : CodeRun file l calls b ds) where
  started-is : start_gave h.first ≡ start_on file (for_start h.lent_first) b
  started-is = start-says h.first ∙ ap₂ start h.same_file h.same_lent

  begins-fresh : h.progress ≡ fresh
  unfolding start
  begins-fresh =
      let z = part_of (for_start h.lent_first) b in
      only-fresh z (then (code_file file) (λ t. must (fits_start t (lengths_of z)) buffer_short (gives t))) h.progress (ap (λ d. d.answer) (sym started-is) ∙ h.begun)

  module _ (t : Table) (is_file : code_file file ≡ gives t) where
    fresh_start : FreshStart file t b
    fresh_start = record { is_table = is_file; lent = for_start h.lent_first; started = ap (λ d. d.answer) (sym started-is) ∙ h.begun ∙ ap gives begins-fresh }

    run_is : ds ≡ list_from file l calls b
    unfolding fresh_start
    run_is = chain-is h.chain ∙ ap₂ (λ p d. call_list file l calls (record { progress = p; buffers = over_all d.buffers b })) begins-fresh started-is
        ∙ ap (λ x. call_list file l calls (record { progress = fresh; buffers = x })) (started-back file t b fresh_start)

-- ---- demand 3: the list on the frame comes to `da`, the same list on the negated frame to `db`
pub record CodeTwins (file : List ℕ) (t : Table) (l : List ℤ) (c : List Bool) (calls : List Call) (a b : Buffers) (da db : List Called) : Type 0 where
  pub is_file : code_file file ≡ gives t
  pub codeword : Codeword t c
  pub run : CodeRun file l calls a da
  pub twin : CodeRun file (turns c l) calls b db

-- every list on the frame certifies w after k rounds, with multipliers bs, once its calls not refused want together at least that many
abbrev pub CodeRunsCertify : List ℕ → Table → List ℤ → List Bool → ℕ → List ℕ → Type 0
CodeRunsCertify file t l w k bs = (calls : List Call) (b : Buffers) (ds : List Called) → CodeRun file l calls b ds → k ≤ wanted_in calls ds → CertifiesOn t w k bs ds

pub record CodeDemand3 (file : List ℕ) (t : Table) (l : List ℤ) (c : List Bool) (calls : List Call) (a : Buffers) (da db : List Called) : Type 0 where
  pub best : (w : List Bool) (k : ℕ) (bs : List ℕ) → CertifiesOn t w k bs da → Best t l w
  pub done : RoundsDone t l calls (started_run file a) da
  pub twin : SamePlaces t c da db
  pub others : (w : List Bool) (k : ℕ) (bs : List ℕ) → CertifiesOn t w k bs da → CodeRunsCertify file t (turns c l) (plus c w) k bs

-- of every table, frame, codeword and list
abbrev pub MeetsDemand3 : Type 0
MeetsDemand3 = (file : List ℕ) (t : Table) (l : List ℤ) (c : List Bool) (calls : List Call) (a b : Buffers) (da db : List Called)
    → CodeTwins file t l c calls a b da db → CodeDemand3 file t l c calls a da db

pub code-demand3 : MeetsDemand3
code-demand3 file t l c calls a b da db h = record {
  best = λ w k bs e. whole.best w k bs (subst (CertifiesOn t w k bs) run e);
  done = subst (RoundsDone t l calls (started_run file a)) (sym run) whole.done;
  twin = subst (λ x. SamePlaces t c x db) (sym run) (subst (SamePlaces t c (list_from file l calls a)) (sym (run_is h.twin t h.is_file)) whole.twin);
  others = λ w k bs e xs d ds hd g.
      let same = run_is hd t h.is_file in
      subst (CertifiesOn t (plus c w) k bs) (sym same)
      (whole.others w k bs (subst (CertifiesOn t w k bs) run e) d (fresh_start hd t h.is_file) xs hd.lent (subst (λ x. k ≤ wanted_in xs x) same g));
}
  where
    run : da ≡ list_from file l calls a
    run = run_is h.run t h.is_file

    whole : Demand3 file t l c calls a b
    whole = demand3 file t l c calls a b (fresh_start h.run t h.is_file) (fresh_start h.twin t h.is_file) h.codeword h.run.lent h.twin.lent

-- beside the proofs of the two functions: demand 3 and they cannot come apart
pub proved : {M : Type 1} → st-statement M × (rd-statement M × MeetsDemand3)
proved = (start-met, (rounds-met, code-demand3))
