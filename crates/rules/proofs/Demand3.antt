-- Demand 3, proved: the statement is in specs/Demand3. Assumes nothing.
use mathlib.Core.Path.{◌≡◌, refl, sym, ◌∙◌, ap, subst}
use mathlib.Core.Bool.{Bool}
use mathlib.Core.List.{List, [], ◌∷◌}
use Prim.Native.Nat.{ℕ, ◌≤◌}
use lib.IntN.{ℤ}
use Rattle.rules.specs.Table.{Table}
use Rattle.rules.specs.Parity.{plus, turns, Codeword}
use Rattle.rules.specs.Input.{bits_of}
use Rattle.rules.specs.Buffers.{Buffers, bytes_of}
use Rattle.rules.specs.Run.{Run, state_in, iterate}
use Rattle.rules.specs.Calls.{Call, started_run, wanted_in}
use Rattle.rules.specs.Demand3.{Best, FreshStart, AllLent, list_from, CertifiesOn, SamePlace, SamePlaces, RoundsDone, Demand3}
use Rattle.rules.proofs.Tables.{file-sound}
use Rattle.rules.proofs.Optimal.{round-best}
use Rattle.rules.proofs.WrittenPasses.{bits-bytes, bytes-length}
use Rattle.rules.proofs.RoundSizes.{round-sized}
use Rattle.rules.proofs.Runs.{Ends, iterate-ends}
use Rattle.rules.proofs.Lends.{call_for, calls_on, lent-list}
use Rattle.rules.proofs.Twins.{Worded, Twin, iterate-twin, Alike, call-twin}
use Rattle.rules.proofs.Lists.{says-status, Stands, found, found-ends, catch-first}
use Rattle.rules.proofs.CallPasses.{ended-made, ended-word}
use Rattle.rules.proofs.Fresh.{started-twin, all-part}
use Rattle.rules.proofs.Counted.{list-rounds}

-- ---- a list in the words of the theory
on-table : (file : List ℕ) (t : Table) (l : List ℤ) (xs : List Call) (b : Buffers) → FreshStart file t b → AllLent b xs → list_from file l xs b ≡ calls_on t l xs (started_run file b)
on-table file t l xs b f h = lent-list file t l xs (started_run file b) f.is_table (all-part file t b xs f h)

-- ---- bytes tell the word
bytes-inj : (v w : List Bool) → bytes_of v ≡ bytes_of w → v ≡ w
bytes-inj v w e = sym (bits-bytes v) ∙ ap bits_of e ∙ bits-bytes w

-- ---- the end, turned
stands-turn : (t : Table) (c : List Bool) (w : List Bool) (k : ℕ) (bs : List ℕ) (r q : Run) → 1 ≤ k → Twin t c r q → Stands t w k bs r → Stands t (plus c w) k bs q
stands-turn t c w k bs r q h z s = record {
  marked = ap (λ p. p.status) z.progress ∙ s.marked;
  writes = worded.there ∙ ap (λ v. bytes_of (plus c v)) (bytes-inj worded.word w (sym worded.here ∙ s.writes));
  took = ap (λ p. p.rounds) z.progress ∙ s.took;
  leaves = z.multipliers (subst (λ n. 1 ≤ n) (sym s.took) h) ∙ s.leaves;
}
  where
    worded : Worded t.bits c r.buffers.word q.buffers.word
    worded = z.words s.marked

-- ---- the same list, place by place
places-twin : (t : Table) (c : List Bool) (l : List ℤ) (xs : List Call) (r q : Run) → Codeword t c → Twin t c r q → SamePlaces t c (calls_on t l xs r) (calls_on t (turns c l) xs q)
places-twin t c l [] r q k h = tt
places-twin t c l (x ∷ xs) r q k h = (place, places-twin t c l xs (call_for t l x r).run (call_for t (turns c l) x q).run k s.run)
  where
    s : Alike t c (call_for t l x r) (call_for t (turns c l) x q)
    s = call-twin t c l x.wanted x.lent r q k h

    place : SamePlace t c (call_for t l x r) (call_for t (turns c l) x q)
    place = record {
      answer = s.answer;
      rounds = ap (λ p. p.rounds) s.run.progress;
      multipliers = s.run.multipliers;
      depths = s.run.depths;
      word = λ w e p. let z = s.run.words (says-status t l x r e) in z.there ∙ ap (λ v. bytes_of (plus c v)) (bytes-inj z.word w (sym z.here ∙ p));
    }

-- ---- demand 3
-- for every code file, frame l, word c and list of calls, on buffers a, and b for its twin
module _ (file : List ℕ) (t : Table) (l : List ℤ) (c : List Bool) (calls : List Call) (a b : Buffers) where
  pub demand3 : FreshStart file t a → FreshStart file t b → Codeword t c → AllLent a calls → AllLent b calls → Demand3 file t l c calls a b
  unfolding iterate
  demand3 fa fb cw ha hb = record {
    best = λ w k bs h. let p = proved w k bs h in
        subst (Best t l) (bytes-inj p.word w (sym (ended-word t l _ p) ∙ (ends w k bs h).writes))
        (round-best t l (state_in t p.last.buffers) p.word (file-sound file t fa.is_table).below
        (sym (bytes-length p.word) ∙ (round-sized t l (state_in t p.last.buffers)).word p.word p.by) p.by);
    done = subst (RoundsDone t l calls (started_run file a)) (sym (on-table file t l calls a fa ha)) (list-rounds file t l a fa calls);
    twin = subst (λ ds. SamePlaces t c ds (list_from file (turns c l) calls b)) (sym (on-table file t l calls a fa ha))
        (subst (SamePlaces t c (calls_on t l calls (started_run file a))) (sym (on-table file t (turns c l) calls b fb hb))
        (places-twin t c l calls (started_run file a) (started_run file b) cw (started-twin file t c a b fa fb)));
    others = λ w k bs h d fd xs hd g.
        let made = subst (λ n. 1 ≤ n) (ends w k bs h).took (ended-made t l _ (proved w k bs h)) in
        subst (CertifiesOn t (plus c w) k bs) (sym (on-table file t (turns c l) xs d fd hd))
        (catch-first t (turns c l) (started_run file d) refl (plus c w) k bs (stands-turn t c w k bs (iterate t l k (started_run file a)) (iterate t (turns c l) k (started_run file d)) made
        (iterate-twin t c l cw k (started_run file a) (started_run file d) (started-twin file t c a d fa fd)) (ends w k bs h))
        xs made (subst (λ ds. k ≤ wanted_in xs ds) (on-table file t (turns c l) xs d fd hd) g));
  }
    where
      ends : (w : List Bool) (k : ℕ) (bs : List ℕ) → CertifiesOn t w k bs (list_from file l calls a) → Stands t w k bs (iterate t l k (started_run file a))
      ends w k bs h = found-ends t l (started_run file a) w k bs refl (found t l (started_run file a) w k bs 0 calls (subst (CertifiesOn t w k bs) (on-table file t l calls a fa ha) h))

      proved : (w : List Bool) (k : ℕ) (bs : List ℕ) → CertifiesOn t w k bs (list_from file l calls a) → Ends t l (iterate t l k (started_run file a))
      proved w k bs h = iterate-ends t l k (started_run file a) refl (ends w k bs h).marked
