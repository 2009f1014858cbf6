-- A list of calls leaves what one run of the rounds that its calls took would leave; where it certifies, that run is certified, by exactly the rounds
-- that it counts. Assumes nothing.
use mathlib.Core.Path.{◌≡◌, refl, sym, ◌∙◌, ap, ap₂, subst}
use mathlib.Core.Bool.{Bool, true, false, cond}
use mathlib.Core.Logic.{◌⊎◌, inl, inr}
use mathlib.Core.List.{List, [], ◌∷◌}
use Prim.Native.Nat.{ℕ, zero, suc, ◌+◌, ◌-◌, ◌≤◌, ◌<◌}
use native.Mathlib.Omega.{arith}
use native.Mathlib.Nat.{add-zero, add_assoc, le_step, suc-le-suc_iff, le_of_lt, lt_of_not-le, add-sub_of_le}
use native.Mathlib.Decide.{dec_le}
use lib.Dec.{eqb}
use borrow.Author.Tests.{eq-eqb}
use lib.ListN.{take}
use lib.IntN.{ℤ}
use Rattle.rules.specs.Refusal.{Answer, refused, gives, multiplier_large}
use Rattle.rules.specs.Table.{Table, checks_of}
use Rattle.rules.specs.Buffers.{bytes_of}
use Rattle.rules.specs.Run.{Status, running, certified, spent, Run, next, iterate, admits, answer_at, Called, perform, call_on}
use Rattle.rules.specs.Calls.{Call, wanted_by, wanted_in, here, later}
use Rattle.rules.specs.Demand3.{CertifiesOn}
use Rattle.rules.proofs.AnswerLaws.{refused≢gives, gives-inj}
use Rattle.rules.proofs.Lends.{call_for, calls_on}
use Rattle.rules.proofs.Runs.{Moves, next-cases, ended-stays, iterate-stays, iterate-plus, running≢certified, spent≢running}

-- one round more, counted at either end
pub count_next : (a b n s : ℕ) → a ≡ b + s → b ≡ suc n → a ≡ n + suc s
count_next a b n s e f = omega arith

-- ---- the rounds counted say where in the iteration the run stands
pub record Reach (t : Table) (l : List ℤ) (j : ℕ) (r : Run) : Type 0 where
  pub steps : ℕ
  pub within : steps ≤ j
  pub same : iterate t l steps r ≡ iterate t l j r
  pub counted : (iterate t l j r).progress.rounds ≡ r.progress.rounds + steps

pub reach : (t : Table) (l : List ℤ) (j : ℕ) (r : Run) → Reach t l j r
unfolding iterate
reach t l zero r = record { steps = 0; within = omega arith; same = refl; counted = omega arith }
reach t l (suc j) r = go (next-cases t l r) (reach t l j r) (reach t l j (next t l r))
  where
    go : (next t l r ≡ r) ⊎ Moves t l r → Reach t l j r → Reach t l j (next t l r) → Reach t l (suc j) r
    go (inl e) p q = record { steps = p.steps; within = le_step p.within; same = p.same ∙ ap (iterate t l j) (sym e); counted = ap (λ x. (iterate t l j x).progress.rounds) e ∙ p.counted }
    go (inr m) p q = record {
      steps = suc q.steps;
      within = suc-le-suc_iff.1 q.within;
      same = q.same;
      counted = count_next (iterate t l j (next t l r)).progress.rounds (next t l r).progress.rounds r.progress.rounds q.steps q.counted (ap (λ x. x.progress.rounds) m.is);
    }

-- ---- calls
-- the rounds that a call may take
abbrev pub takes : Answer (Unit {0}) → ℕ → ℕ
takes (refused k) v = 0
takes (gives u) v = v

abbrev pub admits_for : Table → List ℤ → Call → Run → Answer (Unit {0})
admits_for t l x r = admits t l x.wanted x.lent r

-- a call extends the iteration by what it takes
pub call-extends : (t : Table) (l : List ℤ) (r : Run) (i : ℕ) (x : Call) → (call_for t l x (iterate t l i r)).run ≡ iterate t l (i + takes (admits_for t l x (iterate t l i r)) x.wanted) r
unfolding call_on
call-extends t l r i x = go (admits_for t l x (iterate t l i r))
  where
    go : (a : Answer (Unit {0})) → (perform t l x.wanted (iterate t l i r) a).run ≡ iterate t l (i + takes a x.wanted) r
    go (refused k) = ap (λ n. iterate t l n r) (sym (add-zero i))
    go (gives u) = sym (iterate-plus t l i x.wanted r)

-- and so does a list
abbrev pub after : Table → List ℤ → List Call → Run → Run
after t l [] r = r
after t l (x ∷ xs) r = after t l xs (call_for t l x r).run

abbrev pub taken : Table → List ℤ → List Call → Run → ℕ
taken t l [] r = 0
taken t l (x ∷ xs) r = takes (admits_for t l x r) x.wanted + taken t l xs (call_for t l x r).run

pub list-after : (t : Table) (l : List ℤ) (r : Run) (i : ℕ) (xs : List Call) → after t l xs (iterate t l i r) ≡ iterate t l (i + taken t l xs (iterate t l i r)) r
list-after t l r i [] = ap (λ n. iterate t l n r) (sym (add-zero i))
list-after t l r i (x ∷ xs) = ap (after t l xs) (call-extends t l r i x) ∙ list-after t l r (i + a) xs
    ∙ ap (λ n. iterate t l n r) (ap (λ z. i + a + taken t l xs z) (sym (call-extends t l r i x)) ∙ add_assoc i a (taken t l xs (call_for t l x (iterate t l i r)).run))
  where
    a : ℕ
    a = takes (admits_for t l x (iterate t l i r)) x.wanted

-- ---- where a list certifies, the iteration is certified
pub answer-certified : (s : Status) (a b : ℕ) → answer_at s a b ≡ gives certified → s ≡ certified
answer-certified running a b e = absurd (go (eqb a b) e)
  where
    go : (t : Bool) → cond t (gives running) (refused multiplier_large) ≡ gives certified → ⊥
    go true e = running≢certified (gives-inj running certified e)
    go false e = refused≢gives e
answer-certified certified a b e = refl
answer-certified spent a b e = gives-inj spent certified e

pub says-status : (t : Table) (l : List ℤ) (x : Call) (r : Run) → (call_for t l x r).answer ≡ gives certified → (call_for t l x r).run.progress.status ≡ certified
unfolding call_on
says-status t l x r = go (admits_for t l x r)
  where
    go : (a : Answer (Unit {0})) → (perform t l x.wanted r a).answer ≡ gives certified → (perform t l x.wanted r a).run.progress.status ≡ certified
    go (refused k) p = absurd (refused≢gives p)
    go (gives u) p = answer-certified (iterate t l x.wanted r).progress.status (iterate t l x.wanted r).progress.rounds (r.progress.rounds + x.wanted) p

-- after i rounds the run is certified with w, k rounds and multipliers bs
pub record Stands (t : Table) (w : List Bool) (k : ℕ) (bs : List ℕ) (r : Run) : Type 0 where
  pub marked : r.progress.status ≡ certified
  pub writes : take t.bits r.buffers.word ≡ bytes_of w
  pub took : r.progress.rounds ≡ k
  pub leaves : take (checks_of t) r.buffers.multipliers ≡ bs

pub record Found (t : Table) (l : List ℤ) (r : Run) (w : List Bool) (k : ℕ) (bs : List ℕ) : Type 0 where
  pub place : ℕ
  pub stands : Stands t w k bs (iterate t l place r)

pub found : (t : Table) (l : List ℤ) (r : Run) (w : List Bool) (k : ℕ) (bs : List ℕ) (i : ℕ) (xs : List Call)
    → CertifiesOn t w k bs (calls_on t l xs (iterate t l i r)) → Found t l r w k bs
found t l r w k bs i [] x = elim x [ ]
found t l r w k bs i (x ∷ xs) (here s) = record {
  place = i + takes (admits_for t l x (iterate t l i r)) x.wanted;
  stands = subst (Stands t w k bs) (call-extends t l r i x) (record { marked = says-status t l x (iterate t l i r) s.answers; writes = s.writes; took = s.took; leaves = s.leaves });
}
found t l r w k bs i (x ∷ xs) (later h) =
    found t l r w k bs (i + takes (admits_for t l x (iterate t l i r)) x.wanted) xs (subst (λ z. CertifiesOn t w k bs (calls_on t l xs z)) (call-extends t l r i x) h)

-- from no rounds done, it is certified after exactly the rounds counted
pub found-ends : (t : Table) (l : List ℤ) (r : Run) (w : List Bool) (k : ℕ) (bs : List ℕ) → r.progress.rounds ≡ 0 → Found t l r w k bs → Stands t w k bs (iterate t l k r)
found-ends t l r w k bs z f = subst (Stands t w k bs) (sym exact) f.stands
  where
    p : Reach t l f.place r
    p = reach t l f.place r

    is-k : (x y s : ℕ) → x ≡ k → y ≡ 0 → x ≡ y + s → k ≡ s
    is-k x y s e h g = omega arith

    exact : iterate t l k r ≡ iterate t l f.place r
    exact = ap (λ n. iterate t l n r) (is-k (iterate t l f.place r).progress.rounds r.progress.rounds p.steps f.stands.took z p.counted) ∙ p.same

-- ---- any list whose wants suffice meets that end
module _ (t : Table) (l : List ℤ) (r : Run) (fresh : r.progress.rounds ≡ 0) (w : List Bool) (m : ℕ) (bs : List ℕ) (ends : Stands t w m bs (iterate t l m r)) where
  split : (k : ℕ) → k ≤ m → iterate t l (m - k) (iterate t l k r) ≡ iterate t l m r
  split k h = sym (iterate-plus t l k (m - k) r) ∙ ap (λ n. iterate t l n r) (add-sub_of_le h)

  -- before the end the run has counted every round, and is running
  early-rounds : (k : ℕ) → k < m → (iterate t l k r).progress.rounds ≡ k
  early-rounds k h = between (iterate t l k r).progress.rounds r.progress.rounds q.steps p.steps h q.within fresh q.counted
      (sym ends.took ∙ ap (λ z. z.progress.rounds) (sym (split k (le_of_lt h))) ∙ p.counted) p.within
    where
      q : Reach t l k r
      q = reach t l k r

      p : Reach t l (m - k) (iterate t l k r)
      p = reach t l (m - k) (iterate t l k r)

      between : (x y s u : ℕ) → k < m → s ≤ k → y ≡ 0 → x ≡ y + s → m ≡ x + u → u ≤ m - k → x ≡ k
      between x y s u h c z e f g = omega arith

  early-running : (k : ℕ) → k < m → (iterate t l k r).progress.status ≡ running
  early-running k h = go (iterate t l k r).progress.status refl
    where
      clash : (x : ℕ) → k < m → x ≡ k → x ≡ m → ⊥
      clash x h e f = omega arith

      stuck : ((iterate t l k r).progress.status ≡ running → ⊥) → ⊥
      stuck f = clash (iterate t l k r).progress.rounds h (early-rounds k h)
          (ap (λ z. z.progress.rounds) (sym (iterate-stays t l (m - k) (iterate t l k r) (ended-stays t l (iterate t l k r) f)) ∙ split k (le_of_lt h)) ∙ ends.took)

      go : (s : Status) → (iterate t l k r).progress.status ≡ s → (iterate t l k r).progress.status ≡ running
      go running e = e
      go certified e = absurd (stuck (λ f. running≢certified (sym f ∙ e)))
      go spent e = absurd (stuck (λ f. spent≢running (sym e ∙ f)))

  -- from the end on it stays
  late : (k : ℕ) → m ≤ k → iterate t l k r ≡ iterate t l m r
  late k h = ap (λ n. iterate t l n r) (sym (add-sub_of_le h)) ∙ iterate-plus t l m (k - m) r
      ∙ iterate-stays t l (k - m) (iterate t l m r) (ended-stays t l (iterate t l m r) (λ e. running≢certified (sym e ∙ ends.marked)))

  -- what calls made after k rounds come to
  abbrev made_at : ℕ → List Call → List Called
  made_at k xs = calls_on t l xs (iterate t l k r)

  -- it certifies, if they want enough
  abbrev Caught : ℕ → List Call → List Called → Type 0
  Caught k xs ds = m ≤ k + wanted_in xs ds → CertifiesOn t w m bs ds

  catch : (xs : List Call) (k : ℕ) → k < m → Caught k xs (made_at k xs)
  unfolding call_on
  catch [] k h g = absurd (over k h g)
    where
      over : (k : ℕ) → k < m → m ≤ k + 0 → ⊥
      over k h g = omega arith
  catch (x ∷ xs) k h g = go (admits_for t l x q) (catch xs k h) (catch xs (k + v)) g
    where
      q : Run
      q = iterate t l k r

      v : ℕ
      v = x.wanted

      q' : Run
      q' = iterate t l v q

      to : q' ≡ iterate t l (k + v) r
      to = sym (iterate-plus t l k v r)

      no_more : (k n : ℕ) → m ≤ k + (0 + n) → m ≤ k + n
      no_more k n g = omega arith

      onward : (k v n : ℕ) → m ≤ k + (v + n) → m ≤ k + v + n
      onward k v n g = omega arith

      go : (a : Answer (Unit {0})) → Caught k xs (made_at k xs) → (k + v < m → Caught (k + v) xs (made_at (k + v) xs))
          → Caught k (x ∷ xs) (perform t l v q a ∷ calls_on t l xs (perform t l v q a).run)
      go (refused e) again further g = later (again (no_more k (wanted_in xs (made_at k xs)) g))
      go (gives u) again further g = by_size (dec_le m (k + v))
        where
          by_size : Dec (m ≤ k + v) → CertifiesOn t w m bs (perform t l v q (gives u) ∷ calls_on t l xs q')
          by_size (yes p) = here (record {
            answers = ap (λ s. answer_at s q'.progress.rounds (q.progress.rounds + v)) (ap (λ z. z.progress.status) there ∙ ends.marked);
            writes = ap (λ z. take t.bits z.buffers.word) there ∙ ends.writes;
            took = ap (λ z. z.progress.rounds) there ∙ ends.took;
            leaves = ap (λ z. take (checks_of t) z.buffers.multipliers) there ∙ ends.leaves;
          })
            where
              there : q' ≡ iterate t l m r
              there = to ∙ late (k + v) p
          by_size (no f) = later (subst (λ z. CertifiesOn t w m bs (calls_on t l xs z)) (sym to) (further (lt_of_not-le f)
              (onward k v (wanted_in xs (made_at (k + v) xs)) (subst (λ z. m ≤ k + (v + wanted_in xs (calls_on t l xs z))) to
              (subst (λ z. m ≤ k + (wanted_by z v + wanted_in xs (calls_on t l xs q'))) still g)))))
            where
              still : answer_at q'.progress.status q'.progress.rounds (q.progress.rounds + v) ≡ gives running
              still = ap₂ (λ s n. answer_at s n (q.progress.rounds + v)) (ap (λ z. z.progress.status) to ∙ early-running (k + v) (lt_of_not-le f))
                  (ap (λ z. z.progress.rounds) to ∙ early-rounds (k + v) (lt_of_not-le f))
                  ∙ ap (λ b. cond b (gives running) (refused multiplier_large)) (eq-eqb (k + v) (q.progress.rounds + v) (ap (λ n. n + v) (sym (early-rounds k h))))

  -- and so does a list from the beginning
  pub catch-first : (xs : List Call) → 1 ≤ m → m ≤ wanted_in xs (calls_on t l xs r) → CertifiesOn t w m bs (calls_on t l xs r)
  unfolding iterate
  catch-first xs h g = catch xs 0 h (plain (wanted_in xs (calls_on t l xs r)) g)
    where
      plain : (n : ℕ) → m ≤ n → m ≤ 0 + n
      plain n h = omega arith
