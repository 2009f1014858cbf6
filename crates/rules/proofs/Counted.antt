-- The rounds done after a list: those wanted by its calls not refused, added up, but none beyond the round that ends the run; and the state is that of
-- one run of them, however they are split. Assumes nothing.
use mathlib.Core.Path.{◌≡◌, refl, sym, ◌∙◌, ap, ap₂}
use mathlib.Core.Bool.{Bool, true, false, cond}
use mathlib.Core.List.{List, [], ◌∷◌}
use Prim.Native.Nat.{ℕ, zero, suc, ◌+◌, ◌-◌, ◌≤◌, ◌<◌, min}
use native.Mathlib.Omega.{arith}
use native.Mathlib.Nat.{zero-add, le_of_lt, lt_of_not-le, add-sub_of_le}
use native.Mathlib.Decide.{dec_le}
use lib.Dec.{eqb}
use borrow.Author.Tests.{eq-eqb}
use lib.IntN.{ℤ}
use Rattle.rules.specs.Limits.{round_limit}
use Rattle.rules.specs.Refusal.{Answer, refused, gives, must, multiplier_large}
use Rattle.rules.specs.Table.{Table}
use Rattle.rules.specs.Input.{on_frame}
use Rattle.rules.specs.Buffers.{Buffers, Lengths}
use Rattle.rules.specs.Run.{Status, running, certified, spent, Run, next, iterate, admits, answer_at, perform, call_on, Safe}
use Rattle.rules.specs.Calls.{Call, started_run, wanted_by, wanted_in, run_after, counted_by, counted_in}
use Rattle.rules.specs.Demand3.{FreshStart, RoundsDone}
use Rattle.rules.proofs.Runs.{ended-stays, iterate-stays, iterate-plus, running≢certified, spent≢running, iterate-safe, safe-moves}
use Rattle.rules.proofs.Lends.{call_for, calls_on}
use Rattle.rules.proofs.Lists.{count_next, Reach, reach, takes, admits_for, after, taken, list-after}
use Rattle.rules.proofs.Fresh.{started-safe}

-- of a run that was let do k rounds, all are counted
abbrev pub Counts : Table → List ℤ → ℕ → Run → Type 0
Counts t l k r = (iterate t l k r).progress.rounds ≡ r.progress.rounds + k

-- a safe run that is still running has counted every round that was due
pub all-counted : (t : Table) (l : List ℤ) (k : ℕ) (r : Run) → Safe t r → (iterate t l k r).progress.status ≡ running → Counts t l k r
unfolding iterate
all-counted t l zero r h e = omega arith
all-counted t l (suc k) r h e = go r.progress.status refl (λ s. all-counted t l k (next t l r) s e)
  where
    -- an ended run would have stayed
    still : (s : Status) → (s ≡ running → ⊥) → r.progress.status ≡ s → ⊥
    still s f p = f (sym p ∙ ap (λ z. z.progress.status) (sym (iterate-stays t l (suc k) r (ended-stays t l r (λ q. f (sym p ∙ q))))) ∙ e)

    go : (s : Status) → r.progress.status ≡ s → (Safe t (next t l r) → Counts t l k (next t l r)) → Counts t l (suc k) r
    go running p ih =
        let after = next t l r in
        count_next (iterate t l k after).progress.rounds after.progress.rounds r.progress.rounds k (ih (iterate-safe t l 1 r h)) (ap (λ z. z.progress.rounds) (safe-moves t l r h p))
    go certified p ih = absurd (still certified (λ q. running≢certified (sym q)) p)
    go spent p ih = absurd (still spent spent≢running p)

-- so a call that is not refused at first is not refused at all, and what it wants is what it takes
answer-takes : (s : Status) (a b v : ℕ) → (s ≡ running → a ≡ b) → wanted_by (answer_at s a b) v ≡ v
answer-takes running a b v h = ap (λ t. wanted_by (cond t (gives running) (refused multiplier_large)) v) (eq-eqb a b (h refl))
answer-takes certified a b v h = refl
answer-takes spent a b v h = refl

call-wants : (t : Table) (l : List ℤ) (x : Call) (r : Run) → Safe t r → wanted_by (call_for t l x r).answer x.wanted ≡ takes (admits_for t l x r) x.wanted
unfolding call_on
call-wants t l x r h = go (admits_for t l x r)
  where
    go : (a : Answer (Unit {0})) → wanted_by (perform t l x.wanted r a).answer x.wanted ≡ takes a x.wanted
    go (refused k) = refl
    go (gives u) =
        let after = (iterate t l x.wanted r).progress in
        answer-takes after.status after.rounds (r.progress.rounds + x.wanted) x.wanted (all-counted t l x.wanted r h)

call-safe : (t : Table) (l : List ℤ) (x : Call) (r : Run) → Safe t r → Safe t (call_for t l x r).run
unfolding call_on
call-safe t l x r h = go (admits_for t l x r)
  where
    go : (a : Answer (Unit {0})) → Safe t (perform t l x.wanted r a).run
    go (refused k) = h
    go (gives u) = iterate-safe t l x.wanted r h

wanted-taken : (t : Table) (l : List ℤ) (xs : List Call) (r : Run) → Safe t r → wanted_in xs (calls_on t l xs r) ≡ taken t l xs r
wanted-taken t l [] r h = refl
wanted-taken t l (x ∷ xs) r h = ap₂ ◌+◌ (call-wants t l x r h) (wanted-taken t l xs (call_for t l x r).run (call-safe t l x r h))

-- ---- the list
module _ (file : List ℕ) (t : Table) (l : List ℤ) (b : Buffers) (f : FreshStart file t b) (xs : List Call) where
  pub list-leaves : after t l xs (started_run file b) ≡ iterate t l (wanted_in xs (calls_on t l xs (started_run file b))) (started_run file b)
  unfolding iterate
  list-leaves = list-after t l (started_run file b) 0 xs
      ∙ ap (λ n. iterate t l n (started_run file b)) (zero-add (taken t l xs (started_run file b)) ∙ sym (wanted-taken t l xs (started_run file b) (started-safe file t b f)))

-- ---- no call of such a list is refused with 44, so what is counted is what was wanted
abbrev Not44 : {A : Type 0} → Answer A → Type 0
Not44 (refused k) = eqb k multiplier_large ≡ false
Not44 (gives a) = Unit {0}

must-not44 : {A : Type 0} (b : Bool) (k : ℕ) (a : Answer A) → eqb k multiplier_large ≡ false → Not44 a → Not44 (must b k a)
unfolding must
must-not44 true k a e h = h
must-not44 false k a e h = e

admits-not44 : (t : Table) (l : List ℤ) (v : ℕ) (n : Lengths) (r : Run) → Not44 (admits t l v n r)
unfolding admits on_frame
admits-not44 t l v n r = must-not44 _ _ _ refl (must-not44 _ _ _ refl (must-not44 _ _ _ refl (must-not44 _ _ _ refl (must-not44 _ _ _ refl (must-not44 _ _ _ refl tt)))))

call-counts : (t : Table) (l : List ℤ) (x : Call) (r : Run) (n : ℕ) → Safe t r → counted_by (call_for t l x r).answer x.wanted n ≡ wanted_by (call_for t l x r).answer x.wanted
unfolding call_on
call-counts t l x r n h = go (admits_for t l x r) (admits-not44 t l x.wanted x.lent r)
  where
    answered : (s : Status) (a b v : ℕ) → (s ≡ running → a ≡ b) → counted_by (answer_at s a b) v n ≡ wanted_by (answer_at s a b) v
    answered running a b v h =
        let e = ap (λ t. cond t (gives running) (refused multiplier_large)) (eq-eqb a b (h refl)) in
        ap (λ z. counted_by z v n) e ∙ sym (ap (λ z. wanted_by z v) e)
    answered certified a b v h = refl
    answered spent a b v h = refl

    go : (a : Answer (Unit {0})) → Not44 a → counted_by (perform t l x.wanted r a).answer x.wanted n ≡ wanted_by (perform t l x.wanted r a).answer x.wanted
    go (refused k) e = ap (λ b. cond b n 0) e
    go (gives u) e =
        let after = (iterate t l x.wanted r).progress in
        answered after.status after.rounds (r.progress.rounds + x.wanted) x.wanted (all-counted t l x.wanted r h)

counted-wanted : (t : Table) (l : List ℤ) (xs : List Call) (r : Run) (n : ℕ) → Safe t r → counted_in n xs (calls_on t l xs r) ≡ wanted_in xs (calls_on t l xs r)
counted-wanted t l [] r n h = refl
counted-wanted t l (x ∷ xs) r n h = ap₂ ◌+◌ (call-counts t l x r ((call_for t l x r).run.progress.rounds - n) h)
    (counted-wanted t l xs (call_for t l x r).run (call_for t l x r).run.progress.rounds (call-safe t l x r h))

after_run : (t : Table) (l : List ℤ) (xs : List Call) (r : Run) → run_after r (calls_on t l xs r) ≡ after t l xs r
after_run t l [] r = refl
after_run t l (x ∷ xs) r = after_run t l xs (call_for t l x r).run

-- ---- and none beyond the round that ends the run
module _ (t : Table) (l : List ℤ) (r : Run) (safe : Safe t r) (begins : r.progress.rounds ≡ 0) where
  pub whole-ends : (iterate t l round_limit r).progress.status ≡ running → ⊥
  whole-ends e = late (iterate t l round_limit r).progress.rounds r.progress.rounds (all-counted t l round_limit r safe e) ((iterate-safe t l round_limit r safe).early e)
    where
      late : (x y : ℕ) → x ≡ y + round_limit → x < round_limit → ⊥
      late x y e h = omega arith

  pub rounds-least : (k : ℕ) → (iterate t l k r).progress.rounds ≡ min k (iterate t l round_limit r).progress.rounds
  rounds-least k = by_size (dec_le k round_limit)
    where
      p : Reach t l k r
      p = reach t l k r

      -- the run stays from k on, or is still running at k
      early : k ≤ round_limit → iterate t l round_limit r ≡ iterate t l (round_limit - k) (iterate t l k r)
      early h = ap (λ n. iterate t l n r) (sym (add-sub_of_le h)) ∙ iterate-plus t l k (round_limit - k) r

      late : round_limit ≤ k → iterate t l k r ≡ iterate t l round_limit r
      late h = ap (λ n. iterate t l n r) (sym (add-sub_of_le h)) ∙ iterate-plus t l round_limit (k - round_limit) r
          ∙ iterate-stays t l (k - round_limit) (iterate t l round_limit r) (ended-stays t l (iterate t l round_limit r) whole-ends)

      all : (x y z s : ℕ) → x ≡ y + k → y ≡ 0 → z ≡ x + s → x ≡ min k z
      all x y z s e f g = omega arith

      fewer : (x y z s : ℕ) → x ≡ y + s → y ≡ 0 → s ≤ k → z ≡ x → x ≡ min k z
      fewer x y z s e f g h = omega arith

      ended : iterate t l round_limit r ≡ iterate t l k r → (iterate t l k r).progress.rounds ≡ min k (iterate t l round_limit r).progress.rounds
      ended e = fewer _ _ _ _ p.counted begins p.within (ap (λ z. z.progress.rounds) e)

      stays : k ≤ round_limit → ((iterate t l k r).progress.status ≡ running → ⊥) → iterate t l round_limit r ≡ iterate t l k r
      stays h f = early h ∙ iterate-stays t l (round_limit - k) (iterate t l k r) (ended-stays t l (iterate t l k r) f)

      by-status : k ≤ round_limit → (s : Status) → (iterate t l k r).progress.status ≡ s → (iterate t l k r).progress.rounds ≡ min k (iterate t l round_limit r).progress.rounds
      by-status h running e =
          let q = reach t l (round_limit - k) (iterate t l k r) in
          all _ _ _ _ (all-counted t l k r safe e) begins (ap (λ z. z.progress.rounds) (early h) ∙ q.counted)
      by-status h certified e = ended (stays h (λ q. running≢certified (sym q ∙ e)))
      by-status h spent e = ended (stays h (λ q. spent≢running (sym e ∙ q)))

      by_size : Dec (k ≤ round_limit) → (iterate t l k r).progress.rounds ≡ min k (iterate t l round_limit r).progress.rounds
      by_size (yes h) = by-status h (iterate t l k r).progress.status refl
      by_size (no f) = ended (sym (late (le_of_lt (lt_of_not-le f))))

-- "The rounds done after a list"
pub list-rounds : (file : List ℕ) (t : Table) (l : List ℤ) (b : Buffers) → FreshStart file t b → (xs : List Call)
    → RoundsDone t l xs (started_run file b) (calls_on t l xs (started_run file b))
list-rounds file t l b f xs = record {
  ends = whole-ends t l (started_run file b) (started-safe file t b f) refl;
  rounds = ap (λ z. z.progress.rounds) (after_run t l xs (started_run file b) ∙ list-leaves file t l b f xs)
      ∙ rounds-least t l (started_run file b) (started-safe file t b f) refl (wanted_in xs (calls_on t l xs (started_run file b)))
      ∙ ap (λ n. min n (iterate t l round_limit (started_run file b)).progress.rounds) (sym (counted-wanted t l xs (started_run file b) 0 (started-safe file t b f)));
}
