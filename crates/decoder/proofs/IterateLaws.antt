-- The rounds of a call, one after the other: what is left of them is done from where the run stands. Assumes nothing.
use mathlib.Core.Path.{◌≡◌, refl, sym, ◌∙◌, ap, subst, fun_ext}
use mathlib.Core.Bool.{Bool, true, false, cond}
use mathlib.Core.List.{List}
use Prim.Native.Nat.{ℕ, zero, suc, ◌-◌, ◌<◌}
use native.Mathlib.Omega.{arith}
use lib.ListN.{length, replicate, length-replicate}
use lib.IntN.{ℤ}
use Rattle.rules.specs.Table.{Table}
use Rattle.rules.specs.Round.{Round}
use Rattle.rules.specs.Buffers.{Buffer, the, nought, lengths_of, needs, Part, at_end}
use Rattle.rules.specs.Run.{Status, running, certified, spent, Run, moved, too_large, next_by, next, iterate, Safe}
use Rattle.rules.proofs.BufferLaws.{the-each, part-refl, past-lengths}
use Rattle.rules.proofs.Runs.{coming, iterate-safe, held_start, iterate-held, ended-stays, iterate-stays, running≢certified, spent≢running}
use Rattle.decoder.specs.Rounds.{looped, filled, rounds_from, Steady, left_by}

-- ---- what the rounds write does not depend on word and certificate
module _ (t : Table) (l : List ℤ) where
  next-looped : (r : Run) → looped (next t l r) ≡ looped (next t l (looped r))
  unfolding next
  next-looped r = go r.progress.status (coming t l r)
    where
      by_size : (b : Bool) (d : Round) → looped (cond b r (moved r d)) ≡ looped (cond b (looped r) (moved (looped r) d))
      by_size true d = refl
      by_size false d = refl

      go : (s : Status) (d : Round) → looped (next_by s r d) ≡ looped (next_by s (looped r) d)
      go running d = by_size (too_large d.entries) d
      go certified d = refl
      go spent d = refl

  pub iterate-looped : (k : ℕ) (r : Run) → looped (iterate t l k r) ≡ looped (iterate t l k (looped r))
  unfolding iterate
  iterate-looped zero r = refl
  iterate-looped (suc k) r = iterate-looped k (next t l r) ∙ ap (λ x. looped (iterate t l k x)) (next-looped r) ∙ sym (iterate-looped k (next t l (looped r)))

-- with blank ones in their place the lengths are right
pub filled-sizes : (t : Table) (r : Run) → lengths_of r.buffers ≡ needs t → lengths_of (filled t r).buffers ≡ needs t
filled-sizes t r e = fun_ext (λ x. ap length (the-each (λ x. cond (at_end x) (replicate (needs t x) (nought x)) (the x r.buffers)) x) ∙ size x (at_end x))
  where
    size : (x : Buffer) (b : Bool) → length (cond b (replicate (needs t x) (nought x)) (the x r.buffers)) ≡ needs t x
    size x true = length-replicate (needs t x) (nought x)
    size x false = ap (λ n. n x) e

-- ---- the run stands at r with k rounds left, of a call for `wanted` from r₀
pub record Going (t : Table) (l : List ℤ) (wanted : ℕ) (r₀ : Run) (k : ℕ) (r : Run) : Type 0 where
  pub whole : looped (iterate t l wanted (filled t r₀)) ≡ looped (iterate t l k (filled t r))
  pub runs : 0 < k → r.progress.status ≡ running
  pub sizes : lengths_of (filled t r).buffers ≡ needs t
  pub safe : Safe t (filled t r)

pub going-first : {t : Table} {l : List ℤ} {r : Run} (wanted k : ℕ) → k ≡ wanted → Steady t r → Going t l wanted r k r
going-first {t} {l} {r} wanted k e h = record {
  whole = ap (λ n. looped (iterate t l n (filled t r))) (sym e);
  runs = λ p. h.runs;
  sizes = h.sizes;
  safe = h.safe;
}

pub going-ready : {t : Table} {l : List ℤ} {wanted : ℕ} {r₀ : Run} {k : ℕ} {r : Run} → Going t l wanted r₀ k r → 0 < k → Steady t r
going-ready g h = record { runs = g.runs h; sizes = g.sizes; safe = g.safe }

-- ---- after a round
module _ (l : List ℤ) (t : Table) (wanted : ℕ) (r₀ : Run) (k : ℕ) (r q : Run) (g : Going t l wanted r₀ k r) (h : 0 < k) (e : q ≡ rounds_from 1 l t r) where
  was : Run
  was = next t l (filled t r)

  q-is : q ≡ looped was
  unfolding rounds_from iterate was
  q-is = e

  one_less : (k : ℕ) → 0 < k → k ≡ suc (k - 1)
  one_less k h = omega arith

  whole-next : looped (iterate t l wanted (filled t r₀)) ≡ looped (iterate t l (k - 1) (filled t q))
  unfolding iterate was
  whole-next = g.whole ∙ ap (λ n. looped (iterate t l n (filled t r))) (one_less k h) ∙ iterate-looped t l (k - 1) was
      ∙ ap (λ x. looped (iterate t l (k - 1) (looped x))) (sym q-is) ∙ sym (iterate-looped t l (k - 1) (filled t q))

  q-safe : Safe t (filled t q)
  unfolding iterate was
  q-safe = let s = iterate-safe t l 1 (filled t r) g.safe in subst (λ x. Safe t (filled t x)) (sym q-is) (record { copies = s.copies; offsets = s.offsets; sums = s.sums; early = s.early })

  q-sizes : lengths_of (filled t q).buffers ≡ needs t
  unfolding iterate was
  q-sizes = ap (λ x. lengths_of (filled t x).buffers) q-is ∙ filled-sizes t was
      (past-lengths (needs t) was.buffers (filled t r).buffers (iterate-held t l 1 (filled t r).buffers (filled t r) (held_start t (filled t r) fits)).past ∙ g.sizes)
    where
      fits : Part (needs t) (lengths_of (filled t r).buffers)
      fits = subst (Part (needs t)) (sym g.sizes) (part-refl (needs t))

  -- an ended run does no more rounds
  ended-none : (q.progress.status ≡ running → ⊥) → iterate t l (k - 1) (filled t q) ≡ iterate t l 0 (filled t q)
  unfolding iterate
  ended-none f = iterate-stays t l (k - 1) (filled t q) (ended-stays t l (filled t q) f)

  whole-left : (s : Status) → q.progress.status ≡ s → iterate t l (k - 1) (filled t q) ≡ iterate t l (left_by s k) (filled t q)
  whole-left running p = refl
  whole-left certified p = ended-none (λ w. running≢certified (sym w ∙ p))
  whole-left spent p = ended-none (λ w. spent≢running (sym p ∙ w))

  runs-left : (s : Status) → q.progress.status ≡ s → 0 < left_by s k → q.progress.status ≡ running
  runs-left running p w = p
  runs-left certified p w = absurd (omega arith)
  runs-left spent p w = absurd (omega arith)

  pub going_next : (j : ℕ) → j ≡ left_by q.progress.status k → Going t l wanted r₀ j q
  going_next j p = subst (λ n. Going t l wanted r₀ n q) (sym p) (record {
    whole = whole-next ∙ ap looped (whole-left q.progress.status refl);
    runs = runs-left q.progress.status refl;
    sizes = q-sizes;
    safe = q-safe;
  })

  pub going-ended : (q.progress.status ≡ running → ⊥) → looped q ≡ rounds_from wanted l t r₀
  unfolding iterate rounds_from
  going-ended f = sym (whole-next ∙ ap looped (ended-none f))

-- ---- at last
pub going-last : (l : List ℤ) (t : Table) (wanted : ℕ) (r₀ : Run) (k : ℕ) (r : Run) → k ≡ 0 → Going t l wanted r₀ k r → looped r ≡ rounds_from wanted l t r₀
unfolding iterate rounds_from
going-last l t wanted r₀ k r e g = sym (g.whole ∙ ap (λ n. looped (iterate t l n (filled t r))) e)

-- No proof cites these any more, since the check finds what they say.
pub left_less : (s : Status) (k j : ℕ) → 0 < k → j ≡ left_by s k → j < k
left_less running k j h e = omega arith
left_less certified k j h e = omega arith
left_less spent k j h e = omega arith
