-- A round of a running run on buffers of exactly the stated lengths: what its parts are given, and that they make it. Assumes nothing.
use mathlib.Core.Path.{◌≡◌, refl, sym, ◌∙◌, ap, ap₂, subst}
use mathlib.Core.Bool.{Bool, true, false}
use mathlib.Core.List.{List, [], ◌∷◌}
use mathlib.Core.Option.{Option}
use Prim.Native.Nat.{ℕ, zero, suc, ◌*◌, ◌≤◌, ◌<◌}
use native.Mathlib.Omega.{arith}
use lib.ListN.{length, get_or, length-replicate}
use lib.IntN.{ℤ, pos, ◌+ℤ◌}
use Rattle.integers.specs.Linear.{Within}
use Rattle.integers.specs.Clip.{clip_z}
use Rattle.integers.specs.Sum.{AllWithin}
use Rattle.rules.specs.Limits.{unit, round_limit, offset_per_round, offset_limit, value_limit, weight_limit, sum_limit, step_limit, max_bit_degree}
use Rattle.rules.specs.Table.{Table, at, edges, edges_of, degree_of}
use Rattle.rules.specs.Sound.{Sound}
use Rattle.rules.specs.Cut.{negatives, keep}
use Rattle.rules.specs.Step.{Entry, minus}
use Rattle.rules.specs.Round.{State, total, divided, spin, first_of, sums_of, Round, round}
use Rattle.rules.specs.Buffers.{spins, copies, offsets, sums, multipliers, masks, depths, zeros, multipliers_of, masks_of, round_lent}
use Rattle.rules.specs.Run.{Progress, Run, status_at, moved, state_in, iterate}
use Rattle.rules.proofs.BufferLaws.{over-exact}
use Rattle.rules.specs.Scatter.{Room}
use Rattle.rules.proofs.Pass.{AtMost, all-wider}
use Rattle.rules.proofs.Steps.{minus-within}
use Rattle.rules.proofs.SumLaws.{zeros-room, sum-within}
use Rattle.rules.proofs.RoundSizes.{first-length, first-at, Sized, round-sized}
use Rattle.rules.proofs.Runs.{multipliers-limit, safe-moves}
use Rattle.decoder.specs.Spins.{SpinsFit, Spun}
use Rattle.decoder.specs.Passed.{Passed, PassFits, passed, passed_of}
use Rattle.decoder.specs.Closing.{AllUpTo, GapFits}
use Rattle.run.specs.Ending.{closing, status_by, record_by}
use Rattle.run.proofs.EndingLaws.{counted_next}
use Rattle.decoder.specs.Found.{found}
use Rattle.decoder.specs.Rounds.{Given, looped, filled, rounds_from, Steady}
use Rattle.decoder.proofs.PlaceLaws.{first-same}
use Rattle.decoder.proofs.ExactLaws.{state-exact, sums-exact}
use Rattle.decoder.proofs.RoundLaws.{spins-are, passed_is, spins-within, found_in, round-closed}

up_to : (n : ℕ) (es : List Entry) → AtMost n es → AllUpTo n (multipliers_of es)
up_to n [] h = tt
up_to n (e ∷ es) h = (h.0, up_to n es h.1)

status-by : (k : ℕ) (b : Bool) (w : List Bool) → status_by b k ≡ status_at k (keep b w)
status-by k true w = refl
status-by k false w = refl

first-all : (b n : ℕ) (f : ℕ → ℤ) → ((i : ℕ) → i < n → Within b (f i)) → AllWithin b (first_of n f)
first-all b zero f w = tt
first-all b (suc n) f w = (w 0 (omega arith), first-all b n (λ i. f (suc i)) (λ i h. w (suc i) (omega arith)))

offsets-low : (k : ℕ) → k < round_limit → offset_per_round * k ≤ offset_limit
offsets-low k h = omega arith

module _ {t : Table} {l : List ℤ} {ds : List ℕ} {r : Run} (sound : Sound t) (g : Given t l ds) (h : Steady t r) where
  st : State
  st = record { copies = r.buffers.copies; offsets = r.buffers.offsets }

  d : Round
  d = round t l st

  here : state_in t (filled t r).buffers ≡ record { copies = r.buffers.copies; offsets = r.buffers.offsets }
  here = state-exact t (filled t r).buffers h.sizes

  -- ---- what the spins and the pass are given
  pub early : r.progress.rounds < round_limit
  early = h.safe.early h.runs

  spins-long : length r.buffers.spins ≡ t.bits
  spins-long = ap (λ n. n spins) h.sizes

  copies-long : length r.buffers.copies ≡ edges_of t
  copies-long = ap (λ n. n copies) h.sizes

  offsets-long : length r.buffers.offsets ≡ edges_of t
  offsets-long = ap (λ n. n offsets) h.sizes

  offsets-within : AllWithin (offset_per_round * r.progress.rounds) r.buffers.offsets
  offsets-within = subst (λ s. AllWithin (offset_per_round * r.progress.rounds) s.offsets) here h.safe.offsets

  offsets-few : AllWithin offset_limit r.buffers.offsets
  offsets-few = all-wider (offset_per_round * r.progress.rounds) offset_limit r.buffers.offsets (offsets-low r.progress.rounds early) offsets-within

  sums-long : length r.buffers.sums ≡ t.bits
  sums-long = ap (λ n. n sums) h.sizes

  -- the sums are those of copies and offsets
  sums-are : r.buffers.sums ≡ sums_of t.bits (edges t.checks) (record { copies = r.buffers.copies; offsets = r.buffers.offsets })
  sums-are = sym (sums-exact t (filled t r).buffers h.sizes) ∙ h.safe.sums ∙ ap (sums_of t.bits (edges t.checks)) here

  standing : (i : ℕ) → i < t.bits → degree_of i (edges t.checks) ≤ max_bit_degree
  standing i k = (sound.standing i k).1

  weights-within : AllWithin weight_limit (minus r.buffers.copies r.buffers.offsets)
  weights-within = all-wider value_limit weight_limit (minus r.buffers.copies r.buffers.offsets) (omega arith)
      (minus-within unit offset_limit r.buffers.copies r.buffers.offsets (subst (λ s. AllWithin unit s.copies) here h.safe.copies) offsets-few)

  sums-within : AllWithin sum_limit r.buffers.sums
  unfolding sums_of
  sums-within = subst (AllWithin sum_limit) (sym sums-are)
      (first-all sum_limit t.bits _ (λ i k. sum-within i (edges t.checks) (minus r.buffers.copies r.buffers.offsets) (standing i k) weights-within))

  pub spins-fit : SpinsFit (length r.buffers.spins) l ds r.buffers.sums
  spins-fit = subst (λ n. SpinsFit n l ds r.buffers.sums) (sym spins-long) (record {
    size = g.size;
    frame = g.frame;
    sums_long = sums-long;
    sums = sums-within;
    room = g.room;
  })

  -- after step 1
  module _ {s x : List ℤ} (e : Spun (length r.buffers.spins) l ds r.buffers.sums s x) where
    spin-is : (i : ℕ) → i < t.bits → clip_z unit (divided (at l i +ℤ at r.buffers.sums i) (get_or ds i 0)) ≡ spin unit (edges t.checks) l (record { copies = r.buffers.copies; offsets = r.buffers.offsets }) i
    unfolding spin total sums_of
    spin-is i k = ap₂ (λ a d. clip_z unit (divided (at l i +ℤ a) d)) (ap (λ q. at q i) sums-are ∙ first-at t.bits _ i k) (g.degrees i k)

    e' : s ≡ first_of t.bits (spin unit (edges t.checks) l (record { copies = r.buffers.copies; offsets = r.buffers.offsets }))
    e' = e.spins ∙ ap (λ n. first_of n (λ i. clip_z unit (divided (at l i +ℤ at r.buffers.sums i) (get_or ds i 0)))) spins-long ∙ first-same t.bits _ _ spin-is

    cleared : x ≡ zeros t.bits
    cleared = e.sums ∙ ap zeros spins-long

    s-long : length s ≡ t.bits
    s-long = ap length e' ∙ first-length t.bits _

    pub pass_fits : PassFits t s r.buffers.copies r.buffers.offsets x r.buffers.multipliers r.buffers.masks r.buffers.depths
    pass_fits = record {
      size = s-long;
      spins = subst (λ x. AllWithin unit x) (sym e') (spins-within unit t.bits (edges t.checks) l _);
      copies_long = copies-long;
      offsets_long = offsets-long;
      offsets = offsets-few;
      sums_long = ap length cleared ∙ length-replicate t.bits (pos 0) ∙ sym s-long;
      room = subst (Room (edges t.checks)) (sym cleared) (zeros-room t.bits (edges t.checks) standing);
      multipliers_long = ap (λ n. n multipliers) h.sizes;
      masks_long = ap (λ n. n masks) h.sizes;
      depths_long = ap (λ n. n depths) h.sizes;
    }

    spins-is : s ≡ d.spins
    unfolding d st
    spins-is = e' ∙ spins-are t sound.below l _

    -- after steps 2 and 3
    module _ {p : Passed} (f : p ≡ passed (at s) t.checks r.buffers.offsets x) where
      pass-is : p ≡ passed_of d
      unfolding d st
      pass-is = passed_is t sound.below l (record { copies = r.buffers.copies; offsets = r.buffers.offsets }) s x p e' cleared f

      sized : Sized t d
      unfolding d
      sized = round-sized t l st

      limited : AllUpTo step_limit p.multipliers
      unfolding d st
      limited = subst (λ x. AllUpTo step_limit x.multipliers) (sym pass-is) (up_to step_limit d.entries (multipliers-limit t l st r.progress.rounds early offsets-within))

      pub gap-fits : GapFits t l s p.multipliers p.masks
      gap-fits = record {
        frame_long = g.size;
        frame = g.frame;
        spins_long = s-long;
        multipliers_long = ap (λ x. length x.multipliers) pass-is ∙ sized.multipliers;
        masks_long = ap (λ x. length x.masks) pass-is ∙ sized.masks;
        multipliers = limited;
      }

      -- after step 4
      module _ {o : Option ℤ} {q : Progress} (i : o ≡ found l t.checks s p.multipliers p.masks) (j : q ≡ record_by o r.progress) where
        found-is : o ≡ found_in t l d
        found-is = i ∙ ap₂ (λ x y. found l t.checks x y.multipliers y.masks) spins-is pass-is

        record_is : q ≡ record { rounds = suc r.progress.rounds; status = status_at (suc r.progress.rounds) d.word }
        unfolding d
        record_is = j ∙ ap (λ x. record_by x r.progress) found-is
            ∙ ap (λ k. record { rounds = k; status = status_by (closing (found_in t l d)) k }) (counted_next r.progress.rounds early)
            ∙ ap (λ x. record { rounds = suc r.progress.rounds; status = x })
            (status-by (suc r.progress.rounds) (closing (found_in t l (round t l st))) (negatives (round t l st).spins) ∙ ap (status_at (suc r.progress.rounds)) (round-closed t l st))

        -- the round is what the rules' next round is
        pub done-law : record { progress = q; buffers = round_lent s p.copies p.offsets p.sums p.multipliers p.masks p.depths } ≡ rounds_from 1 l t r
        unfolding rounds_from iterate d st
        done-law = ap₂ (λ x y. record { progress = x; buffers = y }) record_is
            (ap₂ (λ v y. round_lent v y.copies y.offsets y.sums y.multipliers y.masks y.depths) spins-is pass-is ∙ sym exact)
            ∙ ap (λ x. looped (moved (filled t r) (round t l x))) (sym here) ∙ ap looped (sym (safe-moves t l (filled t r) h.safe h.runs))
          where
            exact : (looped (moved (filled t r) d)).buffers ≡ round_lent d.spins d.state.copies d.state.offsets d.sums (multipliers_of d.entries) (masks_of d.entries) d.depths
            exact = λ i. round_lent
                (over-exact d.spins r.buffers.spins (sized.spins ∙ sym (ap (λ n. n spins) h.sizes)) i)
                (over-exact d.state.copies r.buffers.copies (sized.copies ∙ sym (ap (λ n. n copies) h.sizes)) i)
                (over-exact d.state.offsets r.buffers.offsets (sized.offsets ∙ sym (ap (λ n. n offsets) h.sizes)) i)
                (over-exact d.sums r.buffers.sums (sized.sums ∙ sym (ap (λ n. n sums) h.sizes)) i)
                (over-exact (multipliers_of d.entries) r.buffers.multipliers (sized.multipliers ∙ sym (ap (λ n. n multipliers) h.sizes)) i)
                (over-exact (masks_of d.entries) r.buffers.masks (sized.masks ∙ sym (ap (λ n. n masks) h.sizes)) i)
                (over-exact d.depths r.buffers.depths (sized.depths ∙ sym (ap (λ n. n depths) h.sizes)) i)
