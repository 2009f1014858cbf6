-- A round as the code does it: its spins and its pass are the round's, and what step 4 finds decides the round's word. Assumes nothing.
use mathlib.Core.Path.{◌≡◌, refl, sym, ◌∙◌, ap, ap₂}
use mathlib.Core.Bool.{Bool, true, false, ◌&&◌}
use mathlib.Core.List.{List}
use mathlib.Core.Option.{Option, some, none}
use Prim.Native.Nat.{ℕ, zero, suc}
use lib.ListN.{length}
use lib.IntN.{ℤ}
use Rattle.integers.specs.Linear.{Within}
use Rattle.integers.specs.Sum.{AllWithin}
use Rattle.rules.specs.Limits.{unit}
use Rattle.rules.specs.Table.{Table, edges, at}
use Rattle.rules.specs.Sound.{AllBelow}
use Rattle.rules.specs.Parity.{meets}
use Rattle.rules.specs.Cut.{negatives, keep}
use Rattle.rules.specs.Step.{Entry, Step, minus}
use Rattle.rules.specs.Bound.{Row, rows_of, gap}
use Rattle.rules.specs.Round.{State, spin, pass, copies_in, offsets_in, entries_in, depths_in, candidate, is_zero, certify, first_of, sums_of, Round, round}
use Rattle.rules.specs.Buffers.{zeros, multipliers_of, masks_of}
use Rattle.rules.proofs.WrittenPasses.{AllProper}
use Rattle.rules.proofs.CallPasses.{round-proper}
use Rattle.rules.proofs.RoundSizes.{first-length, first-at}
use Rattle.rules.proofs.Runs.{spin-within}
use Rattle.rules.proofs.SumLaws.{scatter-sums}
use Rattle.decoder.specs.Passed.{Passed, passed_to, passed_by, passed_of, passed}
use Rattle.decoder.specs.Closing.{met_by, rows_from}
use Rattle.run.specs.Ending.{closing}
use Rattle.decoder.specs.Found.{found}
use Rattle.decoder.proofs.RoundSpinsLaws.{pass_same, candidate-same}
use Rattle.decoder.proofs.ClosingLaws.{rows-from, candidate-negatives}

-- ---- steps 1 to 3
module _ (t : Table) (below : AllBelow t.bits t.checks) (l : List ℤ) (st : State) where
  -- the spins, and the pass over the checks with them
  f : ℕ → ℤ
  f = spin unit (edges t.checks) l st

  pub spins-are : first_of t.bits (spin unit (edges t.checks) l st) ≡ (round t l st).spins
  unfolding round
  spins-are = refl

  steps-are : pass unit (at (first_of t.bits f)) t.checks st.offsets ≡ pass unit f t.checks st.offsets
  steps-are = pass_same t.bits f (at (first_of t.bits f)) (first-at t.bits f) unit t.checks st.offsets below

  -- the sums begin at zero
  pub passed_is : (s x : List ℤ) (p : Passed) → s ≡ first_of t.bits (spin unit (edges t.checks) l st) → x ≡ zeros t.bits → p ≡ passed (at s) t.checks st.offsets x
      → p ≡ passed_of (round t l st)
  unfolding round passed f sums_of
  passed_is s x p e z g = g ∙ ap₂ (λ v w. passed_by es w (pass unit (at v) t.checks st.offsets)) (e ∙ spins-are) z ∙ ap (passed_by es (zeros t.bits)) steps-are
      ∙ ap (λ w. passed_to (copies_in ts) (offsets_in ts) w (multipliers_of (entries_in ts)) (masks_of (entries_in ts)) (depths_in ts)) (scatter-sums t.bits es (minus (copies_in ts) (offsets_in ts)))
    where
      es : List ℕ
      es = edges t.checks

      ts : List Step
      ts = pass unit (spin unit (edges t.checks) l st) t.checks st.offsets

first-within : (u n : ℕ) (g : ℕ → ℤ) → ((i : ℕ) → Within u (g i)) → AllWithin u (first_of n g)
first-within u zero g w = tt
first-within u (suc n) g w = (w 0, first-within u n (λ i. g (suc i)) (λ i. w (suc i)))

-- the spins are within the unit
pub spins-within : (u n : ℕ) (es : List ℕ) (l : List ℤ) (s : State) → AllWithin u (first_of n (spin u es l s))
spins-within u n es l s = first-within u n (spin u es l s) (spin-within u es l s)

-- ---- step 4
module _ (l : List ℤ) (cs : List (List ℕ)) (s : List ℤ) (bs ks : List ℕ) where
  pub none_found : met_by (candidate (length s) (at s)) cs ≡ false → none ≡ found l cs s bs ks
  unfolding found
  none_found e = ap (λ m. keep m (gap (length s) 1 l (rows_from cs bs ks) (negatives s))) (sym e)

  pub word-found : (g : ℤ) → met_by (candidate (length s) (at s)) cs ≡ true → g ≡ gap (length s) 1 l (rows_from cs bs ks) (negatives s) → some g ≡ found l cs s bs ks
  unfolding found
  word-found g e f = ap some f ∙ ap (λ m. keep m (gap (length s) 1 l (rows_from cs bs ks) (negatives s))) (sym e)

closing-keep : (m : Bool) (g : ℤ) → closing (keep m g) ≡ m && is_zero g
closing-keep true g = refl
closing-keep false g = refl

-- g the spins, es what the checks add
module _ (t : Table) (l : List ℤ) (g : ℕ → ℤ) (es : List Entry) (p : AllProper t.checks es) where
  abbrev s : List ℤ
  s = first_of t.bits g

  abbrev rows : List Row
  rows = rows_of t.checks es

  -- the word with ones at negative spins, where o is the candidate
  abbrev kept : ℕ → Option (List Bool) → List Row → Option (List Bool)
  kept n o rs = keep (met_by o t.checks && is_zero (gap n 1 l rs (negatives s))) (negatives s)

  same : candidate t.bits (at s) ≡ candidate t.bits g
  same = candidate-same t.bits g (at s) (first-at t.bits g)

  kept-is : (o : Option (List Bool)) → candidate t.bits g ≡ o → kept t.bits o rows ≡ certify t l rows o
  kept-is none e = refl
  kept-is (some w) e = ap (λ v. keep (meets w t.checks && is_zero (gap t.bits 1 l rows v)) v) (sym word)
    where
      word : w ≡ negatives s
      word = candidate-negatives s w (ap (λ m. candidate m (at s)) (first-length t.bits g) ∙ same ∙ e)

  closed-law : keep (closing (found l t.checks s (multipliers_of es) (masks_of es))) (negatives s) ≡ certify t l rows (candidate t.bits g)
  unfolding found
  closed-law =
      let from = rows_from t.checks (multipliers_of es) (masks_of es) in
      ap (λ x. keep x (negatives s)) (closing-keep (met_by (candidate (length s) (at s)) t.checks) (gap (length s) 1 l from (negatives s)))
      ∙ ap (λ n. kept n (candidate n (at s)) from) (first-length t.bits g) ∙ ap₂ (kept t.bits) same (rows-from t.checks es p) ∙ kept-is (candidate t.bits g) refl

-- what the round finds, of its own spins, multipliers and masks
abbrev pub found_in : Table → List ℤ → Round → Option ℤ
found_in t l d = found l t.checks d.spins (multipliers_of d.entries) (masks_of d.entries)

pub round-closed : (t : Table) (l : List ℤ) (st : State) → keep (closing (found_in t l (round t l st))) (negatives (round t l st).spins) ≡ (round t l st).word
unfolding round
round-closed t l st = closed-law t l (spin unit (edges t.checks) l st) (entries_in (pass unit (spin unit (edges t.checks) l st) t.checks st.offsets)) (round-proper t l st)
