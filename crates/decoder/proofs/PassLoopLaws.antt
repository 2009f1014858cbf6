-- The pass's loop: where it stands after j checks, what it hands to the next, and what it leaves. Assumes nothing.
use mathlib.Core.Path.{◌≡◌, sym, ◌∙◌, ap, ap₂, subst}
use mathlib.Core.List.{List, [], ◌++◌}
use Prim.Native.Nat.{ℕ, ◌+◌, ◌-◌, ◌≤◌, ◌<◌}
use native.Mathlib.Nat.{add-sub_of_le}
use native.Mathlib.Omega.{arith}
use lib.ListN.{length, get_or, take, drop, take-append-drop}
use lib.Seq.{drop-drop}
use lib.IntN.{ℤ}
use Rattle.integers.specs.Sum.{AllWithin}
use Rattle.rules.specs.Limits.{unit, offset_limit, weight_limit, max_degree}
use Rattle.rules.specs.Table.{Table, at, checks_of}
use Rattle.rules.specs.Sound.{Below}
use Rattle.rules.specs.Step.{Step, step, minus}
use Rattle.rules.specs.Round.{values, pass, copies_in, offsets_in, entries_in}
use Rattle.rules.proofs.Pass.{AllLaid, pass-laid, copies_length, offsets-length, entries-length, depths-length, copies-within, offsets-within, take_within, drop-within}
use Rattle.rules.proofs.RoundSizes.{multipliers-length, masks-length}
use Rattle.rules.specs.Scatter.{scatter, Room, Added}
use Rattle.rules.proofs.Optimal.{within-at}
use Rattle.rules.proofs.Steps.{minus-within, minus-length, minus-drop, minus-take}
use Rattle.rules.proofs.SumLaws.{room-first, added_none, added-all, added-part}
use Rattle.rules.proofs.FillLaws.{fill, fill_none, fill-length, fill-rest, fill_more, fill-all}
use Rattle.table.specs.Layout.{checks_from, table_of, edges_before, Holds}
use Rattle.decoder.specs.Stepped.{Stepped, summed, stepped_by, stepped_on, stepped}
use Rattle.decoder.specs.Passed.{Passed, passed_to, passed, PassFits}
use Rattle.decoder.specs.Parts.{part, placed, one_passed, OneFits}
use Rattle.decoder.proofs.PartLaws.{fill-part, part_length}
use Rattle.decoder.proofs.StepListLaws.{values-take}
use Rattle.table.proofs.LayoutLaws.{before-all, before-most, members-long, start_is_lem, starts-long, start-next, part-is, part-degree, part-below}
use Rattle.decoder.proofs.PassLaws.{step_at, copies_at, offsets-at, multiplier-at, mask_at, depth-at}

-- z − y of each edge
abbrev weights_in : Passed → List ℤ
weights_in p = minus p.copies p.offsets

-- j checks are done: the edges before check j, and j multipliers, masks and depths
pub record Passing (f : ℕ → ℤ) (ss ms : List ℕ) (q₀ q : Passed) (j : ℕ) : Type 0 where
  pub few : j ≤ length (checks_from ss ms)
  pub copies : q.copies ≡ fill (get_or ss j 0) (passed f (checks_from ss ms) q₀.offsets q₀.sums).copies q₀.copies
  pub offsets : q.offsets ≡ fill (get_or ss j 0) (passed f (checks_from ss ms) q₀.offsets q₀.sums).offsets q₀.offsets
  pub sums : Added ms (weights_in (passed f (checks_from ss ms) q₀.offsets q₀.sums)) q₀.sums (get_or ss j 0) q.sums
  pub multipliers : q.multipliers ≡ fill j (passed f (checks_from ss ms) q₀.offsets q₀.sums).multipliers q₀.multipliers
  pub masks : q.masks ≡ fill j (passed f (checks_from ss ms) q₀.offsets q₀.sums).masks q₀.masks
  pub depths : q.depths ≡ fill j (passed f (checks_from ss ms) q₀.offsets q₀.sums).depths q₀.depths

pub passed-eq : {a a' b b' x x' : List ℤ} {c c' d d' e e' : List ℕ} → a ≡ a' → b ≡ b' → x ≡ x' → c ≡ c' → d ≡ d' → e ≡ e' → passed_to a b x c d e ≡ passed_to a' b' x' c' d' e'
passed-eq p q x r s t = λ i. passed_to (p i) (q i) (x i) (r i) (s i) (t i)

-- the fields n, ss and ms of the table t hold it
module _ {n : ℕ} {ss ms : List ℕ} {t : Table} {s z y x : List ℤ} {bs ks ds : List ℕ} (held : Holds n ss ms) (is : table_of n ss ms ≡ t) (given : PassFits t s z y x bs ks ds) where
  fits : PassFits (table_of n ss ms) s z y x bs ks ds
  fits = subst (λ t. PassFits t s z y x bs ks ds) (sym is) given

  z-long : length z ≡ length ms
  z-long = fits.copies_long ∙ sym (members-long n ss ms held)

  y-long : length y ≡ length ms
  y-long = fits.offsets_long ∙ sym (members-long n ss ms held)

  room-is : Room ms x
  room-is = subst (λ es. Room es x) (sym held.members) fits.room

  abbrev cs : List (List ℕ)
  cs = checks_from ss ms

  abbrev steps : List Step
  steps = pass unit (at s) (checks_from ss ms) y

  abbrev goal : Passed
  goal = passed (at s) (checks_from ss ms) y x

  abbrev first : Passed
  first = passed_to z y x bs ks ds

  abbrev from : ℕ → ℕ
  from j = get_or ss j 0

  laid : AllLaid unit cs steps
  laid = pass-laid unit (at s) cs y

  copies-same : length goal.copies ≡ length z
  unfolding passed
  copies-same = copies_length unit cs steps laid ∙ sym (members-long n ss ms held) ∙ sym z-long

  offsets-same : length goal.offsets ≡ length y
  unfolding passed
  offsets-same = offsets-length unit cs steps laid ∙ sym (members-long n ss ms held) ∙ sym y-long

  multipliers-same : length goal.multipliers ≡ length bs
  unfolding passed
  multipliers-same = multipliers-length (entries_in steps) ∙ entries-length unit cs steps laid ∙ sym fits.multipliers_long

  masks-same : length goal.masks ≡ length ks
  unfolding passed
  masks-same = masks-length (entries_in steps) ∙ entries-length unit cs steps laid ∙ sym fits.masks_long

  depths-same : length goal.depths ≡ length ds
  unfolding passed
  depths-same = depths-length unit cs steps laid ∙ sym fits.depths_long

  weights-long : length (weights_in goal) ≡ length ms
  weights-long = minus-length goal.copies goal.offsets (copies-same ∙ z-long ∙ sym (offsets-same ∙ y-long)) ∙ copies-same ∙ z-long

  weights-within : AllWithin weight_limit (weights_in goal)
  unfolding passed
  weights-within = minus-within unit (unit + offset_limit + unit) (copies_in steps) (offsets_in steps) (copies-within unit cs steps laid)
      (offsets-within unit offset_limit (at s) (within-at unit s fits.spins) cs y fits.offsets)

  pub one_more : length ss ≡ length cs + 1
  one_more = starts-long n ss ms held

  pub start_first : 0 ≡ from 0
  start_first = sym (start_is_lem n ss ms held 0 (omega arith))

  -- a start is no further than the edges go
  start-in : (j : ℕ) → j ≤ length cs → from j ≤ length ms
  start-in j h = omega (arith, start_is_lem n ss ms held j h, before-most cs j, members-long n ss ms held)

  pub passing-first : Passing (at s) ss ms first first 0
  passing-first = record {
    few = omega arith;
    copies = sym (fill_none goal.copies z) ∙ ap (λ a. fill a goal.copies z) start_first;
    offsets = sym (fill_none goal.offsets y) ∙ ap (λ a. fill a goal.offsets y) start_first;
    sums = subst (λ a. Added ms (weights_in goal) x a x) start_first (added_none room-is);
    multipliers = sym (fill_none goal.multipliers bs);
    masks = sym (fill_none goal.masks ks);
    depths = sym (fill_none goal.depths ds);
  }

  module _ {j : ℕ} {q : Passed} (g : Passing (at s) ss ms first q j) where
    copies-long : length q.copies ≡ length ms
    copies-long = ap length g.copies ∙ fill-length (from j) goal.copies z ∙ z-long

    offsets-long : length q.offsets ≡ length ms
    offsets-long = ap length g.offsets ∙ fill-length (from j) goal.offsets y ∙ y-long

    multipliers-long : length q.multipliers ≡ length cs
    multipliers-long = ap length g.multipliers ∙ fill-length j goal.multipliers bs ∙ fits.multipliers_long

    masks-long : length q.masks ≡ length cs
    masks-long = ap length g.masks ∙ fill-length j goal.masks ks ∙ fits.masks_long

    depths-long : length q.depths ≡ length cs
    depths-long = ap length g.depths ∙ fill-length j goal.depths ds ∙ fits.depths_long

    passing-done : length cs ≤ j → q ≡ goal
    unfolding passed
    passing-done h = passed-eq
        (g.copies ∙ fill-all (from j) goal.copies z copies-same (end ∙ sym z-long))
        (g.offsets ∙ fill-all (from j) goal.offsets y offsets-same (end ∙ sym y-long))
        (added-all g.sums (omega (arith, end)) ∙ ap (λ l. scatter l (weights_in goal) x) held.members)
        (g.multipliers ∙ fill-all j goal.multipliers bs multipliers-same (done ∙ sym fits.multipliers_long))
        (g.masks ∙ fill-all j goal.masks ks masks-same (done ∙ sym fits.masks_long))
        (g.depths ∙ fill-all j goal.depths ds depths-same (done ∙ sym fits.depths_long))
      where
        done : j ≡ length cs
        done = omega (arith, g.few)

        end : from j ≡ length ms
        end = start_is_lem n ss ms held j g.few ∙ ap (λ k. edges_before k cs) done ∙ before-all cs ∙ sym (members-long n ss ms held)

    pub passing-last : checks_of t ≤ j → q ≡ passed (at s) t.checks y x
    passing-last h = passing-done (omega (arith, h, ap checks_of is)) ∙ ap (λ a. passed (at s) a.checks y x) is

    -- No proof cites this any more, since the check finds what it says.
    pub passing-long : (length q.copies ≡ length z) × (length q.offsets ≡ length y) × (length q.sums ≡ length x)
        × (length q.multipliers ≡ length bs) × (length q.masks ≡ length ks) × (length q.depths ≡ length ds)
    passing-long = (
      copies-long ∙ sym z-long,
      offsets-long ∙ sym y-long,
      g.sums.long,
      multipliers-long ∙ sym fits.multipliers_long,
      masks-long ∙ sym fits.masks_long,
      depths-long ∙ sym fits.depths_long,
    )

    module _ (h : j < length cs) where
      ordered : from j ≤ from (j + 1)
      ordered = omega (arith, start-next n ss ms held j h)

      end-in : from (j + 1) ≤ length ms
      end-in = start-in (j + 1) (omega arith)

      width : from (j + 1) - from j ≡ length (get_or cs j [])
      width = omega (arith, start-next n ss ms held j h)

      members-are : part (from j) (from (j + 1)) ms ≡ get_or cs j []
      unfolding part
      members-are = part-is n ss ms held j h

      -- the offsets of check j are still those that came in
      offsets_are : part (from j) (from (j + 1)) q.offsets ≡ take (from (j + 1) - from j) (drop (from j) y)
      unfolding part
      offsets_are = ap (λ l. take (from (j + 1) - from j) (drop (from j) l)) g.offsets
          ∙ ap (take (from (j + 1) - from j)) (fill-rest (from j) goal.offsets y)

      -- what is left of a list begins with this check's part
      begins : {A : Type 0} (l : List A) → drop (from j) l ≡ part (from j) (from (j + 1)) l ++ drop (from (j + 1)) l
      unfolding part
      begins l = sym (take-append-drop (from (j + 1) - from j) (drop (from j) l))
          ∙ ap (λ r. take (from (j + 1) - from j) (drop (from j) l) ++ r) (drop-drop (from (j + 1) - from j) (from j) l ∙ ap (λ k. drop k l) (add-sub_of_le ordered))

      room-there : Room (part (from j) (from (j + 1)) ms) q.sums
      room-there = room-first (part (from j) (from (j + 1)) ms) (drop (from (j + 1)) ms) (subst (λ l. Room l q.sums) (begins ms) g.sums.room)

      sums-size : length q.sums ≡ length s
      sums-size = g.sums.long ∙ fits.sums_long

      below-there : Below (length s) (part (from j) (from (j + 1)) ms)
      below-there = subst (λ l. Below (length s) l) (sym members-are) (subst (λ k. Below k (get_or cs j [])) (sym fits.size) (part-below n ss ms held j h))

      fits-there : OneFits j (from j) (from (j + 1)) s ms q.copies q.offsets q.sums q.multipliers q.masks q.depths
      fits-there = record {
        ordered = ordered;
        members_end = end-in;
        copies_end = omega (arith, end-in, copies-long);
        offsets_end = omega (arith, end-in, offsets-long);
        multiplier_there = omega (arith, multipliers-long);
        mask_there = omega (arith, masks-long);
        depth_there = omega (arith, depths-long);
        step = record {
          few = subst (λ l. length l ≤ max_degree) (sym members-are) (part-degree n ss ms held j h);
          below = below-there;
          copies_long = part_length (from j) (from (j + 1)) q.copies (omega (arith, end-in, copies-long)) ∙ sym (part_length (from j) (from (j + 1)) ms end-in);
          offsets_long = part_length (from j) (from (j + 1)) q.offsets (omega (arith, end-in, offsets-long)) ∙ sym (part_length (from j) (from (j + 1)) ms end-in);
          spins = fits.spins;
          offsets = subst (AllWithin offset_limit) (sym offsets_are) (take_within offset_limit (from (j + 1) - from j) (drop (from j) y) (drop-within offset_limit (from j) y fits.offsets));
          sums_long = sums-size;
          room = room-there;
        };
      }

      pub one-fits : {a : ℕ} → a ≡ from j → OneFits j a (from (j + 1)) s ms q.copies q.offsets q.sums q.multipliers q.masks q.depths
      one-fits e = subst (λ a. OneFits j a (from (j + 1)) s ms q.copies q.offsets q.sums q.multipliers q.masks q.depths) (sym e) fits-there

      values-are : values (at s) (part (from j) (from (j + 1)) ms) (part (from j) (from (j + 1)) q.offsets) ≡ values (at s) (get_or cs j []) (drop (edges_before j cs) y)
      values-are = ap₂ (values (at s)) members-are (offsets_are ∙ ap₂ (λ k a. take k (drop a y)) width (start_is_lem n ss ms held j g.few))
          ∙ values-take (at s) (get_or cs j []) (drop (edges_before j cs) y)

      stepped-is : stepped (at s) (part (from j) (from (j + 1)) ms) (part (from j) (from (j + 1)) q.offsets) q.sums
          ≡ stepped_by (part (from j) (from (j + 1)) ms) q.sums (step_at unit (at s) cs y j)
      unfolding stepped stepped_on
      stepped-is = ap (λ v. stepped_by (part (from j) (from (j + 1)) ms) q.sums (step unit v)) values-are

      -- the part of a list from start j to start j + 1
      here : (l p : List ℤ) → take (length (get_or cs j [])) (drop (edges_before j cs) l) ≡ p → p ≡ part (from j) (from (j + 1)) l
      unfolding part
      here l p e = sym e ∙ ap₂ (λ k a. take k (drop a l)) (sym width) (sym (start_is_lem n ss ms held j g.few))

      -- z − y of this check's edges
      weights-are : minus (step_at unit (at s) cs y j).copies (step_at unit (at s) cs y j).offsets ≡ part (from j) (from (j + 1)) (weights_in goal)
      unfolding passed part
      weights-are = ap₂ minus (here goal.copies _ (copies_at unit (at s) cs y j h)) (here goal.offsets _ (offsets-at unit (at s) cs y j h))
          ∙ sym (ap (take (from (j + 1) - from j)) (minus-drop (from j) goal.copies goal.offsets)
          ∙ minus-take (from (j + 1) - from j) (drop (from j) goal.copies) (drop (from j) goal.offsets))

      sums_next : Added ms (weights_in goal) x (from (j + 1)) (summed (part (from j) (from (j + 1)) ms) (step_at unit (at s) cs y j).copies (step_at unit (at s) cs y j).offsets q.sums)
      unfolding part
      sums_next = added-part (from (j + 1)) (part (from j) (from (j + 1)) ms) (minus (step_at unit (at s) cs y j).copies (step_at unit (at s) cs y j).offsets) g.sums
          (begins ms) (begins (weights_in goal) ∙ ap (λ l. l ++ drop (from (j + 1)) (weights_in goal)) (sym weights-are))
          (ap length weights-are ∙ part_length (from j) (from (j + 1)) (weights_in goal) (omega (arith, end-in, weights-long)) ∙ sym (part_length (from j) (from (j + 1)) ms end-in))
          (subst (λ k. Below k (part (from j) (from (j + 1)) ms)) (sym sums-size) below-there)
          (subst (AllWithin weight_limit) (sym weights-are) part-within)
        where
          part-within : AllWithin weight_limit (part (from j) (from (j + 1)) (weights_in goal))
          part-within = take_within weight_limit (from (j + 1) - from j) (drop (from j) (weights_in goal)) (drop-within weight_limit (from j) (weights_in goal) weights-within)

      passing-placed : Passing (at s) ss ms first (placed j (from j) (from (j + 1)) (stepped_by (part (from j) (from (j + 1)) ms) q.sums (step_at unit (at s) cs y j)) q) (j + 1)
      unfolding passed
      passing-placed = record {
        few = omega arith;
        copies = fill-part (from j) (from (j + 1)) goal.copies z q.copies _ copies-same ordered (omega (arith, end-in, z-long))
            (here goal.copies _ (copies_at unit (at s) cs y j h)) g.copies;
        offsets = fill-part (from j) (from (j + 1)) goal.offsets y q.offsets _ offsets-same ordered (omega (arith, end-in, y-long))
            (here goal.offsets _ (offsets-at unit (at s) cs y j h)) g.offsets;
        sums = sums_next;
        multipliers = fill_more j goal.multipliers bs q.multipliers _ 0 (omega (arith, multipliers-same, fits.multipliers_long)) (sym (multiplier-at unit (at s) cs y j h)) g.multipliers;
        masks = fill_more j goal.masks ks q.masks _ 0 (omega (arith, masks-same, fits.masks_long)) (sym (mask_at unit (at s) cs y j h)) g.masks;
        depths = fill_more j goal.depths ds q.depths _ 0 (omega (arith, depths-same, fits.depths_long)) (sym (depth-at unit (at s) cs y j h)) g.depths;
      }

      pub passing-next : {a : ℕ} {r : Passed} → a ≡ from j → r ≡ one_passed (at s) ms j a (from (j + 1)) q → Passing (at s) ss ms first r (j + 1)
      unfolding one_passed
      passing-next b e = subst (λ (x : Passed). Passing (at s) ss ms first x (j + 1))
          (sym (e ∙ ap (λ x. one_passed (at s) ms j x (from (j + 1)) q) b ∙ ap (λ (t : Stepped). placed j (from j) (from (j + 1)) t q) stepped-is)) passing-placed
