-- The rows of a round, check by check. Assumes nothing.
use mathlib.Core.Path.{◌≡◌, refl, sym, ◌∙◌, ap, ap₂, subst}
use mathlib.Core.Bool.{Bool, true, false}
use mathlib.Core.List.{List, [], ◌∷◌, ◌++◌}
use Prim.Native.Nat.{ℕ, zero, suc, ◌+◌, ◌-◌, ◌≤◌, ◌<◌}
use native.Mathlib.Omega.{arith}
use lib.Dec.{eqb}
use lib.ListN.{length, get_or, take, drop, drop_of_length-le}
use lib.IntN.{ℤ, pos}
use Rattle.rules.specs.Limits.{max_checks, max_degree, size_limit, step_limit}
use Rattle.rules.specs.Table.{Table, checks_of}
use Rattle.rules.specs.Bound.{Row}
use Rattle.rules.specs.Scatter.{row_of, EachWithin, Adds, Put}
use Rattle.rules.specs.Sound.{Below}
use Rattle.rules.proofs.BoundLaws.{none-adds, row-adds, frame-within}
use Rattle.rules.proofs.StoreLaws.{drop-next}
use Rattle.table.specs.Layout.{checks_from, table_of, Holds}
use Rattle.decoder.specs.Closing.{with_row, rows_from, rows_left, AllUpTo, RowFits, RowsFit, GapFits}
use Rattle.table.proofs.LayoutLaws.{start_is_lem, starts-long, part-is, part_in_lem, part-below, part-degree}
use borrow.Author.Tests.{eq-eqb, ne_eqb}

-- ---- a check's row, if its mask is not 0
with-adds : (t : Bool) (r : Row) → Adds (r ∷ []) → Adds (with_row t r [])
with-adds true r a = none-adds
with-adds false r a = a

with_append : (t : Bool) (r : Row) (rs : List Row) → with_row t r rs ≡ with_row t r [] ++ rs
with_append true r rs = refl
with_append false r rs = refl

-- ---- every multiplier
up-to-at : (m : ℕ) (bs : List ℕ) (j : ℕ) → AllUpTo m bs → get_or bs j 0 ≤ m
up-to-at m [] zero h = omega arith
up-to-at m [] (suc j) h = omega arith
up-to-at m (b ∷ bs) zero h = h.0
up-to-at m (b ∷ bs) (suc j) h = up-to-at m bs j h.1

-- ---- all rows
rows-cons : (ms : List ℕ) (cs : List (List ℕ)) (b : ℕ) (bs : List ℕ) (k : ℕ) (ks : List ℕ)
    → rows_from (ms ∷ cs) (b ∷ bs) (k ∷ ks) ≡ with_row (eqb k 0) (row_of ms b k) (rows_from cs bs ks)
unfolding rows_from
rows-cons ms cs b bs k ks = refl

rows_none : (bs ks : List ℕ) → rows_from [] bs ks ≡ []
unfolding rows_from
rows_none bs ks = refl

pub first-begins : {n : ℕ} {ss ms : List ℕ} → Holds n ss ms → 0 ≡ get_or ss 0 0
first-begins h = sym (start_is_lem _ _ _ h 0 (omega arith))

module _ {n : ℕ} {ss ms bs ks : List ℕ} {ls : List ℤ} {t : Table} (held : Holds n ss ms) (e : table_of n ss ms ≡ t) (f : RowsFit t bs ks ls) (j : ℕ) where
  pub rows-past : length ks ≤ j → rows_left t bs ks j ≡ []
  rows-past h =
      let past : checks_of t ≤ j = omega (arith, f.masks_long) in
      ap (λ l. rows_from l (drop j bs) (drop j ks)) (drop_of_length-le t.checks past) ∙ rows_none (drop j bs) (drop j ks)

  module _ (h : j < length ks) where
    check : j < length (checks_from ss ms)
    check = omega (arith, f.masks_long, ap checks_of e)

    pub starts-in : j + 1 < length ss
    starts-in = omega (arith, check, starts-long n ss ms held)

    pub few-rows : j + 1 ≤ max_checks
    few-rows = omega (arith, check, held.sound.checks)

    pub multiplier-in : j < length bs
    multiplier-in = omega (arith, f.masks_long, f.multipliers_long)

    small : get_or bs j 0 ≤ step_limit
    small = up-to-at step_limit bs j f.multipliers

  -- check j, whose edges begin at a
  module _ (h : j < length ks) {a : ℕ} (begins : a ≡ get_or ss j 0) where
    pub part-ends : (a ≤ get_or ss (j + 1) 0) × (get_or ss (j + 1) 0 ≤ length ms)
    part-ends = subst (λ x. (x ≤ get_or ss (j + 1) 0) × (get_or ss (j + 1) 0 ≤ length ms)) (sym begins) (part_in_lem n ss ms held j (check h))

    abbrev part : List ℕ
    part = take (get_or ss (j + 1) 0 - a) (drop a ms)

    is : part ≡ get_or (checks_from ss ms) j []
    is = ap (λ x. take (get_or ss (j + 1) 0 - x) (drop x ms)) begins ∙ part-is n ss ms held j (check h)

    few : length part ≤ max_degree
    few = subst (λ l. length l ≤ max_degree) (sym is) (part-degree n ss ms held j (check h))

    pub row_fits : {new : List ℤ} → length new ≡ length ls → EachWithin size_limit new → RowFits (get_or bs j 0) part new
    row_fits long w = record {
      small = omega (arith, small h);
      few = few;
      inside = subst (λ k. Below k part) (ap (λ x. x.bits) e ∙ sym (long ∙ f.size)) (subst (Below n) (sym is) (part-below n ss ms held j (check h)));
      sizes = w;
    }

    -- the check's row or none, and the rows after it
    abbrev pub step : List Row
    step = with_row (eqb (get_or ks j 0) 0) (row_of part (get_or bs j 0) (get_or ks j 0)) []

    pub step-adds : Adds step
    step-adds = with-adds (eqb (get_or ks j 0) 0) (row_of part (get_or bs j 0) (get_or ks j 0)) (row-adds part (get_or bs j 0) (get_or ks j 0) few (omega (arith, small h)))

    pub rows_next : rows_left t bs ks j ≡ step ++ rows_left t bs ks (j + 1)
    rows_next =
        let cs = t.checks in
        let same = is ∙ ap (λ x. get_or x.checks j []) e in
        let more : j < length cs = omega (arith, f.masks_long) in
        let b = get_or bs j 0 in
        let k = get_or ks j 0 in
        ap (λ l. rows_from l (drop j bs) (drop j ks)) (drop-next cs j [] more ∙ ap (λ l. l ∷ drop (j + 1) cs) (sym same))
        ∙ ap₂ (rows_from (part ∷ drop (j + 1) cs)) (drop-next bs j 0 (multiplier-in h)) (drop-next ks j 0 h)
        ∙ rows-cons part (drop (j + 1) cs) b (drop (j + 1) bs) k (drop (j + 1) ks)
        ∙ with_append (eqb k 0) (row_of part b k) (rows_left t bs ks (j + 1))

-- ---- the end of a round
pub rows_fit : {t : Table} {l s : List ℤ} {bs ks : List ℕ} → GapFits t l s bs ks → RowsFit t bs ks l
rows_fit f = record {
  size = f.frame_long;
  multipliers_long = f.multipliers_long;
  masks_long = f.masks_long;
  multipliers = f.multipliers;
  sizes = frame-within f.frame;
}

-- No proof cites these any more, since the check finds what they say.
-- a check's row, if its mask is not 0
module _ (r : Row) (mask : ℕ) {ls : List ℤ} where
  pub put-none : mask ≡ 0 → Put (with_row (eqb mask 0) r []) ls ls (pos 0)
  put-none e = subst (λ t. Put (with_row t r []) ls ls (pos 0)) (sym (eq-eqb mask 0 e)) (record { numbers = refl; prices = refl })

  pub put_some : {new : List ℤ} {x : ℤ} → (mask ≡ 0 → ⊥) → Put (r ∷ []) ls new x → Put (with_row (eqb mask 0) r []) ls new x
  put_some {new} {x} f = subst (λ t. Put (with_row t r []) ls new x) (sym (ne_eqb mask 0 f))
