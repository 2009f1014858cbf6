-- What a common degree says of each, and the quotients one by one. Assumes nothing.
use mathlib.Core.Path.{◌≡◌, refl, sym, ◌∙◌, ap}
use mathlib.Core.Bool.{Bool, true, false, cond}
use mathlib.Core.List.{List, [], ◌∷◌}
use Prim.Native.Nat.{ℕ, zero, suc, ◌+◌, ◌<◌}
use native.Mathlib.Nat.{le_of_suc-le-suc}
use native.Mathlib.Omega.{arith}
use lib.Dec.{eqb}
use lib.ListN.{length, get_or, set}
use lib.IntN.{ℤ, pos}
use borrow.Author.Tests.{eqb-true}
use Rattle.rules.specs.Table.{at}
use Rattle.rules.specs.Round.{divided}
use Rattle.rules.proofs.Basics.{and_first, and-rest}
use Rattle.rules.proofs.RoundSizes.{first-length, first-at}
use Rattle.rules.proofs.FillLaws.{fill, fill-at, fill_more}
use Rattle.spin.specs.Totals.{all_are, common_degree, quotients_by}

all-are-at : (d : ℕ) (ds : List ℕ) (i : ℕ) → all_are d ds ≡ true → i < length ds → get_or ds i 0 ≡ d
all-are-at d [] i e h = absurd (omega arith)
all-are-at d (x ∷ xs) zero e h = eqb-true x d (and_first (eqb x d) (all_are d xs) e)
all-are-at d (x ∷ xs) (suc i) e h = all-are-at d xs i (and-rest (eqb x d) (all_are d xs) e) (le_of_suc-le-suc h)

pub common-is : (ds : List ℕ) → all_are (get_or ds 0 0) ds ≡ true → common_degree ds ≡ get_or ds 0 0
unfolding common_degree
common-is ds e = ap (λ b. cond b (get_or ds 0 0) 0) e

pub common-differs : (ds : List ℕ) → all_are (get_or ds 0 0) ds ≡ false → common_degree ds ≡ 0
unfolding common_degree
common-differs ds e = ap (λ b. cond b (get_or ds 0 0) 0) e

-- a common degree is each bit's
pub common-at : (ds : List ℕ) (i : ℕ) → (common_degree ds ≡ 0 → ⊥) → i < length ds → get_or ds i 0 ≡ common_degree ds
common-at ds i f h = go (all_are (get_or ds 0 0) ds) refl
  where
    go : (b : Bool) → all_are (get_or ds 0 0) ds ≡ b → get_or ds i 0 ≡ common_degree ds
    go true e = all-are-at (get_or ds 0 0) ds i e h ∙ sym (common-is ds e)
    go false e = absurd (f (common-differs ds e))

pub quotients-length : (d : ℕ → ℕ) (ts : List ℤ) → length (quotients_by d ts) ≡ length ts
unfolding quotients_by
quotients-length d ts = first-length (length ts) _

pub quotients-at : (d : ℕ → ℕ) (ts : List ℤ) (i : ℕ) → i < length ts → at (quotients_by d ts) i ≡ divided (at ts i) (d i)
unfolding quotients_by
quotients-at d ts i h = first-at (length ts) _ i h

-- one more: a loop that has divided the first i divides what it reads at i
pub quotients-more : (d : ℕ → ℕ) (ts now : List ℤ) (i : ℕ) (q : ℤ)
    → i < length ts → q ≡ divided (at now i) (d i) → now ≡ fill i (quotients_by d ts) ts → set now i q ≡ fill (i + 1) (quotients_by d ts) ts
quotients-more d ts now i q h e p =
    let read : at now i ≡ at ts i = ap (λ l. at l i) p ∙ fill-at i (quotients_by d ts) ts (pos 0) in
    fill_more i (quotients_by d ts) ts now q (pos 0) (omega (arith, quotients-length d ts)) (e ∙ ap (λ t. divided t (d i)) read ∙ sym (quotients-at d ts i h)) p
