-- The lists of one check's step: how long they are, what they hold at a place, and their limits. Assumes nothing.
use mathlib.Core.Path.{◌≡◌, refl, sym, ◌∙◌, ap}
use mathlib.Core.Bool.{Bool, false}
use mathlib.Core.List.{List, [], ◌∷◌}
use Prim.Native.Nat.{ℕ, zero, suc, ◌<◌}
use native.Mathlib.Omega.{arith}
use lib.ListN.{length, get_or, take}
use lib.IntN.{ℤ, pos, ◌+ℤ◌, +ℤ_idr}
use Rattle.rules.specs.Parity.{Alike}
use Rattle.rules.specs.Table.{at}
use Rattle.rules.specs.Step.{move, moves}
use Rattle.rules.specs.Round.{values}
use Rattle.rules.proofs.Signs.{alike-length}
use Rattle.rules.proofs.Pass.{values-alike}

-- ---- v = spin + y
pub values_length : (f : ℕ → ℤ) (ms : List ℕ) (ys : List ℤ) → length (values f ms ys) ≡ length ms
values_length f ms ys = alike-length ms (values f ms ys) (values-alike f ms ys)

pub values-at : (f : ℕ → ℤ) (ms : List ℕ) (ys : List ℤ) (k : ℕ) → k < length ms → at (values f ms ys) k ≡ f (get_or ms k 0) +ℤ at ys k
values-at f [] ys k h = absurd (omega arith)
values-at f (m ∷ ms) [] zero h = sym (+ℤ_idr (f m))
values-at f (m ∷ ms) [] (suc k) h = values-at f ms [] k (omega arith) ∙ ap (λ z. f (get_or ms k 0) +ℤ z) (none-at k)
  where
    none-at : (k : ℕ) → at [] k ≡ pos 0
    none-at zero = refl
    none-at (suc k) = refl
values-at f (m ∷ ms) (y ∷ ys) zero h = refl
values-at f (m ∷ ms) (y ∷ ys) (suc k) h = values-at f ms ys k (omega arith)

-- no more offsets count than there are members
pub values-take : (f : ℕ → ℤ) (ms : List ℕ) (ys : List ℤ) → values f ms (take (length ms) ys) ≡ values f ms ys
values-take f [] ys = refl
values-take f (m ∷ ms) [] = refl
values-take f (m ∷ ms) (y ∷ ys) = ap (λ z. (f m +ℤ y) ∷ z) (values-take f ms ys)

-- ---- z, and y = v - z
pub moves-length : (u b : ℕ) (ts : List Bool) (vs : List ℤ) → Alike ts vs → length (moves u b ts vs) ≡ length vs
moves-length u b [] [] h = refl
moves-length u b [] (v ∷ vs) h = absurd h
moves-length u b (t ∷ ts) [] h = absurd h
moves-length u b (t ∷ ts) (v ∷ vs) h = ap suc (moves-length u b ts vs h)

pub moves-at : (u b : ℕ) (ts : List Bool) (vs : List ℤ) (k : ℕ) → Alike ts vs → k < length vs → at (moves u b ts vs) k ≡ move u b (get_or ts k false) (at vs k)
moves-at u b [] [] k h l = absurd (omega arith)
moves-at u b [] (v ∷ vs) k h l = absurd h
moves-at u b (t ∷ ts) [] k h l = absurd h
moves-at u b (t ∷ ts) (v ∷ vs) zero h l = refl
moves-at u b (t ∷ ts) (v ∷ vs) (suc k) h l = moves-at u b ts vs k h (omega arith)
