-- The spins at a check's members: none, one more, all. Assumes nothing.
use mathlib.Core.Path.{◌≡◌, refl, sym, ◌∙◌, ap, ap₂}
use mathlib.Core.List.{List, [], ◌∷◌, ◌++◌, append_assoc}
use Prim.Native.Nat.{ℕ, suc, ◌+◌, ◌≤◌, ◌<◌}
use native.Mathlib.Omega.{arith}
use native.Mathlib.Numerals.{add-one}
use lib.ListN.{length, get_or, take, drop, set}
use lib.Seq.{take-suc, drop-cons, set_at, length-take-le, take_all, take_at}
use lib.IntN.{ℤ}
use Rattle.rules.specs.Table.{values_at}

-- a list that is written place after place: one place more
pub set_more : {A : Type 0} (front old : List A) (z : A) (i : ℕ) → length front ≡ i → i < length old → set (front ++ drop i old) i z ≡ (front ++ (z ∷ [])) ++ drop (suc i) old
set_more front old z i e h =
    ap (λ l. set (front ++ l) i z) (drop-cons old i z h)
    ∙ set_at front (get_or old i z) (drop (suc i) old) z i e
    ∙ sym (append_assoc front (z ∷ []) (drop (suc i) old))

pub values_length : (f : ℕ → ℤ) (ms : List ℕ) → length (values_at f ms) ≡ length ms
values_length f [] = refl
values_length f (m ∷ ms) = ap suc (values_length f ms)

values-++ : (f : ℕ → ℤ) (ms ns : List ℕ) → values_at f (ms ++ ns) ≡ values_at f ms ++ values_at f ns
values-++ f [] ns = refl
values-++ f (m ∷ ms) ns = ap (λ l. f m ∷ l) (values-++ f ms ns)

-- the first k places are written
abbrev pub gathered : (ℕ → ℤ) → List ℕ → List ℤ → ℕ → List ℤ
gathered f ms vs k = values_at f (take k ms) ++ drop k vs

module _ (f : ℕ → ℤ) (ms : List ℕ) (vs : List ℤ) where
  pub gather-more : (ws : List ℤ) (k : ℕ) (z : ℤ) → k < length ms → length ms ≤ length vs → ws ≡ gathered f ms vs k → z ≡ f (get_or ms k 0) → set ws k z ≡ gathered f ms vs (k + 1)
  gather-more ws k z h g e q =
      let front = values_at f (take k ms) in
      let size : length front ≡ k = values_length f (take k ms) ∙ length-take-le k ms (omega arith) in
      let next : values_at f (take (suc k) ms) ≡ front ++ (f (get_or ms k 0) ∷ []) = ap (values_at f) (take-suc ms k 0 h) ∙ values-++ f (take k ms) (get_or ms k 0 ∷ []) in
      ap₂ (λ l x. set l k x) e q
      ∙ set_more front vs (f (get_or ms k 0)) k size (omega arith)
      ∙ ap (λ l. l ++ drop (suc k) vs) (sym next)
      ∙ ap (gathered f ms vs) (sym (add-one k))

  pub gather-all : (k : ℕ) → k ≡ length ms → gathered f ms vs k ≡ values_at f ms ++ drop (length ms) vs
  gather-all k e = ap (gathered f ms vs) e ∙ ap (λ l. values_at f l ++ drop (length ms) vs) (take_all (length ms) ms (omega arith))

-- ---- the front of the values is the members' spins
module _ (f : ℕ → ℤ) (ms : List ℕ) (vs ws : List ℤ) (e : ws ≡ values_at f ms ++ vs) where
  pub front-is : take (length ms) ws ≡ values_at f ms
  front-is = ap (take (length ms)) e ∙ take_at (values_at f ms) vs (length ms) (values_length f ms)

  pub front_length : length ms ≡ length (take (length ms) ws)
  front_length = sym (ap length front-is ∙ values_length f ms)
