-- Bytes put one after the other are `sets`, past the end too. Assumes nothing.
use Rattle.std.proofs.Common.{◌≡◌, ℕ, suc, ◌≤◌, List, [], ◌∷◌, length, refl, ap, ◌∙◌, arith}
use native.Mathlib.Nat.{le_step}
use lib.Seq.{sets, set_out}
use mathlib.Core.Path.{sym, ap₂}
use Prim.Native.Nat.{◌+◌, ◌/◌}
use native.Mathlib.Numerals.{add-one, add-two}
use lib.ListN.{set}
use Rattle.rules.specs.Bytes.{le16, le32}

-- past the end nothing is put
pub sets-out : (l : List ℕ) (i : ℕ) (vs : List ℕ) → length l ≤ i → sets l i vs ≡ l
sets-out l i [] h = refl
sets-out l i (a ∷ vs) h = ap (λ z. sets z (suc i) vs) (set_out l i a h) ∙ sets-out l (suc i) vs (le_step h)

pub sets-none : (l : List ℕ) (i : ℕ) (vs : List ℕ) → length vs ≡ 0 → sets l i vs ≡ l
sets-none l i [] e = refl
sets-none l i (a ∷ vs) e = absurd (omega arith)

-- No proof cites these any more, since the check finds what they say.
module _ (l : List ℕ) (i : ℕ) (h : length l ≤ i) where
  pub two_out : (a b : ℕ) → l ≡ sets l i (a ∷ b ∷ [])
  two_out a b = sym (sets-out l i (a ∷ b ∷ []) h)

  pub four-out : (a b c d : ℕ) → l ≡ sets l i (a ∷ b ∷ c ∷ d ∷ [])
  four-out a b c d = sym (sets-out l i (a ∷ b ∷ c ∷ d ∷ []) h)

module _ (l l1 l2 : List ℕ) (i : ℕ) where
  pub two-put : (a b x y : ℕ) → l1 ≡ set l i a → a ≡ x → l2 ≡ set l1 (i + 1) b → b ≡ y → l2 ≡ sets l i (x ∷ y ∷ [])
  two-put a b x y e1 p1 e2 p2 = e2 ∙ ap₂ (λ m k. set m k b) (e1 ∙ ap (set l i) p1) (add-one i) ∙ ap (set (set l i x) (suc i)) p2

  pub four-put : (x : ℕ) → l1 ≡ sets l i (le16 x) → l2 ≡ sets l1 (i + 2) (le16 (x / 256 / 256)) → l2 ≡ sets l i (le32 x)
  four-put x e1 e2 = e2 ∙ ap₂ (λ m k. sets m k (le16 (x / 256 / 256))) e1 (add-two i)
