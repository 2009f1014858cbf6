-- How later code finds a check's members among the edges: from its start, as many as its degree. Assumes nothing.
use mathlib.Core.Path.{◌≡◌, refl, sym, ◌∙◌, ap, ap₂}
use mathlib.Core.List.{List, [], ◌∷◌, ◌++◌, append_assoc}
use Prim.Native.Nat.{ℕ, zero, suc, ◌+◌, ◌-◌, ◌<◌}
use native.Mathlib.Omega.{arith}
use native.Mathlib.Nat.{le_of_suc-le-suc, not-suc-le-zero}
use lib.ListN.{length, get_or, take, drop, length-append}
use lib.Seq.{take_at, drop_at, drop-cons}
use Rattle.rules.specs.Table.{edges}
use Rattle.table.specs.Starts.{starts_of}

-- the m starts, and E
pub starts-length : (s : ℕ) (cs : List (List ℕ)) → length (starts_of s cs) ≡ length cs + 1
unfolding starts_of
starts-length s [] = refl
starts-length s (ms ∷ cs) = ap suc (starts-length (s + length ms) cs) ∙ more (length cs)
  where
    more : (k : ℕ) → suc (k + 1) ≡ suc k + 1
    more k = omega arith

pub starts_first : (s : ℕ) (cs : List (List ℕ)) → get_or (starts_of s cs) 0 0 ≡ s
unfolding starts_of
starts_first s [] = refl
starts_first s (ms ∷ cs) = refl

-- one start more is the check's degree more
pub starts-next : (s : ℕ) (cs : List (List ℕ)) (j : ℕ) → j < length cs → get_or (starts_of s cs) (suc j) 0 ≡ get_or (starts_of s cs) j 0 + length (get_or cs j [])
unfolding starts_of
starts-next s [] j h = absurd (not-suc-le-zero h)
starts-next s (ms ∷ cs) zero h = starts_first (s + length ms) cs
starts-next s (ms ∷ cs) (suc j) h = starts-next (s + length ms) cs j (le_of_suc-le-suc h)

-- the edges from a check's start on
edges-from : (s : ℕ) (cs : List (List ℕ)) (j : ℕ) → j < length cs → (es : List ℕ) → length es ≡ s → drop (get_or (starts_of s cs) j 0) (es ++ edges cs) ≡ edges (drop j cs)
unfolding starts_of
edges-from s [] j h es e = absurd (not-suc-le-zero h)
edges-from s (ms ∷ cs) zero h es e = drop_at es (ms ++ edges cs) s e
edges-from s (ms ∷ cs) (suc j) h es e =
    ap (drop (get_or (starts_of (s + length ms) cs) j 0)) (sym (append_assoc es ms (edges cs)))
    ∙ edges-from (s + length ms) cs j (le_of_suc-le-suc h) (es ++ ms) (length-append es ms ∙ ap (λ k. k + length ms) e)

-- check j's part of the edges, from its start to the next, is its members
pub check-part : (cs : List (List ℕ)) (j : ℕ) → j < length cs
    → take (get_or (starts_of 0 cs) (suc j) 0 - get_or (starts_of 0 cs) j 0) (drop (get_or (starts_of 0 cs) j 0) (edges cs)) ≡ get_or cs j []
check-part cs j h =
    let width : get_or (starts_of 0 cs) (suc j) 0 - get_or (starts_of 0 cs) j 0 ≡ length (get_or cs j []) = omega (arith, starts-next 0 cs j h) in
    ap₂ take width (edges-from 0 cs j h [] refl ∙ ap edges (drop-cons cs j [] h))
    ∙ take_at (get_or cs j []) (edges (drop (suc j) cs)) (length (get_or cs j [])) refl
