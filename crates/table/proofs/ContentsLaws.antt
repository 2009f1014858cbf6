-- The contents as the loops go over them: what is left from entry j on is an entry and what is left from j + 1 on. Assumes nothing.
use mathlib.Core.Path.{◌≡◌, refl, ◌∙◌, ap}
use mathlib.Core.Bool.{true, false, ◌&&◌}
use mathlib.Core.List.{List, [], ◌∷◌}
use Prim.Native.Nat.{ℕ, ◌+◌, ◌*◌, ◌-◌, ◌≤◌, ◌<◌}
use native.Mathlib.Nat.{sub-eq-zero_of_le}
use lib.Dec.{leb, eqb}
use borrow.Author.Tests.{le-leb, lt-leb, eq-eqb, ne_eqb}
use mathlib.Core.Logic.{◌≢◌}
use Rattle.integers.specs.Count.{left-more}
use Rattle.rules.specs.Limits.{max_degree}
use Rattle.rules.specs.Bytes.{u16_at}
use Rattle.rules.specs.CodeFile.{Content, content_at, contents, counts_right, starts_right, total_count}

-- what is left from entry j on
abbrev pub contents_from : List ℕ → ℕ → ℕ → List Content
contents_from file m j = contents file j (m - j)

counts-cons : (e : Content) (es : List Content) → counts_right (e ∷ es) ≡ (leb e.count max_degree && counts_right es)
unfolding counts_right
counts-cons e es = refl

starts-cons : (s : ℕ) (e : Content) (es : List Content) → starts_right s (e ∷ es) ≡ (eqb e.start s && starts_right (s + e.count) es)
unfolding starts_right
starts-cons s e es = refl

module _ (file : List ℕ) (m j : ℕ) where
  pub contents-more : j < m → contents_from file m j ≡ content_at file j ∷ contents_from file m (j + 1)
  unfolding contents
  contents-more h = ap (contents file j) (left-more j m h)

  pub contents-end : m ≤ j → contents_from file m j ≡ []
  unfolding contents
  contents-end h = ap (contents file j) (sub-eq-zero_of_le h)

  -- ---- counts
  pub counts_over : j < m → max_degree < u16_at file (6 + 4 * j) → counts_right (contents_from file m j) ≡ false
  counts_over h over =
      ap counts_right (contents-more h)
      ∙ counts-cons (content_at file j) (contents_from file m (j + 1))
      ∙ ap (λ b. b && counts_right (contents_from file m (j + 1))) (lt-leb (u16_at file (6 + 4 * j)) max_degree over)

  pub counts-more : j < m → u16_at file (6 + 4 * j) ≤ max_degree → counts_right (contents_from file m j) ≡ counts_right (contents_from file m (j + 1))
  counts-more h few =
      ap counts_right (contents-more h)
      ∙ counts-cons (content_at file j) (contents_from file m (j + 1))
      ∙ ap (λ b. b && counts_right (contents_from file m (j + 1))) (le-leb (u16_at file (6 + 4 * j)) max_degree few)

  pub counts_end : m ≤ j → counts_right (contents_from file m j) ≡ true
  unfolding counts_right
  counts_end h = ap counts_right (contents-end h)

  -- ---- starts, s being what the next one must be
  pub starts_wrong : (s : ℕ) → j < m → u16_at file (4 + 4 * j) ≢ s → starts_right s (contents_from file m j) ≡ false
  starts_wrong s h other =
      ap (starts_right s) (contents-more h)
      ∙ starts-cons s (content_at file j) (contents_from file m (j + 1))
      ∙ ap (λ b. b && starts_right (s + u16_at file (6 + 4 * j)) (contents_from file m (j + 1))) (ne_eqb (u16_at file (4 + 4 * j)) s other)

  pub starts_same : (s : ℕ) → j < m → u16_at file (4 + 4 * j) ≡ s
      → starts_right s (contents_from file m j) ≡ starts_right (s + u16_at file (6 + 4 * j)) (contents_from file m (j + 1))
  starts_same s h same =
      ap (starts_right s) (contents-more h)
      ∙ starts-cons s (content_at file j) (contents_from file m (j + 1))
      ∙ ap (λ b. b && starts_right (s + u16_at file (6 + 4 * j)) (contents_from file m (j + 1))) (eq-eqb (u16_at file (4 + 4 * j)) s same)

  pub starts-end : (s : ℕ) → m ≤ j → starts_right s (contents_from file m j) ≡ true
  unfolding starts_right
  starts-end s h = ap (starts_right s) (contents-end h)

  -- ---- the sum of counts
  pub total-more : j < m → total_count (contents_from file m j) ≡ u16_at file (6 + 4 * j) + total_count (contents_from file m (j + 1))
  unfolding total_count
  total-more h = ap total_count (contents-more h)

  pub total-end : m ≤ j → total_count (contents_from file m j) ≡ 0
  unfolding total_count
  total-end h = ap total_count (contents-end h)

-- what a loop over the checks learns of each, and at the end
pub ruleset counts_steps = (counts_over, counts-more, counts_end)

pub ruleset starts_steps = (starts_wrong, starts_same, starts-end, total-more, total-end)

pub ruleset total_steps = (total-more, total-end)

-- No proof cites this any more, since the check finds what it says.
module _ (file : List ℕ) (m j : ℕ) where
  pub starts_more : (s x d : ℕ) → j < m → x ≡ u16_at file (4 + 4 * j) → d ≡ u16_at file (6 + 4 * j)
      → starts_right s (contents_from file m j) ≡ (eqb x s && starts_right (s + d) (contents_from file m (j + 1)))
  starts_more s x d h e f = ap (starts_right s) (contents-more file m j h) ∙ starts-cons s (content_at file j) (contents_from file m (j + 1)) ∙ rw (e, f) refl
