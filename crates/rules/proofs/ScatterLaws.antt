-- Weights scattered to members are the sums gathered at each bit. Assumes nothing.
use mathlib.Core.Path.{◌≡◌, refl, sym, ◌∙◌, ap, subst}
use mathlib.Core.List.{List, [], ◌∷◌}
use Prim.Native.Nat.{ℕ, ◌<◌}
use native.Mathlib.Decide.{ℕ_discrete}
use lib.Dec.{eqb}
use lib.ListN.{length, set, length-set}
use lib.Seq.{get_or-set_same, get_or-set_other}
use lib.IntN.{ℤ, pos, ◌+ℤ◌, +ℤ_idl, +ℤ_idr, +ℤ_assoc}
use borrow.Author.Tests.{eq-eqb, ne_eqb}
use Rattle.integers.specs.Sum.{pick}
use Rattle.rules.specs.Table.{at}
use Rattle.rules.specs.Bound.{Row, gather, weights, pull}
use Rattle.rules.specs.Scatter.{scatter, scatter_row, scatter_rows}

pub scatter-length : (ms : List ℕ) (ws ls : List ℤ) → length (scatter ms ws ls) ≡ length ls
scatter-length ms [] ls = refl
scatter-length [] (w ∷ ws) ls = refl
scatter-length (m ∷ ms) (w ∷ ws) ls = scatter-length ms ws (set ls m (at ls m +ℤ w)) ∙ length-set ls m (at ls m +ℤ w)

pub scatter-gather : (ms : List ℕ) (ws ls : List ℤ) (i : ℕ) → i < length ls → at (scatter ms ws ls) i ≡ at ls i +ℤ gather i ms ws
scatter-gather ms [] ls i h = sym (+ℤ_idr (at ls i))
scatter-gather [] (w ∷ ws) ls i h = sym (+ℤ_idr (at ls i))
scatter-gather (m ∷ ms) (w ∷ ws) ls i h =
    scatter-gather ms ws (set ls m (at ls m +ℤ w)) i (subst (λ n. i < n) (sym (length-set ls m (at ls m +ℤ w))) h) ∙ go (ℕ_discrete m i)
  where
    go : Dec (m ≡ i) → at (set ls m (at ls m +ℤ w)) i +ℤ gather i ms ws ≡ at ls i +ℤ (pick (eqb m i) w +ℤ gather i ms ws)
    go (yes e) =
        ap (λ z. z +ℤ gather i ms ws)
        (ap (at (set ls m (at ls m +ℤ w))) (sym e) ∙ get_or-set_same ls m (at ls m +ℤ w) (pos 0) (subst (λ z. z < length ls) (sym e) h) ∙ ap (λ z. at ls z +ℤ w) e)
        ∙ +ℤ_assoc (at ls i) w (gather i ms ws) ∙ ap (λ b. at ls i +ℤ (pick b w +ℤ gather i ms ws)) (sym (eq-eqb m i e))
    go (no f) =
        ap (λ z. z +ℤ gather i ms ws) (get_or-set_other ls m i (at ls m +ℤ w) (pos 0) (λ e. f (sym e)))
        ∙ ap (λ z. at ls i +ℤ z) (sym (+ℤ_idl (gather i ms ws))) ∙ ap (λ b. at ls i +ℤ (pick b w +ℤ gather i ms ws)) (sym (ne_eqb m i f))

-- ---- row after row
pub rows-length : (rs : List Row) (ls : List ℤ) → length (scatter_rows rs ls) ≡ length ls
rows-length [] ls = refl
rows-length (r ∷ rs) ls = rows-length rs (scatter_row r ls) ∙ scatter-length r.members (weights r.multiplier r.set) ls

pub rows-pull : (rs : List Row) (ls : List ℤ) (i : ℕ) → i < length ls → at (scatter_rows rs ls) i ≡ at ls i +ℤ pull i rs
rows-pull [] ls i h = sym (+ℤ_idr (at ls i))
rows-pull (r ∷ rs) ls i h =
    let ws = weights r.multiplier r.set in
    rows-pull rs (scatter_row r ls) i (subst (λ n. i < n) (sym (scatter-length r.members ws ls)) h)
    ∙ ap (λ z. z +ℤ pull i rs) (scatter-gather r.members ws ls i h) ∙ +ℤ_assoc (at ls i) (gather i r.members ws) (pull i rs)
