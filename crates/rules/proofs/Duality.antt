-- A certificate is worth what it says. For any rows on parity inequalities, any scale s and any point p with its D: s Σ l p, plus the slack that p leaves
-- in the box, is at most D · bound. So a gap of 0 is optimal over the points of the relaxation, and over the codewords, which are points; and a point
-- that does as well leaves no slack. Uses no round. Assumes nothing.
use mathlib.Core.Path.{◌≡◌, refl, sym, ◌∙◌, ap, ap₂, subst, fun_ext}
use mathlib.Core.Bool.{Bool, true, false, not}
use mathlib.Core.List.{List, [], ◌∷◌}
use Prim.Native.Nat.{ℕ, zero, suc, ◌*◌, ◌≤◌, ◌<◌}
use native.Mathlib.Omega.{arith}
use native.Mathlib.Nat.{le_of_suc-le-suc, not-suc-le-zero, le_trans}
use lib.Dec.{eqb}
use borrow.Author.Tests.{eqb-true}
use lib.ListN.{length, get_or}
use lib.IntN.{ℤ, pos, negsuc, neg_ℤ, ◌+ℤ◌, ◌-ℤ◌, ◌*ℤ◌, *ℤ-zero}
use Rattle.integers.specs.Linear.{lin, arith_z, ◌⩽◌, Within}
use Rattle.integers.specs.Order.{sub-zero, pos-le}
use Rattle.integers.specs.Product.{ring, abs, mul_mono, mul-cancel-le, *ℤ-+ℤ, *ℤ-left-comm}
use Rattle.integers.specs.Sum.{AllWithin, sum_to, sum_to-add, sum_to-zero, sum_to-times, sum_to-abs, sum_to-tight, pick, pick-one}
use Rattle.rules.specs.Table.{at, bit, bits_at, values_at}
use Rattle.rules.specs.Sound.{Below}
use Rattle.rules.specs.Parity.{turn, side, Alike, left, Keeps, agreement}
use Rattle.rules.specs.Bound.{Row, gather, weights, pull, price, reduced, bound, gap}
use Rattle.rules.proofs.CutRule.{sum-unlike}
use Rattle.rules.proofs.RoundTurns.{Even}

pub below_at : (n : ℕ) (ms : List ℕ) (k : ℕ) → k < length ms → Below n ms → get_or ms k 0 < n
below_at n [] k h b = absurd (not-suc-le-zero h)
below_at n (m ∷ ms) zero h b = b.0
below_at n (m ∷ ms) (suc k) h b = below_at n ms k (le_of_suc-le-suc h) b.1

pub below_more : (n k : ℕ) (ms : List ℕ) → n ≤ k → Below n ms → Below k ms
below_more n k [] h b = tt
below_more n k (m ∷ ms) h b = (le_trans b.0 h, below_more n k ms h b.1)

-- the row's members are bits, its set is as long, and the point keeps its inequality
pub record Kept (n d : ℕ) (P : ℕ → ℤ) (r : Row) : Type 0 where
  pub inside : Below n r.members
  pub long : Alike r.set r.members
  pub keeps : pos (2 * d) ⩽ left d r.set (values_at P r.members)

abbrev pub AllKept : ℕ → ℕ → (ℕ → ℤ) → List Row → Type 0
AllKept n d P [] = Unit {0}
AllKept n d P (r ∷ rs) = Kept n d P r × AllKept n d P rs

-- ---- what the rows put on the bits goes into the rows' values
abbrev value : (ℕ → ℤ) → List ℕ → List ℤ → ℤ
value P ms [] = pos 0
value P [] (w ∷ ws) = pos 0
value P (m ∷ ms) (w ∷ ws) = P m *ℤ w +ℤ value P ms ws

pick-times : (b : Bool) (p q w : ℤ) → (b ≡ true → p ≡ q) → p *ℤ pick b w ≡ pick b (q *ℤ w)
pick-times true p q w e = ap (λ t. t *ℤ w) (e refl)
pick-times false p q w e = *ℤ-zero p

gather-value : (n : ℕ) (P : ℕ → ℤ) (ms : List ℕ) (ws : List ℤ) → Below n ms → sum_to n (λ i. P i *ℤ gather i ms ws) ≡ value P ms ws
gather-value n P ms [] h = ap (sum_to n) (fun_ext (λ i. *ℤ-zero (P i))) ∙ sum_to-zero n
gather-value n P [] (w ∷ ws) h = ap (sum_to n) (fun_ext (λ i. *ℤ-zero (P i))) ∙ sum_to-zero n
gather-value n P (m ∷ ms) (w ∷ ws) h = ap (sum_to n) (fun_ext apart)
    ∙ sum_to-add n (λ i. pick (eqb m i) (P m *ℤ w)) (λ i. P i *ℤ gather i ms ws)
    ∙ ap₂ ◌+ℤ◌ (pick-one n m (P m *ℤ w) h.0) (gather-value n P ms ws h.1)
  where
    apart : (i : ℕ) → P i *ℤ (pick (eqb m i) w +ℤ gather i ms ws) ≡ pick (eqb m i) (P m *ℤ w) +ℤ P i *ℤ gather i ms ws
    apart i = *ℤ-+ℤ (P i) (pick (eqb m i) w) (gather i ms ws)
        ∙ ap (λ t. t +ℤ P i *ℤ gather i ms ws) (pick-times (eqb m i) (P i) (P m) w (λ e. ap P (sym (eqb-true m i e))))

-- a row's value is its multiplier times Σ σ p, which the inequality bounds
abbrev sides : List Bool → List ℤ → ℤ
sides [] ps = pos 0
sides (t ∷ ts) [] = pos 0
sides (t ∷ ts) (p ∷ ps) = side t p +ℤ sides ts ps

value_in : (b p v s : ℤ) → v ≡ b *ℤ s → p *ℤ b +ℤ v ≡ b *ℤ (p +ℤ s)
value_in b p v s = simp ring (omega arith_z)

value_out : (b p v s : ℤ) → v ≡ b *ℤ s → p *ℤ neg_ℤ b +ℤ v ≡ b *ℤ (neg_ℤ p +ℤ s)
value_out b p v s = simp ring (omega arith_z)

value-step : (b p : ℤ) (t : Bool) (v s : ℤ) → v ≡ b *ℤ s → p *ℤ side t b +ℤ v ≡ b *ℤ (side t p +ℤ s)
value-step b p true v s h = value_in b p v s h
value-step b p false v s h = value_out b p v s h

value-is : (b : ℕ) (P : ℕ → ℤ) (ms : List ℕ) (ts : List Bool) → Alike ts ms → value P ms (weights b ts) ≡ pos b *ℤ sides ts (values_at P ms)
value-is b P ms [] h = sym (*ℤ-zero (pos b))
value-is b P [] (t ∷ ts) h = absurd h
value-is b P (m ∷ ms) (t ∷ ts) h = value-step (pos b) (P m) t (value P ms (weights b ts)) (sides ts (values_at P ms)) (value-is b P ms ts h)

left_step : (d k : ℕ) (a l s : ℤ) → l ≡ pos d *ℤ pos k +ℤ s → (pos d +ℤ a) +ℤ l ≡ pos d *ℤ pos (suc k) +ℤ (a +ℤ s)
left_step d k a l s = simp ring (omega arith_z)

left_end : (d : ℕ) → pos 0 ≡ pos d *ℤ pos 0 +ℤ pos 0
left_end d = simp ring (omega arith_z)

left_is : (d : ℕ) (P : ℕ → ℤ) (ms : List ℕ) (ts : List Bool) → Alike ts ms → left d ts (values_at P ms) ≡ pos d *ℤ pos (length ms) +ℤ sides ts (values_at P ms)
left_is d P [] [] h = left_end d
left_is d P (m ∷ ms) [] h = absurd h
left_is d P [] (t ∷ ts) h = absurd h
left_is d P (m ∷ ms) (t ∷ ts) h = left_step d (length ms) (side t (P m)) (left d ts (values_at P ms)) (sides ts (values_at P ms)) (left_is d P ms ts h)

-- from 2d ≤ d k + s: −d (k − 2) ≤ s; times b
row_low : (d k : ℕ) (l s : ℤ) → pos (2 * d) ⩽ l → l ≡ pos d *ℤ pos k +ℤ s → neg_ℤ (pos d *ℤ (pos k -ℤ pos 2)) ⩽ s
row_low d k l s = simp ring (omega arith_z)

row-pays : (n d : ℕ) (P : ℕ → ℤ) (r : Row) → Kept n d P r → pos r.multiplier *ℤ neg_ℤ (pos d *ℤ (pos (length r.members) -ℤ pos 2)) ⩽ value P r.members (weights r.multiplier r.set)
row-pays n d P r h = subst (λ v. pos r.multiplier *ℤ neg_ℤ (pos d *ℤ (pos (length r.members) -ℤ pos 2)) ⩽ v) (sym (value-is r.multiplier P r.members r.set h.long))
    (mul_mono (pos r.multiplier) (neg_ℤ (pos d *ℤ (pos (length r.members) -ℤ pos 2))) (sides r.set (values_at P r.members)) (pos-le 0 r.multiplier (omega arith))
    (row_low d (length r.members) (left d r.set (values_at P r.members)) (sides r.set (values_at P r.members)) h.keeps (left_is d P r.members r.set h.long)))

rows_step : (d b k v s p : ℤ) → b *ℤ neg_ℤ (d *ℤ k) ⩽ v → neg_ℤ (d *ℤ p) ⩽ s → neg_ℤ (d *ℤ (b *ℤ k +ℤ p)) ⩽ v +ℤ s
rows_step d b k v s p = simp ring (omega arith_z)

rows_end : (d s : ℤ) → s ≡ pos 0 → neg_ℤ (d *ℤ pos 0) ⩽ s
rows_end d s = simp ring (omega arith_z)

pub rows-pay : (n d : ℕ) (P : ℕ → ℤ) (rs : List Row) → AllKept n d P rs → neg_ℤ (pos d *ℤ price rs) ⩽ sum_to n (λ i. P i *ℤ pull i rs)
rows-pay n d P [] h = rows_end (pos d) (sum_to n (λ i. P i *ℤ pos 0)) (ap (sum_to n) (fun_ext (λ i. *ℤ-zero (P i))) ∙ sum_to-zero n)
rows-pay n d P (r ∷ rs) h = subst (λ v. neg_ℤ (pos d *ℤ price (r ∷ rs)) ⩽ v) (sym apart)
    (rows_step (pos d) (pos r.multiplier) (pos (length r.members) -ℤ pos 2) (value P r.members (weights r.multiplier r.set))
    (sum_to n (λ i. P i *ℤ pull i rs)) (price rs) (row-pays n d P r h.0) (rows-pay n d P rs h.1))
  where
    apart : sum_to n (λ i. P i *ℤ pull i (r ∷ rs)) ≡ value P r.members (weights r.multiplier r.set) +ℤ sum_to n (λ i. P i *ℤ pull i rs)
    apart = ap (sum_to n) (fun_ext (λ i. *ℤ-+ℤ (P i) (gather i r.members (weights r.multiplier r.set)) (pull i rs)))
        ∙ sum_to-add n (λ i. P i *ℤ gather i r.members (weights r.multiplier r.set)) (λ i. P i *ℤ pull i rs)
        ∙ ap (λ t. t +ℤ sum_to n (λ i. P i *ℤ pull i rs)) (gather-value n P r.members (weights r.multiplier r.set) h.0.inside)

-- ---- weak duality
-- numbers from −D to D, one for each bit
abbrev pub InBox : ℕ → (ℕ → ℤ) → Type 0
InBox d P = (i : ℕ) → Within d (P i)

-- the sum of l × p
abbrev pub spin_sum : ℕ → List ℤ → (ℕ → ℤ) → ℤ
spin_sum n l P = sum_to n (λ i. at l i *ℤ P i)

both-sides : (n : ℕ) (k : ℕ) (l : List ℤ) (P : ℕ → ℤ) (rs : List Row) → sum_to n (λ i. P i *ℤ reduced k l rs i) ≡ pos k *ℤ spin_sum n l P +ℤ sum_to n (λ i. P i *ℤ pull i rs)
unfolding reduced
both-sides n k l P rs = ap (sum_to n) (fun_ext (λ i. each (P i) (pos k) (at l i) (pull i rs))) ∙ sum_to-add n (λ i. pos k *ℤ (at l i *ℤ P i)) (λ i. P i *ℤ pull i rs)
    ∙ ap (λ t. t +ℤ sum_to n (λ i. P i *ℤ pull i rs)) (sum_to-times (pos k) n (λ i. at l i *ℤ P i))
  where
    each : (p k a b : ℤ) → p *ℤ (k *ℤ a +ℤ b) ≡ k *ℤ (a *ℤ p) +ℤ p *ℤ b
    each p k a b = simp ring (omega arith_z)

-- what the numbers P leave in the box, weighed by the sizes of r: D Σ |r| − Σ P r
abbrev slack : ℕ → ℕ → (ℕ → ℤ) → (ℕ → ℤ) → ℤ
slack n d P r = pos d *ℤ sum_to n (λ i. abs (r i)) -ℤ sum_to n (λ i. P i *ℤ r i)

slack-step : (d s x y a p : ℤ) → s ≡ x +ℤ y → neg_ℤ (d *ℤ p) ⩽ y → x +ℤ (d *ℤ a -ℤ s) ⩽ d *ℤ (a +ℤ p)
slack-step d s x y a p = simp ring (omega arith_z)

-- k Σ l P + slack ≤ D · bound, in the box or not
duality : (n d k : ℕ) (l : List ℤ) (P : ℕ → ℤ) (rs : List Row) → AllKept n d P rs
    → pos k *ℤ spin_sum n l P +ℤ slack n d P (reduced k l rs) ⩽ pos d *ℤ bound n k l rs
unfolding bound
duality n d k l P rs h = slack-step (pos d) (sum_to n (λ i. P i *ℤ reduced k l rs i)) (pos k *ℤ spin_sum n l P)
    (sum_to n (λ i. P i *ℤ pull i rs)) (sum_to n (λ i. abs (reduced k l rs i))) (price rs)
    (both-sides n k l P rs) (rows-pay n d P rs h)

-- in the box the slack is never negative: k Σ l P ≤ D · bound
pub weak-duality : (n d k : ℕ) (l : List ℤ) (P : ℕ → ℤ) (rs : List Row) → InBox d P → AllKept n d P rs → pos k *ℤ spin_sum n l P ⩽ pos d *ℤ bound n k l rs
weak-duality n d k l P rs w h = without _ _ _ _ (duality n d k l P rs h) (sum_to-abs d n P (reduced k l rs) w)
  where
    without : (x a s b : ℤ) → x +ℤ (a -ℤ s) ⩽ b → s ⩽ a → x ⩽ b
    without x a s b = simp lin (omega arith_z)

-- a gap of 0: nothing agrees better
closed : (n d k : ℕ) (l : List ℤ) (rs : List Row) (w : List Bool) → gap n k l rs w ≡ pos 0 → pos d *ℤ bound n k l rs ≡ pos k *ℤ (pos d *ℤ agreement n l w)
unfolding gap
closed n d k l rs w g = ap (λ t. pos d *ℤ t) (sub-zero (bound n k l rs) (pos k *ℤ agreement n l w) g) ∙ *ℤ-left-comm (pos d) (pos k) (agreement n l w)

pub optimal : (n d k : ℕ) (l : List ℤ) (P : ℕ → ℤ) (rs : List Row) (w : List Bool) → 1 ≤ k → InBox d P → AllKept n d P rs → gap n k l rs w ≡ pos 0
    → spin_sum n l P ⩽ pos d *ℤ agreement n l w
optimal n d k l P rs w pk box h g = mul-cancel-le k (spin_sum n l P) (pos d *ℤ agreement n l w) pk
    (subst (λ v. pos k *ℤ spin_sum n l P ⩽ v) (closed n d k l rs w g) (weak-duality n d k l P rs box h))

-- and what does as well leaves no slack: each P r is D |r|
pub tight : (n d k : ℕ) (l : List ℤ) (P : ℕ → ℤ) (rs : List Row) (w : List Bool) → InBox d P → AllKept n d P rs → gap n k l rs w ≡ pos 0
    → pos d *ℤ agreement n l w ⩽ spin_sum n l P → (i : ℕ) → i < n → P i *ℤ reduced k l rs i ≡ pos d *ℤ abs (reduced k l rs i)
tight n d k l P rs w box h g e = sum_to-tight d n P (reduced k l rs) box
    (none_left _ _ _ _ _ (duality n d k l P rs h) (closed n d k l rs w g) (mul_mono (pos k) (pos d *ℤ agreement n l w) (spin_sum n l P) (pos-le 0 k (omega arith)) e))
  where
    none_left : (x a s b y : ℤ) → x +ℤ (a -ℤ s) ⩽ b → b ≡ y → y ⩽ x → a ⩽ s
    none_left x a s b y = simp lin (omega arith_z)

-- ---- codewords are points
-- a codeword's spins, with D = 1
abbrev pub spins_of : List Bool → ℕ → ℤ
spins_of c i = turn (bit c i) (pos 1)

pub spins-within : (c : List Bool) (i : ℕ) → Within 1 (spins_of c i)
spins-within c i = go (bit c i)
  where
    go : (b : Bool) → Within 1 (turn b (pos 1))
    go true = record { hi = omega arith; lo = omega arith }
    go false = record { hi = omega arith; lo = omega arith }

-- its own bits' set has left side 0
own-zero : (c : List Bool) (ms : List ℕ) → left 1 (bits_at c ms) (values_at (spins_of c) ms) ≡ pos 0
own-zero c [] = refl
own-zero c (m ∷ ms) = ap₂ ◌+ℤ◌ (go (bit c m)) (own-zero c ms)
  where
    go : (b : Bool) → pos 1 +ℤ side b (turn b (pos 1)) ≡ pos 0
    go true = refl
    go false = refl

all-within : (c : List Bool) (ms : List ℕ) → AllWithin 1 (values_at (spins_of c) ms)
all-within c [] = tt
all-within c (m ∷ ms) = (spins-within c m, all-within c ms)

alike-values : {A : Type 0} (P : ℕ → ℤ) (ts : List A) (ms : List ℕ) → Alike ts ms → Alike ts (values_at P ms)
alike-values P [] [] h = tt
alike-values P [] (m ∷ ms) h = absurd h
alike-values P (t ∷ ts) [] h = absurd h
alike-values P (t ∷ ts) (m ∷ ms) h = alike-values P ts ms h

bits-values : (c : List Bool) (P : ℕ → ℤ) (ms : List ℕ) → Alike (bits_at c ms) (values_at P ms)
bits-values c P [] = tt
bits-values c P (m ∷ ms) = bits-values c P ms

drop-zero : (a b : ℤ) (k : ℤ) → k ⩽ a +ℤ b → b ≡ pos 0 → k ⩽ a
drop-zero a b k = simp lin (omega arith_z)

pub codeword-keeps : (c : List Bool) (cs : List (List ℕ)) → Even c cs → Keeps 1 (spins_of c) cs
codeword-keeps c [] h = tt
codeword-keeps c (ms ∷ cs) h = (
  λ ts o k. drop-zero (left 1 ts (values_at (spins_of c) ms)) (left 1 (bits_at c ms) (values_at (spins_of c) ms)) (pos (2 * 1))
      (sum-unlike 1 (values_at (spins_of c) ms) ts (bits_at c ms) (all-within c ms) (alike-values (spins_of c) ts ms k) (bits-values c (spins_of c) ms) (o ∙ sym (ap not h.0)))
      (own-zero c ms),
  codeword-keeps c cs h.1,
)

pub times-turn : (b : Bool) (x : ℤ) → x *ℤ turn b (pos 1) ≡ turn b x
times-turn true x = minus_one x
  where
    minus_one : (x : ℤ) → x *ℤ negsuc 0 ≡ neg_ℤ x
    minus_one x = simp ring (omega arith_z)
times-turn false x = plain x
  where
    plain : (x : ℤ) → x *ℤ pos 1 ≡ x
    plain x = simp ring (omega arith_z)

pub agreement-is : (n : ℕ) (l : List ℤ) (c : List Bool) → spin_sum n l (spins_of c) ≡ agreement n l c
unfolding agreement
agreement-is n l c = ap (sum_to n) (fun_ext (λ i. times-turn (bit c i) (at l i)))
