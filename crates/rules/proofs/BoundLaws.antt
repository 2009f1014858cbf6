-- Rows put on the numbers of a frame, member by member and row by row, within their limits; the bound and the gap that come of it. Assumes nothing.
use mathlib.Core.Path.{◌≡◌, refl, sym, ◌∙◌, ap, ap₂, subst}
use mathlib.Core.Bool.{Bool, true, false}
use mathlib.Core.List.{List, [], ◌∷◌, ◌++◌}
use Prim.Native.Nat.{ℕ, zero, suc, ◌+◌, ◌*◌, ◌/◌, ◌%◌, ◌≤◌, ◌<◌}
use native.Mathlib.Omega.{arith}
use native.Mathlib.Nat.{zero-lt-suc, suc-le-suc_iff, le-add_right}
use native.Mathlib.Numerals.{add-one}
use native.Mathlib.Decide.{ℕ_discrete}
use lib.Dec.{eqb}
use lib.ListN.{length, get_or, drop, set, length-set, drop_of_length-le}
use lib.Seq.{drop-cons, get_or-set_same, get_or-set_other}
use lib.IntN.{ℤ, pos, neg_ℤ, ◌+ℤ◌, ◌-ℤ◌, ◌*ℤ◌, +ℤ_idl, +ℤ_idr, +ℤ_assoc}
use Rattle.integers.specs.Linear.{lin, arith_z, Within}
use Rattle.integers.specs.Order.{within-zero, within_wider, within-add}
use Rattle.integers.specs.Product.{once, abs, within-*}
use Rattle.integers.specs.Sum.{AllWithin, sum_to, sum_to-same}
use Rattle.integers.specs.Signed64.{pos-within}
use Rattle.rules.specs.Limits.{frame_limit, max_degree, max_entries, max_multiplier, scaled_limit, row_limit, size_limit}
use Rattle.rules.specs.Table.{at}
use Rattle.rules.specs.Parity.{side, agreement}
use Rattle.rules.specs.Mask.{set_of}
use Rattle.rules.specs.Bound.{Row, weights, pull, price, reduced, bound, gap}
use Rattle.rules.specs.Scatter.{scatter, scatter_row, scatter_rows, row_of, price_of, EachWithin, Scaled, Reduces, MembersPut, Put, Adds, RowsPut, AllPut}
use Rattle.rules.proofs.Masks.{set-length}
use Rattle.rules.proofs.ScatterLaws.{rows-length, rows-pull}

-- ---- limits of numbers
set_at : (m n : ℕ) (ls : List ℤ) (i : ℕ) (x : ℤ) → m ≤ n → Within n x → ((j : ℕ) → Within m (at ls j)) → (j : ℕ) → Within n (at (set ls i x) j)
set_at m n [] i x h w a j = within_wider m n (at [] j) h (a j)
set_at m n (y ∷ ls) zero x h w a zero = w
set_at m n (y ∷ ls) zero x h w a (suc j) = within_wider m n (at ls j) h (a (suc j))
set_at m n (y ∷ ls) (suc i) x h w a zero = within_wider m n y h (a zero)
set_at m n (y ∷ ls) (suc i) x h w a (suc j) = set_at m n ls i x h w (λ k. a (suc k)) j

each_at : (n : ℕ) (ls : List ℤ) → ((i : ℕ) → i < length ls → Within n (at ls i)) → (i : ℕ) → Within n (at ls i)
each_at n [] h zero = within-zero n
each_at n [] h (suc i) = within-zero n
each_at n (x ∷ ls) h zero = h 0 (zero-lt-suc (length ls))
each_at n (x ∷ ls) h (suc i) = each_at n ls (λ j k. h (suc j) (suc-le-suc_iff.1 k)) i

pub each_within_lem : (n : ℕ) (ls : List ℤ) → ((i : ℕ) → i < length ls → Within n (at ls i)) → EachWithin n ls
each_within_lem n ls h = record { place = each_at n ls h }

each-wider : {m n : ℕ} {ls : List ℤ} → m ≤ n → EachWithin m ls → EachWithin n ls
each-wider {m} {n} {ls} h a = record { place = λ i. within_wider m n (at ls i) h (a.place i) }

pub side-within : {n : ℕ} (t : Bool) (b : ℕ) → b ≤ n → Within n (side t (pos b))
side-within {n} true b h = pos-within n b h
side-within {n} false b h = minus n b h
  where
    minus : (n b : ℕ) → b ≤ n → Within n (neg_ℤ (pos b))
    minus n b = simp lin (omega arith_z)

put-within : {m n : ℕ} {ls : List ℤ} {w : ℤ} (i : ℕ) → Within n w → EachWithin m ls → EachWithin (m + n) (set ls i (at ls i +ℤ w))
put-within {m} {n} {ls} {w} i hw h = record { place = set_at m (m + n) ls i (at ls i +ℤ w) (le-add_right m n) (within-add m n (at ls i) w (h.place i) hw) h.place }

-- ---- a frame
-- one number more
pub scaled-more : {s : ℕ} {l : List ℤ} (r : List ℤ) {i : ℕ} {x : ℤ} → i < length r → Scaled s l i x → ((j : ℕ) → j < i → Scaled s l j (at r j)) → (j : ℕ) → j < i + 1 → Scaled s l j (at (set r i x) j)
scaled-more {s} {l} r {i} {x} hi w h j hj = go (ℕ_discrete j i)
  where
    before : (j ≡ i → ⊥) → j < i
    before f = omega arith

    go : Dec (j ≡ i) → Scaled s l j (at (set r i x) j)
    go (yes e) = subst (λ k. Scaled s l k (at (set r i x) k)) (sym e) (subst (Scaled s l i) (sym (get_or-set_same r i x (pos 0) hi)) w)
    go (no f) = subst (Scaled s l j) (sym (get_or-set_other r i j x (pos 0) f)) (h j (before f))

-- a frame within its limits is itself at scale 1
pub frame-within : {l : List ℤ} → AllWithin frame_limit l → EachWithin scaled_limit l
frame-within {l} h = record { place = go l h }
  where
    go : (l : List ℤ) → AllWithin frame_limit l → (i : ℕ) → Within scaled_limit (at l i)
    go [] h zero = within-zero scaled_limit
    go [] h (suc i) = within-zero scaled_limit
    go (x ∷ l) h zero = within_wider frame_limit scaled_limit x (omega arith) h.0
    go (x ∷ l) h (suc i) = go l h.1 i

pub scaled-once : {l : List ℤ} → EachWithin scaled_limit l → (i : ℕ) → i < length l → Scaled 1 l i (at l i)
scaled-once {l} h i k = record { value = once (at l i); size = h.place i }

-- ---- a check's members
module _ {ms : List ℕ} {b mask : ℕ} where
  pub members-none : {ls : List ℤ} → EachWithin size_limit ls → MembersPut ms b mask ls 0 mask ls
  members-none h = record { long = refl; numbers = refl; sizes = each-wider (omega arith) h }

  module _ {ls₀ : List ℤ} {k left : ℕ} {ls : List ℤ} (p : MembersPut ms b mask ls₀ k left ls) where
    pub members-room : k < length ms → length ms ≤ max_degree → EachWithin (size_limit + row_limit) ls
    members-room h d = each-wider (omega arith) p.sizes

    pub members-end : length ms ≤ k → ls ≡ scatter_row (row_of ms b mask) ls₀
    members-end h = ap (λ l. scatter_row (row_of l b left) ls) (sym (drop_of_length-le ms h)) ∙ p.numbers

    -- the mask's lowest bit is the next member's
    pub members-more : (y : ℤ) → k < length ms → b ≤ max_multiplier → y ≡ at ls (get_or ms k 0) +ℤ side (eqb (left % 2) 1) (pos b)
        → MembersPut ms b mask ls₀ (k + 1) (left / 2) (set ls (get_or ms k 0) y)
    members-more y h hb e =
        let i = get_or ms k 0 in
        let w = side (eqb (left % 2) 1) (pos b) in
        let next : drop k ms ≡ i ∷ drop (k + 1) ms = drop-cons ms k 0 h ∙ ap (λ n. i ∷ drop n ms) (sym (add-one k)) in
        record {
          long = length-set ls i y ∙ p.long;
          numbers = ap (λ z. scatter_row (row_of (drop (k + 1) ms) b (left / 2)) (set ls i z)) e ∙ ap (λ l. scatter_row (row_of l b left) ls) (sym next) ∙ p.numbers;
          sizes = subst (λ z. EachWithin (size_limit + max_multiplier * (k + 1)) (set ls i z)) (sym e) (each-wider (omega arith) (put-within i (side-within (eqb (left % 2) 1) b hb) p.sizes));
        }

-- ---- rows
pub none-adds : Adds []
none-adds = record { sizes = λ m ls h. each-wider (omega arith) h; sum = within-zero row_limit }

scatter-within : (m n b : ℕ) (ms : List ℕ) (ts : List Bool) (ls : List ℤ) → b ≤ n → EachWithin m ls → EachWithin (m + n * length ts) (scatter ms (weights b ts) ls)
scatter-within m n b ms [] ls hb h = each-wider (le-add_right m (n * 0)) h
scatter-within m n b [] (t ∷ ts) ls hb h = each-wider (le-add_right m (n * suc (length ts))) h
scatter-within m n b (i ∷ ms) (t ∷ ts) ls hb h =
    let new = set ls i (at ls i +ℤ side t (pos b)) in
    subst (λ k. EachWithin k (scatter ms (weights b ts) new)) (regroup m n (length ts)) (scatter-within (m + n) n b ms ts new hb (put-within i (side-within t b hb) h))
  where
    regroup : (m n k : ℕ) → m + n + n * k ≡ m + n * suc k
    regroup m n k = omega arith

module _ (ms : List ℕ) (b mask : ℕ) where
  price-one : price_of b (length ms) ≡ price (row_of ms b mask ∷ [])
  price-one = sym (+ℤ_idr (price_of b (length ms)))

  pub row_put : {ls new : List ℤ} {x : ℤ} → new ≡ scatter_row (row_of ms b mask) ls → x ≡ price_of b (length ms) → Put (row_of ms b mask ∷ []) ls new x
  row_put e f = record { numbers = e; prices = f ∙ price-one }

module _ (ms : List ℕ) (b mask : ℕ) (hd : length ms ≤ max_degree) (hb : b ≤ max_multiplier) where
  row-sizes : (m : ℕ) (ls : List ℤ) → EachWithin m ls → EachWithin (m + row_limit) (scatter_row (row_of ms b mask) ls)
  row-sizes m ls h = each-wider (omega (arith, set-length (length ms) mask)) (scatter-within m max_multiplier b ms (set_of (length ms) mask) ls hb h)

  row-sum : Within row_limit (price_of b (length ms))
  row-sum = within-* max_multiplier max_degree (pos b) (pos (length ms) -ℤ pos 2) (pos-within max_multiplier b hb) (less (length ms) hd)
    where
      less : (d : ℕ) → d ≤ max_degree → Within max_degree (pos d -ℤ pos 2)
      less d = simp lin (omega arith_z)

  pub row-adds : Adds (row_of ms b mask ∷ [])
  row-adds = record { sizes = row-sizes; sum = subst (Within row_limit) (price-one ms b mask) row-sum }

rows_append : (rs rest : List Row) (ls : List ℤ) → scatter_rows (rs ++ rest) ls ≡ scatter_rows rest (scatter_rows rs ls)
rows_append [] rest ls = refl
rows_append (r ∷ rs) rest ls = rows_append rs rest (scatter_row r ls)

price-append : (rs rest : List Row) → price (rs ++ rest) ≡ price rs +ℤ price rest
price-append [] rest = sym (+ℤ_idl (price rest))
price-append (r ∷ rs) rest =
    ap (λ z. price_of r.multiplier (length r.members) +ℤ z) (price-append rs rest)
    ∙ sym (+ℤ_assoc (price_of r.multiplier (length r.members)) (price rs) (price rest))

pub rows_none : {rows : List Row} {ls : List ℤ} → EachWithin scaled_limit ls → RowsPut rows ls 0 rows ls (pos 0)
rows_none {rows} h = record { long = refl; numbers = refl; prices = +ℤ_idl (price rows); sizes = each-wider (omega arith) h; sum = within-zero (row_limit * 0) }

module _ {rows : List Row} {ls₀ : List ℤ} {k : ℕ} {left : List Row} {ls : List ℤ} {t : ℤ} (p : RowsPut rows ls₀ k left ls t) where
  pub rows-room : k ≤ max_entries → EachWithin size_limit ls
  rows-room h = each-wider (omega arith) p.sizes

  pub rows_more : (rest : List Row) {rs : List Row} {new : List ℤ} {x t' : ℤ} → Adds rs → Put rs ls new x → left ≡ rs ++ rest → t' ≡ t +ℤ x → RowsPut rows ls₀ (k + 1) rest new t'
  rows_more rest {rs} {new} {x} {t'} a put e pt =
      let sum : t' ≡ t +ℤ price rs = pt ∙ ap (λ z. t +ℤ z) put.prices in
      record {
        long = ap length put.numbers ∙ rows-length rs ls ∙ p.long;
        numbers = ap (scatter_rows rest) put.numbers ∙ sym (rows_append rs rest ls) ∙ ap (λ l. scatter_rows l ls) (sym e) ∙ p.numbers;
        prices = ap (λ z. z +ℤ price rest) sum ∙ +ℤ_assoc t (price rs) (price rest) ∙ ap (λ z. t +ℤ z) (sym (price-append rs rest) ∙ ap price (sym e)) ∙ p.prices;
        sizes = subst (EachWithin (scaled_limit + row_limit * (k + 1))) (sym put.numbers) (each-wider (omega arith) (a.sizes (scaled_limit + row_limit * k) ls p.sizes));
        sum = subst (Within (row_limit * (k + 1))) (sym sum) (one_more k t (price rs) p.sum a.sum);
      }
    where
      one_more : (k : ℕ) (t x : ℤ) → Within (row_limit * k) t → Within row_limit x → Within (row_limit * (k + 1)) (t +ℤ x)
      one_more k t x = simp lin (omega arith_z)

  pub rows_end : k ≤ max_entries → left ≡ [] → AllPut rows ls₀ ls t
  rows_end h e = record {
    put = record {
      numbers = ap (λ l. scatter_rows l ls) (sym e) ∙ p.numbers;
      prices = sym (+ℤ_idr t) ∙ ap (λ l. t +ℤ price l) (sym e) ∙ p.prices;
    };
    sizes = rows-room h;
    sum = within_wider (row_limit * k) size_limit t (omega arith) p.sum;
  }

-- ---- the bound: the sum of sizes and the sum of prices; and the gap
-- r₀ is the frame scaled, r with all rows
module _ (s : ℕ) (l : List ℤ) {r₀ r : List ℤ} {rs : List Row} {t : ℤ} (long : length r₀ ≡ length l) (h : (i : ℕ) → i < length l → Scaled s l i (at r₀ i)) (p : Put rs r₀ r t) where
  pub reduces : Reduces s l rs r
  unfolding reduced
  reduces = record {
    number = λ i k. ap (λ y. at y i) p.numbers ∙ rows-pull rs r₀ i (subst (λ n. i < n) (sym long) k) ∙ ap (λ y. y +ℤ pull i rs) (h i k).value;
  }

  pub bound-is : {x : ℤ} → x ≡ sum_to (length l) (λ i. abs (at r i)) → x +ℤ t ≡ bound (length l) s l rs
  unfolding bound
  bound-is {x} e = ap₂ ◌+ℤ◌ (e ∙ sum_to-same (length l) (λ i. abs (at r i)) (λ i. abs (reduced s l rs i)) (λ i k. ap abs (reduces.number i k))) p.prices

module _ (n s : ℕ) (l : List ℤ) (rs : List Row) (w : List Bool) where
  pub gap_is : {x y : ℤ} → x ≡ bound n s l rs → y ≡ pos s *ℤ agreement n l w → x -ℤ y ≡ gap n s l rs w
  unfolding gap
  gap_is e f = ap₂ ◌-ℤ◌ e f
