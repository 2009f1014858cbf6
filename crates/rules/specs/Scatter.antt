-- Reduced numbers, and sums of z − y, as code works them out: each row's weights, or each edge's, are added at the members, one after the other.
-- proofs/ScatterLaws says that this makes document 01's numbers, proofs/BoundLaws and proofs/SumLaws that they stay within their limits. Definitions
-- only. Assumes nothing.
use Rattle.std.specs.Prelude.{◌≡◌, List, [], ◌∷◌, ℕ, ◌+◌, ◌-◌, ◌*◌, ◌≤◌, ◌<◌, length, drop, set, ℤ, pos, ◌+ℤ◌, ◌-ℤ◌, ◌*ℤ◌}
use Rattle.integers.specs.Linear.{Within}
use Rattle.rules.specs.Limits.{max_multiplier, max_bit_degree, weight_limit, scaled_limit, row_limit, size_limit}
use Rattle.rules.specs.Table.{degree_of, at}
use Rattle.rules.specs.Mask.{set_of}
use Rattle.rules.specs.Bound.{Row, weights, price, reduced}

abbrev pub scatter : List ℕ → List ℤ → List ℤ → List ℤ
scatter ms [] ls = ls
scatter [] (w ∷ ws) ls = ls
scatter (m ∷ ms) (w ∷ ws) ls = scatter ms ws (set ls m (at ls m +ℤ w))

-- ---- sums of z − y
-- each sum has room left for its bit's edges among the members ms
pub record Room (ms : List ℕ) (ls : List ℤ) : Type 0 where
  pub few : (i : ℕ) → i < length ls → degree_of i ms ≤ max_bit_degree
  pub sizes : (i : ℕ) → i < length ls → Within (weight_limit * (max_bit_degree - degree_of i ms)) (at ls i)

-- the first k edges are added: those that are left make of the sums ls what all make of ls₀
pub record Added (ms : List ℕ) (ws ls₀ : List ℤ) (k : ℕ) (ls : List ℤ) : Type 0 where
  pub long : length ls ≡ length ls₀
  pub numbers : scatter (drop k ms) (drop k ws) ls ≡ scatter ms ws ls₀
  pub room : Room (drop k ms) ls

-- ---- rows of a bound
abbrev pub scatter_row : Row → List ℤ → List ℤ
scatter_row r ls = scatter r.members (weights r.multiplier r.set) ls

abbrev pub scatter_rows : List Row → List ℤ → List ℤ
scatter_rows [] ls = ls
scatter_rows (r ∷ rs) ls = scatter_rows rs (scatter_row r ls)

-- a check's row, of a multiplier and a mask, and its price
abbrev pub row_of : List ℕ → ℕ → ℕ → Row
row_of ms b mask = record { members = ms; multiplier = b; set = set_of (length ms) mask }

abbrev pub price_of : ℕ → ℕ → ℤ
price_of b d = pos b *ℤ (pos d -ℤ pos 2)

-- every number is between −n and n; past the end a number reads as 0
pub record EachWithin (n : ℕ) (ls : List ℤ) : Type 0 where
  pub place : (i : ℕ) → Within n (at ls i)

-- x is number i before any row: "S times l"
pub record Scaled (s : ℕ) (l : List ℤ) (i : ℕ) (x : ℤ) : Type 0 where
  pub value : x ≡ pos s *ℤ at l i
  pub size : Within scaled_limit x

-- the numbers are the reduced ones
pub record Reduces (s : ℕ) (l : List ℤ) (rs : List Row) (ls : List ℤ) : Type 0 where
  pub number : (i : ℕ) → i < length l → at ls i ≡ reduced s l rs i

-- the first k members are done: what is left of the mask, on the members from k on, makes of the numbers ls what the row makes of ls₀
pub record MembersPut (ms : List ℕ) (b mask : ℕ) (ls₀ : List ℤ) (k left : ℕ) (ls : List ℤ) : Type 0 where
  pub long : length ls ≡ length ls₀
  pub numbers : scatter_row (row_of (drop k ms) b left) ls ≡ scatter_row (row_of ms b mask) ls₀
  pub sizes : EachWithin (size_limit + max_multiplier * k) ls

-- some rows are put on: what becomes of the numbers, and the sum of prices
pub record Put (rs : List Row) (ls new : List ℤ) (x : ℤ) : Type 0 where
  pub numbers : new ≡ scatter_rows rs ls
  pub prices : x ≡ price rs

-- they add no more to a number than one row may, and cost no more
pub record Adds (rs : List Row) : Type 0 where
  pub sizes : (m : ℕ) (ls : List ℤ) → EachWithin m ls → EachWithin (m + row_limit) (scatter_rows rs ls)
  pub sum : Within row_limit (price rs)

-- k steps, of one row or none, are done: the rows that are left make of the numbers ls and the sum t of prices what all rows make of ls₀ and 0
pub record RowsPut (rows : List Row) (ls₀ : List ℤ) (k : ℕ) (left : List Row) (ls : List ℤ) (t : ℤ) : Type 0 where
  pub long : length ls ≡ length ls₀
  pub numbers : scatter_rows left ls ≡ scatter_rows rows ls₀
  pub prices : t +ℤ price left ≡ price rows
  pub sizes : EachWithin (scaled_limit + row_limit * k) ls
  pub sum : Within (row_limit * k) t

-- all rows are done
pub record AllPut (rows : List Row) (ls₀ ls : List ℤ) (t : ℤ) : Type 0 where
  pub put : Put rows ls₀ ls t
  pub sizes : EachWithin size_limit ls
  pub sum : Within size_limit t
