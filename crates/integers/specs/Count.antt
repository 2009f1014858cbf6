-- Counting on: the k places from i, the first of them and the rest; what is left of m from j on. Assumes nothing.
use Rattle.std.specs.Prelude.{◌≡◌, ℕ, suc, ◌+◌, ◌-◌, ◌≤◌, ◌<◌}
use Rattle.std.proofs.Common.{arith}

pub first-in : (i k n : ℕ) → i + suc k ≤ n → i < n
first-in i k n h = omega arith

pub rest_in : (i k n : ℕ) → i + suc k ≤ n → i + 1 + k ≤ n
rest_in i k n h = omega arith

pub one_on : (i k : ℕ) → i + 1 + k ≡ i + suc k
one_on i k = omega arith

pub left-more : (j m : ℕ) → j < m → m - j ≡ suc (m - (j + 1))
left-more j m h = omega arith

-- a place j from i on: there is none among no places, and if it is not i it is among the rest
pub none_left : (i j : ℕ) → i ≤ j → j < i + 0 → ⊥
none_left i j h k = omega arith

pub after_first : (i j : ℕ) → i ≤ j → (i ≡ j → ⊥) → i + 1 ≤ j
after_first i j h f = omega arith

pub before-end : (i j k : ℕ) → j < i + suc k → j < i + 1 + k
before-end i j k h = omega arith
