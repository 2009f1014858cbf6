-- Signed 16-bit numbers on a stream, as a frame has them, and what a reader leaves in its buffer. Definitions only. Assumes nothing.
use Rattle.std.specs.Prelude.{◌≡◌, List, [], ◌∷◌, ◌++◌, ℕ, zero, suc, ◌*◌, ◌/◌, ◌≤◌, min, length, drop, ℤ}
use Rattle.std.specs.Int.{w16}
use Rattle.std.proofs.Common.{to_z}
use Rattle.rules.specs.Limits.{max_bits}
use Rattle.rules.specs.Bytes.{u16_at}
use Rattle.rules.specs.Buffers.{over}

-- the first k numbers of little-endian bytes
unfoldable pub numbers_of : List ℕ → ℕ → List ℤ
numbers_of bs zero = []
numbers_of bs (suc k) = numbers_of bs k ++ (to_z w16 (u16_at bs (2 * k)) ∷ [])

-- how many numbers are read at once
abbrev pub numbers_at_once : ℕ
numbers_at_once = 2 * max_bits

-- the bytes read at once for so many numbers
abbrev pub bytes_for : ℕ → ℕ
bytes_for n = 2 * min n numbers_at_once

-- r of the elements are read, and what is past the n that were asked for stays
pub record Read {A : Type 0} (r n : ℕ) (new old : List A) : Type 0 where
  pub few : r ≤ n
  pub rest : drop n new ≡ drop n old

-- r bytes of numbers are read: the numbers that they make stand in front, and the others stay
pub record ReadNumbers (r : ℕ) (bytes : List ℕ) (new old : List ℤ) : Type 0 where
  pub few : r ≤ bytes_for (length old)
  pub numbers : new ≡ over (numbers_of bytes (r / 2)) old

-- and where the bytes are not shown
pub record ReadFront (r : ℕ) (new old : List ℤ) : Type 0 where
  pub few : r ≤ bytes_for (length old)
  pub rest : drop (r / 2) new ≡ drop (r / 2) old
