-- "File numbers are little-endian." Read and written. Definitions only. Assumes nothing.
use Rattle.std.specs.Prelude.{List, [], ◌∷◌, ℕ, ◌+◌, ◌*◌, ◌/◌, ◌%◌, get_or}

-- past every 16-bit and every 32-bit number
abbrev pub u16_limit : ℕ
u16_limit = 65536

abbrev pub u32_limit : ℕ
u32_limit = 4294967296

-- the number of two bytes, and of four
abbrev pub u16_of : ℕ → ℕ → ℕ
u16_of low high = low + 256 * high

abbrev pub u32_of : ℕ → ℕ → ℕ → ℕ → ℕ
u32_of b0 b1 b2 b3 = u16_of b0 b1 + u16_limit * u16_of b2 b3

-- the 16-bit and the 32-bit number at byte a; past the end a byte reads as 0
unfoldable pub u16_at : List ℕ → ℕ → ℕ
u16_at bs a = u16_of (get_or bs a 0) (get_or bs (a + 1) 0)

unfoldable pub u32_at : List ℕ → ℕ → ℕ
u32_at bs a = u16_at bs a + u16_limit * u16_at bs (a + 2)

abbrev pub le16 : ℕ → List ℕ
le16 n = n % 256 ∷ n / 256 % 256 ∷ []

abbrev pub le32 : ℕ → List ℕ
le32 n = n % 256 ∷ n / 256 % 256 ∷ n / 256 / 256 % 256 ∷ n / 256 / 256 / 256 % 256 ∷ []
