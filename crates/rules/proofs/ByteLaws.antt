-- Little-endian numbers: what is written reads back, and where a number is read. Assumes nothing.
use mathlib.Core.Path.{◌≡◌, sym, ◌∙◌, ap, ap₂}
use mathlib.Core.List.{List}
use Prim.Native.Nat.{ℕ, ◌+◌, ◌*◌, ◌/◌, ◌%◌, ◌<◌}
use native.Mathlib.Omega.{arith}
use native.Mathlib.Nat.{add-zero}
use lib.ListN.{get_or, drop}
use lib.Seq.{get_or-drop, drop-drop}
use Rattle.rules.specs.Bytes.{u16_limit, u32_limit, u16_of, u32_of, u16_at, u32_at}

-- ---- the bytes of a number read back
pub back16 : (n : ℕ) → n < u16_limit → u16_of (n % 256) (n / 256 % 256) ≡ n
back16 n h = omega arith

pub back32 : (n : ℕ) → n < u32_limit → u32_of (n % 256) (n / 256 % 256) (n / 256 / 256 % 256) (n / 256 / 256 / 256 % 256) ≡ n
back32 n h = omega arith

-- ---- a number at byte a, by its bytes
pub u32-bytes : (bs : List ℕ) (a : ℕ) → u32_of (get_or bs a 0) (get_or bs (a + 1) 0) (get_or bs (a + 2) 0) (get_or bs (a + 3) 0) ≡ u32_at bs a
unfolding u32_at u16_at
u32-bytes bs a = ap (λ k. u32_of (get_or bs a 0) (get_or bs (a + 1) 0) (get_or bs (a + 2) 0) (get_or bs k 0)) (third a)
  where
    third : (a : ℕ) → a + 3 ≡ a + 2 + 1
    third a = omega arith

-- ---- a number at byte a is at the front of what begins there
pub reads16 : (bs : List ℕ) (a : ℕ) → u16_at bs a ≡ u16_at (drop a bs) 0
unfolding u16_at
reads16 bs a = sym (ap₂ u16_of (get_or-drop a bs 0 0 ∙ ap (λ n. get_or bs n 0) (add-zero a)) (get_or-drop a bs 1 0))

unfoldable pub front32 : List ℕ → ℕ
front32 xs = u16_at xs 0 + u16_limit * u16_at (drop 2 xs) 0

pub reads32 : (bs : List ℕ) (a : ℕ) → u32_at bs a ≡ front32 (drop a bs)
unfolding u32_at front32
reads32 bs a = ap₂ (λ x y. x + u16_limit * y) (reads16 bs a) (reads16 bs (a + 2) ∙ ap (λ l. u16_at l 0) (sym (drop-drop 2 a bs)))
