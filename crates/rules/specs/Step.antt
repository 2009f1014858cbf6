-- One check in a round: the multiplier, the depth, the new copies and the new offsets (document 01, "One round", steps 2 and 3; the depth: document 02, #101).
-- Definitions only. Assumes nothing.
use Rattle.std.specs.Prelude.{Bool, cond, List, [], ◌∷◌, ℕ, zero, suc, ◌+◌, ◌*◌, ◌^◌, ℤ, pos, ◌+ℤ◌, ◌-ℤ◌}
use Rattle.std.proofs.Math.Option.{Option, some, none}
use Rattle.std.specs.Int.Signed.{lt_z}
use Rattle.integers.specs.Clip.{clip_z}
use Rattle.rules.specs.Parity.{side, left}
use Rattle.rules.specs.Cut.{cut, depth_by}

-- "v clipped"
abbrev pub clips : ℕ → List ℤ → List ℤ
clips u [] = []
clips u (v ∷ vs) = clip_z u v ∷ clips u vs

-- "z = clip(v + b) on V, clip(v − b) elsewhere"
abbrev pub move : ℕ → ℕ → Bool → ℤ → ℤ
move u b t v = clip_z u (v +ℤ side t (pos b))

abbrev pub moves : ℕ → ℕ → List Bool → List ℤ → List ℤ
moves u b [] vs = []
moves u b (t ∷ ts) [] = []
moves u b (t ∷ ts) (v ∷ vs) = move u b t v ∷ moves u b ts vs

-- with the step b, V's inequality is not met yet
abbrev pub short : ℕ → List Bool → List ℤ → ℕ → Bool
short u ts vs b = lt_z (left u ts (moves u b ts vs)) (pos (2 * u))

-- The last number at which a test holds, digit by digit from 2 ^ (k - 1) down, so that it computes.
unfoldable pub last_where : (ℕ → Bool) → ℕ → ℕ → ℕ
last_where test zero a = a
last_where test (suc k) a = last_where test k (cond (test (a + 2 ^ k)) (a + 2 ^ k) a)

-- "the multiplier b is the least whole number for which z meets V's inequality": one more than the last at which it is not met. The search ends
-- at 2 ^ 24, which is above the limit of a multiplier and refused as such.
unfoldable pub multiplier : ℕ → List Bool → List ℤ → ℕ
multiplier u ts vs = suc (last_where (short u ts vs) 24 0)

-- "No cut: multiplier 0, mask 0", or a multiplier and its cut V
pub data Entry : Type 0 where
  inactive : Entry
  active : ℕ → List Bool → Entry

pub record Step : Type 0 where
  pub copies : List ℤ
  pub offsets : List ℤ
  pub entry : Entry
  pub depth : ℕ

abbrev pub minus : List ℤ → List ℤ → List ℤ
minus [] zs = []
minus (v ∷ vs) [] = []
minus (v ∷ vs) (z ∷ zs) = (v -ℤ z) ∷ minus vs zs

-- "New y = v − z"
abbrev pub settle : List ℤ → List ℤ → Entry → ℕ → Step
settle vs zs e d = record { copies = zs; offsets = minus vs zs; entry = e; depth = d }

-- "No cut: z = v clipped", or moved by the multiplier
abbrev pub copies_by : ℕ → List ℤ → Option (List Bool) → List ℤ
copies_by u vs none = clips u vs
copies_by u vs (some ts) = moves u (multiplier u ts vs) ts vs

-- what the check adds to the round's entries
abbrev pub entry_by : ℕ → List ℤ → Option (List Bool) → Entry
entry_by u vs none = inactive
entry_by u vs (some ts) = active (multiplier u ts vs) ts

-- the depth is that of the cut "on v clipped"
abbrev pub step_by : ℕ → List ℤ → Option (List Bool) → Step
step_by u vs o = settle vs (copies_by u vs o) (entry_by u vs o) (depth_by u (clips u vs) o)

-- "the cut search runs on v clipped"
unfoldable pub step : ℕ → List ℤ → Step
step u vs = step_by u vs (cut u (clips u vs))
