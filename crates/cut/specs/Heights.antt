-- A check's members as a set V sees them: the height of a member is its share of V's left side, not clipped. Definitions only. Assumes nothing.
use Rattle.std.specs.Prelude.{Bool, cond, List, [], ◌∷◌, ℕ, ◌-◌, ◌^◌, leb, length, ℤ, pos, neg_ℤ, ◌+ℤ◌}
use Rattle.std.proofs.Math.Option.{Option, some, none}
use Rattle.std.specs.Int.Signed.{lt_z}
use Rattle.rules.specs.Limits.{unit, max_degree}
use Rattle.rules.specs.Refusal.{count_range, buffer_short}
use Rattle.rules.specs.Parity.{side}
use Rattle.rules.specs.Cut.{negatives, cut, depth}
use Rattle.rules.specs.Step.{clips}
use Rattle.rules.specs.Buffers.{over}
use Rattle.cut.specs.CutMask.{cut_mask}

-- U + v on V, U − v elsewhere
abbrev pub height : Bool → ℤ → ℤ
height t v = pos unit +ℤ side t v

abbrev pub heights_of : List Bool → List ℤ → List ℤ
heights_of [] vs = []
heights_of (t ∷ ts) [] = []
heights_of (t ∷ ts) (v ∷ vs) = height t v ∷ heights_of ts vs

-- the least that a 32-bit value has
abbrev pub least_height : ℤ
least_height = neg_ℤ (pos (2 ^ 31 - unit))

-- the greatest; of none, the least
abbrev pub higher : ℤ → ℤ → ℤ
higher a b = cond (lt_z a b) b a

abbrev pub highest : List ℤ → ℤ
highest [] = least_height
highest (h ∷ hs) = higher h (highest hs)

-- the set that sees: the cut, or the negative values where there is none
abbrev pub side_by : Option (List Bool) → List ℤ → List Bool
side_by none v = negatives v
side_by (some ts) v = ts

-- `number` is 0, or the refusal
pub record Seen : Type 0 where
  pub number : ℕ
  pub mask : ℕ
  pub depth : ℕ
  pub top : ℤ
  pub heights : List ℤ

abbrev pub seen_to : ℕ → ℕ → ℕ → ℤ → List ℤ → Seen
seen_to k m d t hs = record { number = k; mask = m; depth = d; top = t; heights = hs }

-- the cut of the values v, and the heights as it sees them, laid over a buffer
unfoldable pub seen_on : List ℤ → List ℤ → Seen
seen_on v old = record {
  number = 0;
  mask = cut_mask (cut unit (clips unit v));
  depth = depth unit (clips unit v);
  top = highest (heights_of (side_by (cut unit (clips unit v)) v) v);
  heights = over (heights_of (side_by (cut unit (clips unit v)) v) v) old;
}

-- turned down: nothing is seen, and the buffer stays as it was
abbrev pub unseen : ℕ → List ℤ → Seen
unseen k old = seen_to k 0 0 (pos 0) old

-- 3 where the values are more than a check can have, then 41 where there is no room for each height
unfoldable pub seen : List ℤ → List ℤ → Seen
seen v old = cond (leb (length v) max_degree) (cond (leb (length v) (length old)) (seen_on v old) (unseen buffer_short old)) (unseen count_range old)
