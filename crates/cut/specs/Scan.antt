-- One pass over a check's values: what it has of the values so far, and one value more; and what it decides. Definitions only. Assumes nothing.
use Rattle.std.specs.Prelude.{◌≡◌, cond, List, [], ◌∷◌, ℕ, ◌+◌, ◌-◌, ◌*◌, ◌%◌, ◌^◌, ◌<◌, eqb, ltb, length, set, ℤ, pos, ◌-ℤ◌}
use Rattle.std.specs.Int.Bits.{bit_xor}
use Rattle.std.specs.Int.Count.{ones}
use Rattle.std.specs.Int.Signed.{lt_z}
use Rattle.integers.specs.Linear.{up}
use Rattle.rules.specs.Limits.{unit}
use Rattle.rules.specs.Table.{at}
use Rattle.rules.specs.Mask.{digit, mask_of}
use Rattle.rules.specs.Cut.{is_neg, negatives}
use Rattle.cut.specs.Heights.{height, heights_of, higher, highest, Seen, seen_to}
use Rattle.cut.specs.declared.scan.Scan.{Scan}

-- with value k and its height
abbrev pub scanned : Scan → ℤ → ℤ → ℕ → Scan
scanned s x h k = record {
  mask = s.mask + digit (is_neg x) * 2 ^ k;
  room = s.room + up h;
  top = higher s.top h;
  place = cond (lt_z s.top h) k s.place;
}

-- a value's height on the side of its sign
abbrev pub own_height : ℤ → ℤ
own_height v = height (is_neg v) v

-- the heights as the negative values see them: U less each size
abbrev pub sights : List ℤ → List ℤ
sights vs = heights_of (negatives vs) vs

-- the sum of the heights above 0
abbrev pub rooms : List ℤ → ℕ
rooms [] = 0
rooms (h ∷ hs) = up h + rooms hs

-- place k has the greatest height
abbrev pub Highest : List ℤ → ℕ → Type 0
Highest [] k = k ≡ 0
Highest (h ∷ hs) k = (k < length (h ∷ hs)) × (at (h ∷ hs) k ≡ highest (h ∷ hs))

-- what the pass has after the values vs
pub record Scanned (vs : List ℤ) (s : Scan) : Type 0 where
  pub negative : s.mask ≡ mask_of (negatives vs)
  pub total : s.room ≡ rooms (sights vs)
  pub high : s.top ≡ highest (sights vs)
  pub peak : Highest (sights vs) s.place

-- the heights stay
abbrev pub stays : ℕ → ℕ → ℤ → List ℤ → Seen
stays m d t hs = seen_to 0 m d t hs

-- the member with the greatest height changes sides
abbrev pub changes : ℕ → Scan → List ℤ → Seen
changes d s hs = stays (bit_xor s.mask (2 ^ s.place)) d (pos (2 * unit) -ℤ s.top) (set hs s.place (pos (2 * unit) -ℤ s.top))

abbrev pub when_odd : Scan → List ℤ → Seen
when_odd s hs = stays (cond (ltb s.room (2 * unit)) s.mask 0) (2 * unit - s.room) s.top hs

-- twice the smallest size is 2U less twice the greatest height
abbrev pub when_even : Scan → List ℤ → Seen
when_even s hs = cond (ltb s.room (2 * up s.top)) (changes (2 * up s.top - s.room) s hs) (stays 0 0 s.top hs)

abbrev pub decided : Scan → List ℤ → Seen
decided s hs = cond (eqb (ones s.mask % 2) 1) (when_odd s hs) (when_even s hs)
