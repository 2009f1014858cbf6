-- Every sum that the search for a check's multiplier forms (document 02, #108), function by function in the order of the code, from the heights to the last
-- step: sums, differences, doubles and negatives. Constants are none of them: 2U, 2^20, and the least height of a 32-bit value, from which the greatest is
-- sought. In crate `cut` they are answers that the contracts state, or the double of one. The functions that the loop of decoder/src/multiplier.rt calls ask
-- in their contracts that the sums which they form are narrow; the loop asks for the heights of a cut, and proofs/ClimbLaws has the one from the other.
-- Definitions only. Assumes nothing.
use Rattle.std.specs.Prelude.{◌≡◌, Bool, cond, List, [], ◌∷◌, ◌++◌, map, ℕ, zero, suc, ◌+◌, ◌-◌, ◌*◌, ◌^◌, ltb, length, drop, ℤ, pos, ◌+ℤ◌, ◌-ℤ◌}
use Rattle.std.proofs.Math.Option.{Option, some, none}
use Rattle.std.specs.Int.Signed.{lt_z}
use Rattle.integers.specs.Linear.{up}
use Rattle.integers.specs.Sum.{AllWithin}
use Rattle.rules.specs.Limits.{unit, max_degree}
use Rattle.rules.specs.Table.{Table, edges}
use Rattle.rules.specs.Parity.{odd}
use Rattle.rules.specs.Cut.{negatives, cut}
use Rattle.rules.specs.Step.{clips}
use Rattle.rules.specs.Round.{State, spin, values}
use Rattle.rules.specs.Run.{running, Run, state_in, iterate}
use Rattle.cut.specs.Heights.{heights_of, highest}
use Rattle.cut.specs.Scan.{sights, rooms}
use Rattle.multiplier_search.specs.Lifted.{reach, one, packed, sum_at, lack, lack_limit, first_step, fall_at}

-- "below 2^31 in size"
abbrev pub narrow_limit : ℕ
narrow_limit = 2 ^ 31 - 1

abbrev pub AllNarrow : List ℤ → Type 0
AllNarrow xs = AllWithin narrow_limit xs

-- the largest of all sums, 268,181,535: what 32 heights lack together, rounded up to the next multiple of 32 by 31 more
abbrev pub widest : ℕ
widest = lack_limit + (max_degree - 1)

-- a and the first, and the second, and so on
abbrev pub partials : ℤ → List ℤ → List ℤ
partials a [] = []
partials a (x ∷ xs) = (a +ℤ x) ∷ partials (a +ℤ x) xs

-- ---- the cut search on the values vs (cut/src/scan.rt): each height, and the sum of those above 0
abbrev pub scan_sums : List ℤ → List ℤ
scan_sums vs = sights vs ++ partials (pos 0) (map (λ h. pos (up h)) (sights vs))

-- cut/src/lib.rt: an odd number of negative values, with this sum: what it lacks of 2U
abbrev pub odd_sums : ℕ → List ℤ
odd_sums room = cond (ltb room reach) ((pos reach -ℤ pos room) ∷ []) []

-- an even number, with this greatest height: its double, what the sum lacks of that, and the height of the member that changes sides
abbrev pub even_sums : ℕ → ℤ → List ℤ
even_sums room top = pos (2 * up top) ∷ cond (ltb room (2 * up top)) ((pos (2 * up top) -ℤ pos room) ∷ (pos reach -ℤ top) ∷ []) []

abbrev pub see_sums : List ℤ → List ℤ
see_sums vs = scan_sums vs ++ cond (odd (negatives vs)) (odd_sums (rooms (sights vs))) (even_sums (rooms (sights vs)) (highest (sights vs)))

-- ---- the first step for the heights hs (decoder/src/multiplier.rt)
abbrev pub first_sums : List ℤ → ℤ → List ℤ
first_sums hs top = partials (pos 0) hs
    ++ (lack hs ∷ (pos reach -ℤ top) ∷ (pos (length hs) -ℤ pos 1) ∷ (lack hs +ℤ (pos (length hs) -ℤ pos 1)) ∷ [])

-- ---- at a step b: of one member, of all, and what they have above 2U
abbrev pub share_sums : ℕ → ℤ → List ℤ
share_sums b h = (pos 0 -ℤ pos b) ∷ cond (lt_z (pos 0 -ℤ pos b) h) ((pos b +ℤ h) ∷ (pos one +ℤ (pos b +ℤ h)) ∷ []) []

abbrev pub shares_sums : ℕ → List ℤ → List ℤ
shares_sums b [] = []
shares_sums b (h ∷ hs) = share_sums b h ++ shares_sums b hs

abbrev pub slope_sums : List ℤ → ℕ → List ℤ
slope_sums hs b = shares_sums b hs ++ partials (pos 0) (map (λ h. pos (packed b h)) hs)

abbrev pub fall_sums : List ℤ → ℕ → List ℤ
fall_sums hs b = slope_sums hs b ++ ((pos (sum_at hs b) -ℤ pos reach) ∷ [])

-- the steps after b, which falls by d: none where that is 0, else b less d, and the sums there. As b falls by 1 at least, there are b at most
abbrev pub walk_sums : ℕ → List ℤ → ℕ → ℕ → List ℤ
walk_sums zero hs b d = []
walk_sums (suc k) hs b zero = []
walk_sums (suc k) hs b (suc d) = (pos b -ℤ pos (suc d)) ∷ (fall_sums hs (b - suc d) ++ walk_sums k hs (b - suc d) (fall_at hs (b - suc d)))

-- and where they end
abbrev pub walk_end : ℕ → List ℤ → ℕ → ℕ → ℕ
walk_end zero hs b d = b
walk_end (suc k) hs b zero = b
walk_end (suc k) hs b (suc d) = walk_end k hs (b - suc d) (fall_at hs (b - suc d))

abbrev pub steps_sums : List ℤ → ℕ → List ℤ
steps_sums hs b = fall_sums hs b ++ walk_sums b hs b (fall_at hs b)

-- ---- the whole search: on the heights as a cut sees them, on a check's values, in a pass over the checks cs with the spins f and the offsets ys, in a round
abbrev pub climb_sums : List ℤ → List ℤ
climb_sums hs = first_sums hs (highest hs) ++ steps_sums hs (first_step hs (highest hs))

abbrev pub cut_sums : Option (List Bool) → List ℤ → List ℤ
cut_sums none vs = []
cut_sums (some ts) vs = climb_sums (heights_of ts vs)

unfoldable pub search_sums : List ℤ → List ℤ
search_sums vs = see_sums vs ++ cut_sums (cut unit (clips unit vs)) vs

abbrev pub pass_sums : (ℕ → ℤ) → List (List ℕ) → List ℤ → List ℤ
pass_sums f [] ys = []
pass_sums f (ms ∷ cs) ys = search_sums (values f ms ys) ++ pass_sums f cs (drop (length ms) ys)

unfoldable pub round_sums : Table → List ℤ → State → List ℤ
round_sums t l s = pass_sums (spin unit (edges t.checks) l s) t.checks s.offsets

-- in every round of a run that is running before it
abbrev pub RoundsWithin : ℕ → Table → List ℤ → Run → Type 0
RoundsWithin n t l r = (k : ℕ) → (iterate t l k r).progress.status ≡ running → AllWithin n (round_sums t l (state_in t (iterate t l k r).buffers))
