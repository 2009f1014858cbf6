-- The sums of the search, by computation: document 01's first round, a search of two steps, and where the largest sum is met. Assumes nothing.
use Rattle.std.specs.Prelude.{◌≡◌, refl, true, List, [], ◌∷◌, ◌++◌, ℕ, zero, suc, ◌+◌, max, replicate, ℤ, pos, negsuc, neg_ℤ, nat_abs}
use Rattle.integers.specs.Clip.{clip_z}
use Rattle.rules.specs.Limits.{offset_limit}
use Rattle.rules.specs.Table.{Table}
use Rattle.rules.specs.Cut.{cut}
use Rattle.rules.specs.Step.{last_where, multiplier, step}
use Rattle.rules.specs.Round.{total, divided, spin, sums_of, round}
use Rattle.rules.specs.Buffers.{multipliers_of}
use Rattle.rules.specs.Run.{running, Run, limited, sound, sound_run, state_in}
use Rattle.multiplier_search.specs.Lifted.{sum_at, count_at, first_step, fall_at}
use Rattle.multiplier_search.specs.Sums.{walk_end, search_sums, round_sums}

-- ---- document 01's frame (4000, 4000, −2000), round 1: "multiplier 1968"
first_round : search_sums (pos 4000 ∷ pos 4000 ∷ negsuc 1999 ∷ [])
    -- the heights, the sum of those above 0, the depth
    ≡ pos 96 ∷ pos 96 ∷ pos 2096 ∷ pos 96 ∷ pos 192 ∷ pos 2288 ∷ pos 5904
    -- the sum of all, what it lacks of 2U, what the greatest lacks, 3 − 1, and so rounded up
    ∷ pos 96 ∷ pos 192 ∷ pos 2288 ∷ pos 5904 ∷ pos 6096 ∷ pos 2 ∷ pos 5906
    -- at the step 1968: its negative, and each height lifted, alone and with 2^20
    ∷ negsuc 1967 ∷ pos 2064 ∷ pos 1050640 ∷ negsuc 1967 ∷ pos 2064 ∷ pos 1050640 ∷ negsuc 1967 ∷ pos 4064 ∷ pos 1052640
    -- the sum of these, and nothing above 2U: the search ends
    ∷ pos 1050640 ∷ pos 2101280 ∷ pos 3153920 ∷ pos 0 ∷ []
unfolding search_sums first_step fall_at sum_at count_at cut clip_z
first_round = refl

-- ---- heights −15904, 96, 96: all three reach 2U at 7968, where the first counts for nothing, and the other two at 4000
two_steps : let hs = negsuc 15903 ∷ pos 96 ∷ pos 96 ∷ [] in (first_step hs (pos 96) ≡ 7968) × (fall_at hs 7968 ≡ 3968) × (walk_end 7968 hs 7968 3968 ≡ 4000)
unfolding first_step fall_at sum_at count_at
two_steps = (refl, refl, refl)

-- ---- a run resumed at 43's edge, 1,023 rounds done, whose three checks have the same 32 members. On check 0 all offsets are at the limit, one of them negative;
-- on checks 1 and 2 they have the opposite signs, so that each spin has the sign of its offset on check 0.
-- the greatest size
greatest : List ℤ → ℕ
greatest [] = 0
greatest (x ∷ xs) = max (nat_abs x) (greatest xs)

-- k numbers from i on
from : ℕ → ℕ → List ℕ
from i zero = []
from i (suc k) = i ∷ from (i + 1) k

table : Table
table = record { bits = 32; checks = from 0 32 ∷ from 0 32 ∷ from 0 32 ∷ [] }

-- 32 numbers of the size z, the first negated
one_turned : ℤ → List ℤ
one_turned z = neg_ℤ z ∷ replicate 31 z

limit : ℤ
limit = pos offset_limit

-- the sums of z − y are the offsets of check 0
resumed : Run
resumed = record {
  progress = record { rounds = 1023; status = running };
  buffers = record {
    spins = [];
    copies = replicate 96 (pos 0);
    offsets = one_turned limit ++ one_turned (neg_ℤ limit) ++ one_turned (neg_ℤ limit);
    sums = one_turned limit;
    multipliers = [];
    masks = [];
    depths = [];
    word = [];
    certificate = [];
  };
}

zero_frame : List ℤ
zero_frame = replicate 32 (pos 0)

-- 43 lets it pass
passes-43 : sound_run table resumed ≡ true
unfolding sound limited sums_of table resumed from one_turned limit
passes-43 = refl

-- and in its next round the largest sum is met
largest-met : greatest (round_sums table zero_frame (state_in table resumed.buffers)) ≡ 268181535
unfolding greatest round_sums search_sums first_step fall_at sum_at count_at cut clip_z spin divided total table resumed from one_turned limit zero_frame
largest-met = refl

-- its multipliers: check 0 has 32 heights of −8,380,416, which 8,380,672 lifts to 2U together
edge-multipliers : multipliers_of (round table zero_frame (state_in table resumed.buffers)).entries ≡ 8380672 ∷ 8372480 ∷ 8372480 ∷ []
unfolding round step multiplier last_where cut clip_z spin divided total table resumed from one_turned limit zero_frame
edge-multipliers = refl
