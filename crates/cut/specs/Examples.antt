-- Document 01's two points on the three-bit check, refusals 16 and 17 on its loaded table, and refusals 3 and 41 of a check's values, by computation.
-- Assumes nothing.
use Rattle.std.specs.Prelude.{◌≡◌, refl, List, [], ◌∷◌, ℕ, replicate, ℤ, pos, negsuc, neg_ℤ}
use Rattle.std.proofs.Math.Option.{Option, some, none}
use Rattle.integers.specs.Clip.{clip_z}
use Rattle.rules.specs.Refusal.{Answer, refused, gives, must}
use Rattle.rules.specs.Input.{on_point, on_check}
use Rattle.rules.specs.Cut.{cut, depth, Violation, violation, mask_answer}
use Rattle.table.specs.Layout.{checks_from, table_of}
use Rattle.cut.specs.Heights.{seen_to, seen_on, unseen, seen}
use Rattle.cut.specs.Search.{search_on}

-- the starts 0 and 3, the members 0, 1 and 2
asked : List ℤ → ℕ → Answer (Option (Violation ℕ))
asked s j = mask_answer (search_on (table_of 3 (0 ∷ 3 ∷ []) (0 ∷ 1 ∷ 2 ∷ [])) s j)

-- "(1365, 1365, −1366) has no cut; (1365, 1365, −1367) has mask 4"
no_cut : asked (pos 1365 ∷ pos 1365 ∷ negsuc 1365 ∷ []) 0 ≡ gives none
unfolding asked checks_from on_point on_check must cut violation
no_cut = refl

mask-4 : asked (pos 1365 ∷ pos 1365 ∷ negsuc 1366 ∷ []) 0 ≡ gives (some (record { set = 4; depth = 1 }))
unfolding asked checks_from on_point on_check must cut violation
mask-4 = refl

-- what a buffer holds
sevens : ℕ → List ℤ
sevens n = replicate n (pos 7)

-- the same two points by their heights, which make 2U and one less; the buffer's fourth place stays
heights-no-cut : seen (pos 1365 ∷ pos 1365 ∷ negsuc 1365 ∷ []) (sevens 4)
    ≡ seen_to 0 0 0 (pos 2731) (pos 2731 ∷ pos 2731 ∷ pos 2730 ∷ pos 7 ∷ [])
unfolding seen seen_on cut depth clip_z sevens
heights-no-cut = refl

heights-mask-4 : seen (pos 1365 ∷ pos 1365 ∷ negsuc 1366 ∷ []) (sevens 4)
    ≡ seen_to 0 4 1 (pos 2731) (pos 2731 ∷ pos 2731 ∷ pos 2729 ∷ pos 7 ∷ [])
unfolding seen seen_on cut depth clip_z sevens
heights-mask-4 = refl

-- of (−1, 5000, −U) the first changes sides: its height rises from U − 1 to U + 1, and the second's is not clipped, but for the depth
heights-raised : seen (negsuc 0 ∷ pos 5000 ∷ negsuc 4095 ∷ []) (sevens 3) ≡ seen_to 0 4 4095 (pos 4097) (pos 4097 ∷ negsuc 903 ∷ pos 0 ∷ [])
unfolding seen seen_on cut depth clip_z sevens
heights-raised = refl

-- a buffer of one place has no room for two heights: 41, and it stays as it was; no values need no room
heights-short : seen (negsuc 4095 ∷ pos 1365 ∷ []) (pos 7 ∷ []) ≡ unseen 41 (pos 7 ∷ [])
unfolding seen
heights-short = refl

heights-of-none : seen [] [] ≡ seen_to 0 0 0 (neg_ℤ (pos 2147479552)) []
unfolding seen seen_on cut depth
heights-of-none = refl

-- 32 values are seen; 33 are refused with 3, which comes before 41
zeros : ℕ → List ℤ
zeros n = replicate n (pos 0)

heights-many : ((seen (zeros 32) (zeros 32)).number ≡ 0) × (seen (zeros 33) (zeros 33) ≡ unseen 3 (zeros 33)) × (seen (zeros 33) (pos 7 ∷ []) ≡ unseen 3 (pos 7 ∷ []))
unfolding seen seen_on zeros
heights-many = (refl, refl, refl)

-- "16 point's length or a spin. 17 check number not below m": 16 comes first
refusals : (asked (pos 0 ∷ pos 0 ∷ []) 1 ≡ refused 16) × (asked (pos 0 ∷ pos 4097 ∷ pos 0 ∷ []) 0 ≡ refused 16) × (asked (pos 0 ∷ pos 0 ∷ pos 0 ∷ []) 1 ≡ refused 17)
unfolding asked checks_from on_point on_check must
refusals = (refl, refl, refl)
