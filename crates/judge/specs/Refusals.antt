-- The refusal of a certificate, and of its entries by its number, 0 for none (document 01, "10 certificate length wrong or q too large. 11 scale. 12
-- entry's check or multiplier. 13 mask. 14 entry order"). Definitions only. Assumes nothing.
use Rattle.std.specs.Prelude.{◌≡◌, cond, ◌&&◌, List, [], ◌∷◌, ℕ, zero, suc, ◌≤◌, ltb, length}
use Rattle.std.proofs.Math.Option.{Option, some, none}
use Rattle.rules.specs.Limits.{max_entries, max_scale, max_multiplier, certificate_length}
use Rattle.rules.specs.Refusal.{Answer, gives, must, certificate_wrong, scale_range, entry_range, mask_wrong, entry_order}
use Rattle.rules.specs.Table.{Table}
use Rattle.rules.specs.Mask.{mask_right}
use Rattle.rules.specs.CodeFile.{in_range}
use Rattle.rules.specs.Certificate.{Item, item_at, members_at, follows, scale_of, length_right}
use Rattle.inputs.specs.Refusals.{or_else}

-- as long as its q entries ask
pub record Long (bs : List ℕ) (q : ℕ) : Type 0 where
  pub few : q ≤ max_entries
  pub size : length bs ≡ certificate_length q

-- 10 and 11: the certificate itself, or its refusal
abbrev pub certificate_read : List ℕ → Answer (List ℕ)
certificate_read bs = must (length_right bs) certificate_wrong (must (in_range 1 max_scale (scale_of bs)) scale_range (gives bs))

-- a table's degrees
abbrev pub degrees_of : Table → ℕ → ℕ
degrees_of t j = length (members_at t j)

-- the entry before entry k, of q
abbrev pub before_at : List ℕ → ℕ → ℕ → Option Item
before_at bs q zero = none
before_at bs q (suc k) = some (item_at bs q k)

-- 13 and 14, d the checks' degrees, p the entry before
abbrev pub mask_refusal : (ℕ → ℕ) → Option Item → Item → ℕ
mask_refusal d p i = cond (mask_right (d i.check) i.mask) (cond (follows p i) 0 entry_order) mask_wrong

-- 12 before them, of m checks
unfoldable pub item_refusal : ℕ → (ℕ → ℕ) → Option Item → Item → ℕ
item_refusal m d p i = cond (ltb i.check m && in_range 1 max_multiplier i.multiplier) (mask_refusal d p i) entry_range

unfoldable pub items_refusal : ℕ → (ℕ → ℕ) → Option Item → List Item → ℕ
items_refusal m d p [] = 0
items_refusal m d p (i ∷ is) = or_else (item_refusal m d p i) (items_refusal m d (some i) is)
