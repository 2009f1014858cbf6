-- Certificates as bytes, written and read (document 01, "Certificates"), with refusals 10 to 14. Definitions only. Assumes nothing.
use Rattle.std.specs.Prelude.{Bool, true, ◌&&◌, ◌||◌, List, [], ◌∷◌, ◌++◌, ℕ, zero, suc, ◌+◌, ◌*◌, leb, ltb, eqb, length, get_or, take}
use Rattle.std.proofs.Math.Option.{Option, some, none}
use Rattle.rules.specs.Limits.{max_entries, max_scale, max_multiplier, certificate_length}
use Rattle.rules.specs.Refusal.{Answer, must, certificate_wrong, scale_range, entry_range, mask_wrong, entry_order}
use Rattle.rules.specs.Bytes.{u16_at, u32_at, le16, le32}
use Rattle.rules.specs.Table.{Table, checks_of}
use Rattle.rules.specs.Mask.{mask_of, set_of, mask_right}
use Rattle.rules.specs.CodeFile.{in_range}
use Rattle.rules.specs.Step.{Entry, inactive, active}
use Rattle.rules.specs.Bound.{Row}

-- ---- written: "certificate (cuts in check order)", scale 1
abbrev pub cuts_in : List Entry → ℕ
cuts_in [] = 0
cuts_in (inactive ∷ es) = cuts_in es
cuts_in (active b ts ∷ es) = suc (cuts_in es)

-- "contents: q entries of check number (16 bits) and multiplier (32 bits)", j the first check's number
abbrev pub content_bytes : ℕ → List Entry → List ℕ
content_bytes j [] = []
content_bytes j (inactive ∷ es) = content_bytes (suc j) es
content_bytes j (active b ts ∷ es) = le16 j ++ le32 b ++ content_bytes (suc j) es

-- "bodies: q masks (32 bits)"
abbrev pub body_bytes : List Entry → List ℕ
body_bytes [] = []
body_bytes (inactive ∷ es) = body_bytes es
body_bytes (active b ts ∷ es) = le32 (mask_of ts) ++ body_bytes es

-- "q and scale S (16 bits each)"
unfoldable pub certificate_of : List Entry → List ℕ
certificate_of es = le16 (cuts_in es) ++ le16 1 ++ content_bytes 0 es ++ body_bytes es

-- ---- read
pub record Item : Type 0 where
  pub check : ℕ
  pub multiplier : ℕ
  pub mask : ℕ

abbrev pub item_at : List ℕ → ℕ → ℕ → Item
item_at bs q k = record { check = u16_at bs (4 + 6 * k); multiplier = u32_at bs (6 + 6 * k); mask = u32_at bs (4 + 6 * q + 4 * k) }

-- c items from item k on
unfoldable pub items_at : List ℕ → ℕ → ℕ → ℕ → List Item
items_at bs q k zero = []
items_at bs q k (suc c) = item_at bs q k ∷ items_at bs q (k + 1) c

abbrev pub members_at : Table → ℕ → List ℕ
members_at t j = get_or t.checks j []

-- "Entries ascend strictly by check, then mask"
unfoldable pub follows : Option Item → Item → Bool
follows none i = true
follows (some p) i = ltb p.check i.check || (eqb p.check i.check && ltb p.mask i.mask)

-- "entry by entry 12, 13, 14", p the entry before
unfoldable pub on_item : {A : Type 0} → Table → Option Item → Item → Answer A → Answer A
on_item t p i a =
    must (ltb i.check (checks_of t) && in_range 1 max_multiplier i.multiplier) entry_range
    (must (mask_right (length (members_at t i.check)) i.mask) mask_wrong
    (must (follows p i) entry_order a))

unfoldable pub on_items : {A : Type 0} → Table → Option Item → List Item → Answer A → Answer A
on_items t p [] a = a
on_items t p (i ∷ is) a = on_item t p i (on_items t (some i) is a)

abbrev pub entries_of : List ℕ → ℕ
entries_of bs = u16_at bs 0

abbrev pub scale_of : List ℕ → ℕ
scale_of bs = u16_at bs 2

abbrev pub items_of : List ℕ → List Item
items_of bs = items_at bs (entries_of bs) 0 (entries_of bs)

-- the certificate at the front of a buffer: its first 4 + 10q bytes
abbrev pub certificate_in : List ℕ → List ℕ
certificate_in bs = take (certificate_length (entries_of bs)) bs

-- q and the scale are there, q is within the limit, and the certificate is as long as q says
abbrev pub length_right : List ℕ → Bool
length_right bs = (leb 4 (length bs) && leb (entries_of bs) max_entries) && eqb (length bs) (certificate_length (entries_of bs))

-- "10 certificate length wrong or q too large. 11 scale", then the entries
unfoldable pub on_certificate : {A : Type 0} → Table → List ℕ → Answer A → Answer A
on_certificate t bs a =
    must (length_right bs) certificate_wrong
    (must (in_range 1 max_scale (scale_of bs)) scale_range
    (on_items t none (items_of bs) a))

abbrev pub row_at : Table → Item → Row
row_at t i = record { members = members_at t i.check; multiplier = i.multiplier; set = set_of (length (members_at t i.check)) i.mask }

abbrev pub rows_at : Table → List Item → List Row
rows_at t [] = []
rows_at t (i ∷ is) = row_at t i ∷ rows_at t is
