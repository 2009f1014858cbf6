-- A certificate's bytes read back: what a round writes is, item by item, what the round has. Assumes nothing.
use mathlib.Core.Path.{◌≡◌, refl, sym, ◌∙◌, ap, ap₂}
use mathlib.Core.Bool.{Bool}
use mathlib.Core.List.{List, [], ◌∷◌, ◌++◌, append-nil}
use Prim.Native.Nat.{ℕ, zero, suc, ◌+◌, ◌*◌, ◌≤◌, ◌<◌}
use native.Mathlib.Omega.{arith}
use native.Mathlib.Nat.{le_step, suc-le-suc_iff}
use lib.ListN.{length, drop, length-append}
use lib.Seq.{drop-drop, drop-append_seam}
use Rattle.integers.specs.Count.{first-in}
use Rattle.rules.specs.Bytes.{u16_limit, u32_limit, u16_at, le16}
use Rattle.rules.specs.Limits.{certificate_length}
use Rattle.rules.specs.Mask.{mask_of}
use Rattle.rules.specs.Step.{Entry, inactive, active}
use Rattle.rules.specs.Certificate.{cuts_in, content_bytes, body_bytes, certificate_of, Item, items_at, entries_of, scale_of, items_of}
use Rattle.rules.specs.Scaled.{at_scale}
use Rattle.rules.specs.Buffers.{multiplier_of, mask_in}
use Rattle.rules.proofs.ByteLaws.{back16, back32, front32, reads16, reads32}

-- ---- how long it is
pub cuts-few : (es : List Entry) → cuts_in es ≤ length es
cuts-few [] = omega arith
cuts-few (inactive ∷ es) = le_step (cuts-few es)
cuts-few (active b ts ∷ es) = suc-le-suc_iff.1 (cuts-few es)

six : (n : ℕ) → suc (suc (suc (suc (suc (suc (6 * n)))))) ≡ 6 * suc n
six n = omega arith

contents-long : (j : ℕ) (es : List Entry) → length (content_bytes j es) ≡ 6 * cuts_in es
contents-long j [] = refl
contents-long j (inactive ∷ es) = contents-long (suc j) es
contents-long j (active b ts ∷ es) = ap (λ n. suc (suc (suc (suc (suc (suc n)))))) (contents-long (suc j) es) ∙ six (cuts_in es)

four : (n : ℕ) → suc (suc (suc (suc (4 * n)))) ≡ 4 * suc n
four n = omega arith

bodies-long : (es : List Entry) → length (body_bytes es) ≡ 4 * cuts_in es
bodies-long [] = refl
bodies-long (inactive ∷ es) = bodies-long es
bodies-long (active b ts ∷ es) = ap (λ n. suc (suc (suc (suc n)))) (bodies-long es) ∙ four (cuts_in es)

pub certificate-length : (es : List Entry) → length (certificate_of es) ≡ certificate_length (cuts_in es)
unfolding certificate_of
certificate-length es = ap (λ n. suc (suc (suc (suc n)))) (length-append (content_bytes 0 es) (body_bytes es) ∙ ap₂ ◌+◌ (contents-long 0 es) (bodies-long es)) ∙ ten (cuts_in es)
  where
    ten : (n : ℕ) → suc (suc (suc (suc (6 * n + 4 * n)))) ≡ 4 + 10 * n
    ten n = omega arith

-- ---- its first two numbers
pub entries-written : (es : List Entry) → cuts_in es < u16_limit → entries_of (certificate_of es) ≡ cuts_in es
unfolding certificate_of u16_at
entries-written es h = back16 (cuts_in es) h

pub scale-written : (es : List Entry) → scale_of (certificate_of es) ≡ 1
unfolding certificate_of u16_at
scale-written es = refl

pub written-scale : (es : List Entry) → at_scale 1 (certificate_of es) ≡ certificate_of es
unfolding certificate_of
written-scale es = refl

-- ---- its items, read from where they stand
-- c items, their contents at xs and their masks at ys
pub items_in : ℕ → List ℕ → List ℕ → List Item
items_in zero xs ys = []
items_in (suc c) xs ys = record { check = u16_at xs 0; multiplier = front32 (drop 2 xs); mask = front32 ys } ∷ items_in c (drop 6 xs) (drop 4 ys)

item-eq : {a a' b b' c c' : ℕ} → a ≡ a' → b ≡ b' → c ≡ c' → ◌≡◌ {A = Item} (record { check = a; multiplier = b; mask = c }) (record { check = a'; multiplier = b'; mask = c' })
item-eq p q r = λ i. record { check = p i; multiplier = q i; mask = r i }

pub items-in : (bs : List ℕ) (q k c : ℕ) → items_at bs q k c ≡ items_in c (drop (4 + 6 * k) bs) (drop (4 + 6 * q + 4 * k) bs)
unfolding items_at items_in
items-in bs q k zero = refl
items-in bs q k (suc c) = ap₂ ◌∷◌
    (item-eq (reads16 bs (4 + 6 * k)) (reads32 bs (6 + 6 * k) ∙ ap front32 (ap (λ n. drop n bs) (two k) ∙ sym (drop-drop 2 (4 + 6 * k) bs))) (reads32 bs (4 + 6 * q + 4 * k)))
    (items-in bs q (k + 1) c ∙ ap₂ (items_in c) (ap (λ n. drop n bs) (next_head k) ∙ sym (drop-drop 6 (4 + 6 * k) bs)) (ap (λ n. drop n bs) (next_mask q k) ∙ sym (drop-drop 4 (4 + 6 * q + 4 * k) bs)))
  where
    two : (k : ℕ) → 6 + 6 * k ≡ 4 + 6 * k + 2
    two k = omega arith

    next_head : (k : ℕ) → 4 + 6 * (k + 1) ≡ 4 + 6 * k + 6
    next_head k = omega arith

    next_mask : (q k : ℕ) → 4 + 6 * q + 4 * (k + 1) ≡ 4 + 6 * q + 4 * k + 4
    next_mask q k = omega arith

-- ---- the items of a round
abbrev pub item_of : ℕ → ℕ → List Bool → Item
item_of j b ts = record { check = j; multiplier = b; mask = mask_of ts }

abbrev pub listed : ℕ → List Entry → List Item
listed j [] = []
listed j (inactive ∷ es) = listed (suc j) es
listed j (active b ts ∷ es) = item_of j b ts ∷ listed (suc j) es

-- multipliers and masks fit 32 bits
abbrev pub Narrow : List Entry → Type 0
Narrow [] = Unit {0}
Narrow (e ∷ es) = (multiplier_of e < u32_limit) × (mask_in e < u32_limit) × Narrow es

shift : (j n : ℕ) → j + suc n ≤ u16_limit → suc j + n ≤ u16_limit
shift j n h = omega arith

items-listed : (j : ℕ) (es : List Entry) (more rest : List ℕ) → j + length es ≤ u16_limit → Narrow es → items_in (cuts_in es) (content_bytes j es ++ more) (body_bytes es ++ rest) ≡ listed j es
unfolding items_in u16_at front32
items-listed j [] more rest h s = refl
items-listed j (inactive ∷ es) more rest h s = items-listed (suc j) es more rest (shift j (length es) h) s.2
items-listed j (active b ts ∷ es) more rest h s = ap₂ ◌∷◌ (item-eq (back16 j (first-in j (length es) u16_limit h)) (back32 b s.0) (back32 (mask_of ts) s.1))
    (items-listed (suc j) es more rest (shift j (length es) h) s.2)

pub items-written : (es : List Entry) → length es < u16_limit → Narrow es → items_of (certificate_of es) ≡ listed 0 es
unfolding certificate_of
items-written es h s = ap₂ (λ q c. items_at bs q 0 c) count count
    ∙ items-in bs (cuts_in es) 0 (cuts_in es)
    ∙ ap (items_in (cuts_in es) (content_bytes 0 es ++ body_bytes es))
    (ap (λ n. drop n bs) (heads (cuts_in es) (length (content_bytes 0 es)) (contents-long 0 es)) ∙ drop-append_seam (content_bytes 0 es) (body_bytes es) ∙ sym (append-nil (body_bytes es)))
    ∙ items-listed 0 es (body_bytes es) [] (room (length es) h) s
  where
    bs : List ℕ
    bs = le16 (cuts_in es) ++ le16 1 ++ content_bytes 0 es ++ body_bytes es

    few : (q n : ℕ) → q ≤ n → n < u16_limit → q < u16_limit
    few q n h k = omega arith

    count : entries_of bs ≡ cuts_in es
    count = entries-written es (few (cuts_in es) (length es) (cuts-few es) h)

    room : (n : ℕ) → n < u16_limit → 0 + n ≤ u16_limit
    room n h = omega arith

    heads : (q n : ℕ) → n ≡ 6 * q → 4 + 6 * q + 4 * 0 ≡ suc (suc (suc (suc n)))
    heads q n e = omega arith
