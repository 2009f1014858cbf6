-- The pass over a check's values: none, one value more. Assumes nothing.
use mathlib.Core.Path.{◌≡◌, refl, sym, ◌∙◌, ap, ap₂, subst}
use mathlib.Core.Bool.{Bool, true, false, cond}
use mathlib.Core.List.{List, [], ◌∷◌, ◌++◌}
use Prim.Native.Nat.{ℕ, suc, ◌+◌, ◌*◌, ◌%◌, ◌^◌, ◌≤◌, ◌<◌}
use native.Mathlib.Omega.{arith}
use native.Mathlib.Nat.{pow-suc, add_comm, one-mul}
use native.Mathlib.Numerals.{add-one}
use lib.Dec.{lit<}
use lib.Pow.{shl_exact}
use lib.Bits.{bit_or, or_shifted_r}
use lib.ListN.{length, take, drop, set, length-append, get_or-append}
use lib.Seq.{take-suc, get_or-append_seam, length-take-le}
use lib.IntN.{ℤ, pos}
use lib.Signed.{lt_z}
use mir.Syntax.{w32}
use mir.Val.{SFits}
use Rattle.integers.specs.Linear.{◌⩽◌, up}
use Rattle.integers.specs.Order.{nlt_z-le, up-mono}
use Rattle.rules.specs.Limits.{unit}
use Rattle.rules.specs.Table.{at}
use Rattle.rules.specs.Mask.{digit, mask_of}
use Rattle.rules.specs.Cut.{is_neg, negatives}
use Rattle.rules.specs.Buffers.{over}
use Rattle.rules.proofs.Masks.{mask_below}
use Rattle.cut.specs.declared.scan.Scan.{Scan}
use Rattle.cut.specs.Heights.{higher, highest}
use Rattle.cut.specs.Scan.{scanned, own_height, sights, rooms, Highest, Scanned}
use Rattle.cut.proofs.GatherLaws.{set_more}
use Rattle.cut.proofs.HeightLaws.{floor, is-above, higher-left, higher-right, highest-more, height-low, height-top, sights-length, sights-more}

pub negatives-length : (ss : List ℤ) → length (negatives ss) ≡ length ss
negatives-length [] = refl
negatives-length (s ∷ ss) = ap suc (negatives-length ss)

-- 1 << k at 32 bits
pub shifted_one : (k : ℕ) → k < 32 → 1 * 2 ^ k % 2 ^ 32 ≡ 2 ^ k
shifted_one k h = shl_exact 1 k 32 (lit< tt) (omega arith) ∙ one-mul (2 ^ k)

-- ---- one value more, as the code's two arms have it
abbrev scan_of : ℕ → ℕ → ℤ → ℕ → Scan
scan_of m r t k = record { mask = m; room = r; top = t; place = k }

scan-eq : (m m' r r' : ℕ) (t t' : ℤ) (k k' : ℕ) → m ≡ m' → r ≡ r' → t ≡ t' → k ≡ k' → scan_of m r t k ≡ scan_of m' r' t' k'
scan-eq m m' r r' t t' k k' p q e f = cc

module _ (s : Scan) (x h : ℤ) (k b a : ℕ) (small : s.mask < 2 ^ k) (hb : b ≡ digit (is_neg x) * 2 ^ k) (ha : a ≡ up h) (top now : ℤ) (ht : top ≡ s.top) (hn : now ≡ h) where
  put-bit : bit_or s.mask b ≡ s.mask + digit (is_neg x) * 2 ^ k
  put-bit = ap (bit_or s.mask) hb ∙ or_shifted_r (digit (is_neg x)) k s.mask small ∙ add_comm (digit (is_neg x) * 2 ^ k) s.mask

  compared : (t : Bool) → lt_z top now ≡ t → lt_z s.top h ≡ t
  compared t e = sym (ap₂ lt_z ht hn) ∙ e

  pub with-higher : lt_z top now ≡ true → scan_of (bit_or s.mask b) (s.room + a) now k ≡ scanned s x h k
  with-higher e =
      scan-eq _ _ _ _ _ _ _ _ put-bit (ap (λ n. s.room + n) ha)
      (hn ∙ ap (λ t. cond t h s.top) (sym (compared true e))) (ap (λ t. cond t k s.place) (sym (compared true e)))

  pub with-other : lt_z top now ≡ false → scan_of (bit_or s.mask b) (s.room + a) top s.place ≡ scanned s x h k
  with-other e =
      scan-eq _ _ _ _ _ _ _ _ put-bit (ap (λ n. s.room + n) ha)
      (ht ∙ ap (λ t. cond t h s.top) (sym (compared false e))) (ap (λ t. cond t k s.place) (sym (compared false e)))

-- ---- one value more, at the end
mask_step : (v t : Bool) (m p q : ℕ) → q ≡ p * 2 → digit v + 2 * (m + digit t * p) ≡ digit v + 2 * m + digit t * q
mask_step true true m p q e = omega arith
mask_step true false m p q e = omega arith
mask_step false true m p q e = omega arith
mask_step false false m p q e = omega arith

mask_first : (t : Bool) → digit t + 2 * 0 ≡ 0 + digit t * 2 ^ 0
mask_first true = refl
mask_first false = refl

mask-more : (ss : List ℤ) (z : ℤ) → mask_of (negatives (ss ++ (z ∷ []))) ≡ mask_of (negatives ss) + digit (is_neg z) * 2 ^ length ss
mask-more [] z = mask_first (is_neg z)
mask-more (s ∷ ss) z =
    ap (λ n. digit (is_neg s) + 2 * n) (mask-more ss z)
    ∙ mask_step (is_neg s) (is_neg z) (mask_of (negatives ss)) (2 ^ length ss) (2 ^ suc (length ss)) (pow-suc 2 (length ss))

rooms-more : (hs : List ℤ) (h : ℤ) → rooms (hs ++ (h ∷ [])) ≡ rooms hs + up h
rooms-more [] h = swap (up h)
  where
    swap : (n : ℕ) → n + 0 ≡ 0 + n
    swap n = omega arith
rooms-more (a ∷ hs) h = ap (λ n. up a + n) (rooms-more hs h) ∙ assoc (up a) (rooms hs) (up h)
  where
    assoc : (a b c : ℕ) → a + (b + c) ≡ a + b + c
    assoc a b c = omega arith

length_more : {A : Type 0} (xs : List A) (x : A) → length (xs ++ (x ∷ [])) ≡ suc (length xs)
length_more xs x = length-append xs (x ∷ []) ∙ add-one (length xs)

-- place k has the greatest height of a list that is not empty
abbrev Holds : List ℤ → ℕ → Type 0
Holds hs k = (k < length hs) × (at hs k ≡ highest hs)

last-highest : (hs : List ℤ) (h : ℤ) → floor ⩽ h → highest hs ⩽ h → Holds (hs ++ (h ∷ [])) (length hs)
last-highest hs h f t = (
  subst (λ n. length hs < n) (sym (length_more hs h)) (omega arith),
  get_or-append_seam hs h [] (pos 0) ∙ sym (highest-more hs h f ∙ higher-right (highest hs) h t),
)

still-highest : (hs : List ℤ) (h : ℤ) (k : ℕ) → floor ⩽ h → h ⩽ highest hs → Holds hs k → Holds (hs ++ (h ∷ [])) k
still-highest hs h k f t p = (
  subst (λ n. k < n) (sym (length_more hs h)) (omega (arith, p.0)),
  get_or-append hs (h ∷ []) (pos 0) k p.0 ∙ p.1 ∙ sym (highest-more hs h f ∙ higher-left (highest hs) h t),
)

-- the first place stays on a tie
peak-more : (hs : List ℤ) (h : ℤ) (k : ℕ) → floor ⩽ h → Highest hs k → Highest (hs ++ (h ∷ [])) (cond (lt_z (highest hs) h) (length hs) k)
peak-more [] h k f e = go (lt_z floor h)
  where
    only : Holds (h ∷ []) 0
    only = last-highest [] h f f

    go : (b : Bool) → Holds (h ∷ []) (cond b 0 k)
    go true = only
    go false = subst (Holds (h ∷ [])) (sym e) only
peak-more (a ∷ hs) h k f p = go (lt_z (highest (a ∷ hs)) h) refl
  where
    go : (b : Bool) → lt_z (highest (a ∷ hs)) h ≡ b → Holds ((a ∷ hs) ++ (h ∷ [])) (cond b (length (a ∷ hs)) k)
    go true q = last-highest (a ∷ hs) h f (is-above (highest (a ∷ hs)) h q)
    go false q = still-highest (a ∷ hs) h k f (nlt_z-le (highest (a ∷ hs)) h q) p

with-more : (vs : List ℤ) (s : Scan) (v : ℤ) → floor ⩽ own_height v → Scanned vs s → Scanned (vs ++ (v ∷ [])) (scanned s v (own_height v) (length vs))
with-more vs s v f p =
    let h = own_height v in
    let hs = sights vs in
    let next : sights (vs ++ (v ∷ [])) ≡ hs ++ (h ∷ []) = sights-more vs v in
    let peak : Highest (hs ++ (h ∷ [])) (cond (lt_z s.top h) (length vs) s.place) =
    subst (λ n. Highest (hs ++ (h ∷ [])) (cond (lt_z s.top h) n s.place)) (sights-length vs)
    (subst (λ t. Highest (hs ++ (h ∷ [])) (cond (lt_z t h) (length hs) s.place)) (sym p.high) (peak-more hs h s.place f p.peak)) in
    record {
      negative = ap (λ n. n + digit (is_neg v) * 2 ^ length vs) p.negative ∙ sym (mask-more vs v);
      total = ap (λ n. n + up h) p.total ∙ sym (ap rooms next ∙ rooms-more hs h);
      high = ap (λ t. higher t h) p.high ∙ sym (ap highest next ∙ highest-more hs h f);
      peak = subst (λ l. Highest l (cond (lt_z s.top h) (length vs) s.place)) (sym next) peak;
    }

-- ---- the loop
take_next : (v : List ℤ) (i : ℕ) → i < length v → take (i + 1) v ≡ take i v ++ (at v i ∷ [])
take_next v i h = ap (λ n. take n v) (add-one i) ∙ take-suc v i (pos 0) h

pub scanned-more : (v : List ℤ) (i : ℕ) (s r : Scan) → i < length v → SFits w32 (at v i) → Scanned (take i v) s → r ≡ scanned s (at v i) (own_height (at v i)) i
    → Scanned (take (i + 1) v) r
scanned-more v i s r h f p e =
    let x = at v i in
    let next = take_next v i h in
    let place : length (take i v) ≡ i = length-take-le i v (omega arith) in
    subst (λ l. Scanned l r) (sym next)
    (subst (Scanned (take i v ++ (x ∷ []))) (ap (scanned s x (own_height x)) place ∙ sym e)
    (with-more (take i v) s x (height-low x f) p))

-- one place more is written
over-more : {A : Type 0} (front old : List A) (z : A) (i : ℕ) → length front ≡ i → i < length old → set (over front old) i z ≡ over (front ++ (z ∷ [])) old
over-more front old z i e h =
    ap (λ n. set (front ++ drop n old) i z) e
    ∙ set_more front old z i e h
    ∙ ap (λ n. (front ++ (z ∷ [])) ++ drop n old) (sym (length_more front z ∙ ap suc e))

-- the first i heights are written
abbrev pub heights_to : ℕ → List ℤ → List ℤ → List ℤ
heights_to i v old = over (sights (take i v)) old

pub heights-more : (v old now : List ℤ) (i : ℕ) (z : ℤ) → i < length v → i < length old → z ≡ own_height (at v i) → now ≡ heights_to i v old → set now i z ≡ heights_to (i + 1) v old
heights-more v old now i z h k e q =
    let x = at v i in
    let next = take_next v i h in
    let size : length (sights (take i v)) ≡ i = sights-length (take i v) ∙ length-take-le i v (omega arith) in
    ap₂ (λ l y. set l i y) q e
    ∙ over-more (sights (take i v)) old (own_height x) i size k
    ∙ ap (λ l. over l old) (sym (ap sights next ∙ sights-more (take i v) x))

-- ---- the machine's bounds
rooms-most : (vs : List ℤ) → rooms (sights vs) ≤ unit * length vs
rooms-most [] = omega arith
rooms-most (v ∷ vs) = step (up (own_height v)) (rooms (sights vs)) (length vs) (up-mono (own_height v) (pos unit) (height-top v)) (rooms-most vs)
  where
    step : (a b n : ℕ) → a ≤ unit → b ≤ unit * n → a + b ≤ unit * suc n
    step a b n h k = omega arith

module _ (v : List ℤ) (i : ℕ) (h : i ≤ length v) (s : Scan) (p : Scanned (take i v) s) where
  pub mask_fits : s.mask < 2 ^ i
  mask_fits =
      let size : length (negatives (take i v)) ≡ i = negatives-length (take i v) ∙ length-take-le i v h in
      subst (λ m. m < 2 ^ i) (sym p.negative) (subst (λ n. mask_of (negatives (take i v)) < 2 ^ n) size (mask_below (negatives (take i v))))

  pub room_fits : s.room ≤ unit * i
  room_fits = subst (λ n. n ≤ unit * i) (sym p.total) (subst (λ n. rooms (sights (take i v)) ≤ unit * n) (length-take-le i v h) (rooms-most (take i v)))
