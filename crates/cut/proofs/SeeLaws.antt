-- What the pass over a check's values decides: the cut, and the heights as it sees them. Assumes nothing.
use mathlib.Core.Path.{◌≡◌, refl, sym, ◌∙◌, ap, ap₂, subst}
use mathlib.Core.Bool.{Bool, true, false, not, cond}
use mathlib.Core.List.{List, [], ◌∷◌, ◌++◌}
use mathlib.Core.Option.{Option, none}
use Prim.Native.Nat.{ℕ, zero, suc, ◌+◌, ◌-◌, ◌*◌, ◌%◌, ◌^◌, ◌≤◌, ◌<◌}
use native.Mathlib.Decide.{dec_le}
use native.Mathlib.Omega.{arith}
use native.Mathlib.Nat.{le_of_suc-le-suc}
use lib.Bits.{bit_xor}
use lib.Count.{ones, ones-le}
use lib.Dec.{eqb, ltb}
use lib.ListN.{length, drop, set, length-append, length-set}
use lib.Seq.{set-append_left}
use lib.IntN.{ℤ, pos, negsuc, nat_abs, ◌+ℤ◌, ◌-ℤ◌}
use lib.Signed.{lt_z}
use borrow.Author.Tests.{ltb-true, ltb-false, eq-eqb, ne_eqb, lt-ltb, le-ltb, le-leb}
use Rattle.integers.specs.Linear.{lin, arith_z, ◌⩽◌, Within, up, le_out}
use Rattle.rules.specs.Limits.{unit, max_degree}
use Rattle.rules.specs.Refusal.{count_range, buffer_short}
use Rattle.rules.specs.Table.{at}
use Rattle.rules.specs.Parity.{odd, left}
use Rattle.rules.specs.Mask.{mask_of}
use Rattle.rules.specs.Cut.{negatives, is_neg, smallest, keep, cut, shortfall, depth_by, depth}
use Rattle.rules.specs.Step.{clips}
use Rattle.rules.specs.Buffers.{over}
use Rattle.rules.proofs.Steps.{clips-length, clips-within}
use Rattle.rules.proofs.Masks.{set-mask, mask_below, odd-ones}
use Rattle.rules.proofs.EmptyLaws.{empty-uncut}
use Rattle.std.specs.Prelude.{Result, Ok, Err}
use Rattle.std.specs.Result.{IsOk}
use Rattle.limits.specs.declared.refusals.Refusal.{Refusal}
use Rattle.limits.proofs.NumberLaws.{number-some}
use Rattle.cut.specs.declared.Cut.{Cut}
use Rattle.cut.specs.declared.scan.Scan.{Scan}
use Rattle.cut.specs.CutMask.{cut_mask, CutIs}
use Rattle.cut.specs.Reply.{seen_of}
use Rattle.cut.specs.Heights.{height, heights_of, highest, side_by, Seen, seen_on, unseen, seen}
use Rattle.cut.specs.Scan.{sights, Highest, Scanned, stays, changes, when_odd, when_even, decided}
use Rattle.cut.proofs.HeightLaws.{highest-set, sights-top, sights-length}
use Rattle.cut.proofs.ClipLaws.{up-less, clips-signs, clips-left, size-at, smallest-high}
use Rattle.cut.proofs.ScanLaws.{negatives-length}
use Rattle.cut.proofs.SideLaws.{change_side, change-pays, cut-odd, cut-even}
use Rattle.cut.proofs.MaskLaws.{mask-change}

seen-eq : (m m' d d' : ℕ) (t t' : ℤ) (hs hs' : List ℤ) → m ≡ m' → d ≡ d' → t ≡ t' → hs ≡ hs' → stays m d t hs ≡ stays m' d' t' hs'
seen-eq m m' d d' t t' hs hs' p k q r = cc

-- ---- a set of odd size that is kept below 2U, and its depth
ones-some : (m : ℕ) → ones m % 2 ≡ 1 → m ≡ 0 → ⊥
ones-some m o z = omega (arith, ones-le 0 m (omega arith))

module _ (m k r : ℕ) (e : k ≡ cond (ltb r (2 * unit)) m 0) where
  pub kept-below : (k ≡ 0 → ⊥) → r < 2 * unit
  kept-below f = go (ltb r (2 * unit)) refl e
    where
      go : (b : Bool) → ltb r (2 * unit) ≡ b → k ≡ cond b m 0 → r < 2 * unit
      go true p q = ltb-true r (2 * unit) p
      go false p q = absurd (f q)

  kept-depth : (d : ℕ) → (m ≡ 0 → ⊥) → d ≡ cond (eqb k 0) 0 (2 * unit - r) → d ≡ 2 * unit - r
  kept-depth d f h = go (ltb r (2 * unit)) refl e
    where
      go : (b : Bool) → ltb r (2 * unit) ≡ b → k ≡ cond b m 0 → d ≡ 2 * unit - r
      go true p q = h ∙ ap (λ b. cond b 0 (2 * unit - r)) (ne_eqb k 0 (λ z. f (sym q ∙ z)))
      go false p q = h ∙ ap (λ b. cond b 0 (2 * unit - r)) (eq-eqb k 0 q) ∙ omega (arith, ltb-false r (2 * unit) p)

-- ---- as the code's arms have it
module _ (s : Scan) (hs : List ℤ) where
  pub decided-odd : (m d : ℕ) (t : ℤ) → ones s.mask % 2 ≡ 1 → m ≡ cond (ltb s.room (2 * unit)) s.mask 0 → d ≡ cond (eqb m 0) 0 (2 * unit - s.room) → t ≡ s.top
      → stays m d t hs ≡ decided s hs
  decided-odd m d t o e k p = seen-eq _ _ _ _ _ _ _ _ e (kept-depth s.mask m s.room e d (ones-some s.mask o) k) p refl
      ∙ ap (λ b. cond b (when_odd s hs) (when_even s hs)) (sym (eq-eqb (ones s.mask % 2) 1 o))

  decided-even : (b : Bool) → (ones s.mask % 2 ≡ 1 → ⊥) → ltb s.room (2 * up s.top) ≡ b
      → cond b (changes (2 * up s.top - s.room) s hs) (stays 0 0 s.top hs) ≡ decided s hs
  decided-even b o e =
      ap (λ b. cond b (changes (2 * up s.top - s.room) s hs) (stays 0 0 s.top hs)) (sym e)
      ∙ ap (λ b. cond b (when_odd s hs) (when_even s hs)) (sym (ne_eqb (ones s.mask % 2) 1 o))

  pub decided-change : (d : ℕ) → (ones s.mask % 2 ≡ 1 → ⊥) → s.room < 2 * up s.top → d ≡ 2 * up s.top - s.room → changes d s hs ≡ decided s hs
  decided-change d o h k = ap (λ d. changes d s hs) k ∙ decided-even true o (lt-ltb s.room (2 * up s.top) h)

  pub decided-stay : (t : ℤ) → (ones s.mask % 2 ≡ 1 → ⊥) → 2 * up s.top ≤ s.room → t ≡ s.top → stays 0 0 t hs ≡ decided s hs
  decided-stay t o h p = ap (λ t. stays 0 0 t hs) p ∙ decided-even false o (le-ltb s.room (2 * up s.top) h)

-- a height above 0 is a size
pub above_within : (z : ℤ) (r : ℕ) → z ⩽ pos unit → r < 2 * up z → Within unit z
above_within (pos n) r h k = record { hi = omega (arith, le_out h); lo = omega arith }
above_within (negsuc n) r h k = absurd (omega arith)

-- ---- the member at place k changes sides
side-height : (t : Bool) (v : ℤ) → height (not t) v ≡ pos (2 * unit) -ℤ height t v
side-height true v = simp lin (omega arith_z)
side-height false v = simp lin (omega arith_z)

changed-heights : (k : ℕ) (vs : List ℤ) → k < length vs → heights_of (change_side k (negatives vs)) vs ≡ set (sights vs) k (pos (2 * unit) -ℤ at (sights vs) k)
changed-heights k [] h = absurd (omega arith)
changed-heights zero (v ∷ vs) h = ap (λ x. x ∷ sights vs) (side-height (is_neg v) v)
changed-heights (suc k) (v ∷ vs) h = ap (λ l. height (is_neg v) v ∷ l) (changed-heights k vs (le_of_suc-le-suc h))

set-over : (hs old : List ℤ) (k : ℕ) (z : ℤ) → k < length hs → set (over hs old) k z ≡ over (set hs k z) old
set-over hs old k z h = set-append_left hs (drop (length hs) old) k z h ∙ ap (λ n. set hs k z ++ drop n old) (sym (length-set hs k z))

raised : (t : ℤ) → t ⩽ pos unit → t ⩽ pos (2 * unit) -ℤ t
raised t = simp lin (omega arith_z)

-- ---- the cut
ones_odd : (ts : List Bool) → odd ts ≡ eqb (ones (mask_of ts) % 2) 1
ones_odd ts = ap odd (sym (set-mask ts)) ∙ odd-ones (length ts) (mask_of ts) (mask_below ts)

-- r + 2 (u − t) is below 2u exactly if r is below 2t
shifted : (u r n t : ℕ) → n + t ≡ u → ltb (r + 2 * n) (2 * u) ≡ ltb r (2 * t)
shifted u r n t e = go (dec_le (suc r) (2 * t))
  where
    go : Dec (r < 2 * t) → ltb (r + 2 * n) (2 * u) ≡ ltb r (2 * t)
    go (yes h) = lt-ltb (r + 2 * n) (2 * u) (omega arith) ∙ sym (lt-ltb r (2 * t) h)
    go (no f) = le-ltb (r + 2 * n) (2 * u) (omega arith) ∙ sym (le-ltb r (2 * t) (omega arith))

-- a cut's view of the values
sees : Option (List Bool) → List ℤ → List ℤ → Seen
sees o vs old = stays (cut_mask o) (depth_by unit (clips unit vs) o) (highest (heights_of (side_by o vs) vs)) (over (heights_of (side_by o vs) vs) old)

seen_by : (vs old : List ℤ) (o : Option (List Bool)) → cut unit (clips unit vs) ≡ o → sees o vs old ≡ seen_on vs old
unfolding sees seen_on depth
seen_by vs old o e = ap (λ o. sees o vs old) (sym e)

module _ (vs old : List ℤ) (s : Scan) (p : Scanned vs s) where
  left_is : left unit (negatives (clips unit vs)) (clips unit vs) ≡ pos s.room
  left_is = ap (λ ts. left unit ts (clips unit vs)) (clips-signs vs) ∙ clips-left vs ∙ ap pos (sym p.total)

  parity-is : (b : Bool) → eqb (ones s.mask % 2) 1 ≡ b → odd (negatives (clips unit vs)) ≡ b
  parity-is b e = ap odd (clips-signs vs) ∙ ones_odd (negatives vs) ∙ ap (λ m. eqb (ones m % 2) 1) (sym p.negative) ∙ e

  -- a set whose left side is so much falls short by the rest
  shortfall-of : (ts : List Bool) (n : ℕ) → left unit ts (clips unit vs) ≡ pos n → 2 * unit - n ≡ shortfall unit ts (clips unit vs)
  shortfall-of ts n e = sym (ap (λ l. up (pos (2 * unit) -ℤ l)) e ∙ up-less (2 * unit) n)

  -- the negative values see
  negatives-see : (b : Bool) → ltb s.room (2 * unit) ≡ b → stays (cond b s.mask 0) (2 * unit - s.room) s.top (over (sights vs) old) ≡ sees (keep b (negatives vs)) vs old
  unfolding sees
  negatives-see true e = seen-eq _ _ _ _ _ _ _ _ p.negative (shortfall-of (negatives vs) s.room (clips-left vs ∙ ap pos (sym p.total))) p.high refl
  negatives-see false e = seen-eq _ _ _ _ _ _ _ _ refl (omega (arith, ltb-false s.room (2 * unit) e)) p.high refl

  odd-sees : eqb (ones s.mask % 2) 1 ≡ true → when_odd s (over (sights vs) old) ≡ seen_on vs old
  odd-sees o =
      negatives-see (ltb s.room (2 * unit)) refl
      ∙ seen_by vs old (keep (ltb s.room (2 * unit)) (negatives vs))
      (cut-odd unit (clips unit vs) (clips-within unit vs) (parity-is true o) ∙ ap₂ (λ z ts. keep (lt_z z (pos (2 * unit))) ts) left_is (clips-signs vs))

  -- where there is a member to change sides
  module _ (h : s.place < length vs) (t : at (sights vs) s.place ≡ highest (sights vs)) where
    size_is : nat_abs (at (clips unit vs) s.place) + up s.top ≡ unit
    size_is = ap (λ z. nat_abs (at (clips unit vs) s.place) + up z) (p.high ∙ sym t) ∙ size-at vs s.place h

    smallest-is : nat_abs (at (clips unit vs) s.place) ≡ smallest unit (clips unit vs)
    smallest-is = omega (arith, size_is, smallest-high vs, ap up p.high)

    clipped : s.place < length (clips unit vs)
    clipped = subst (λ n. s.place < n) (sym (clips-length unit vs)) h

    pays : left unit (change_side s.place (negatives (clips unit vs))) (clips unit vs) ≡ pos (s.room + 2 * nat_abs (at (clips unit vs) s.place))
    pays = change-pays unit s.place (clips unit vs) clipped ∙ ap (λ z. z +ℤ pos (2 * nat_abs (at (clips unit vs) s.place))) left_is

    cut-is : eqb (ones s.mask % 2) 1 ≡ false → cut unit (clips unit vs) ≡ keep (ltb s.room (2 * up s.top)) (change_side s.place (negatives vs))
    cut-is o =
        cut-even unit s.place (clips unit vs) (clips-within unit vs) (parity-is false o) clipped smallest-is
        ∙ ap₂ (λ z ts. keep (lt_z z (pos (2 * unit))) (change_side s.place ts)) pays (clips-signs vs)
        ∙ ap (λ b. keep b (change_side s.place (negatives vs))) (shifted unit s.room (nat_abs (at (clips unit vs) s.place)) (up s.top) size_is)

    raised-heights : heights_of (change_side s.place (negatives vs)) vs ≡ set (sights vs) s.place (pos (2 * unit) -ℤ s.top)
    raised-heights = changed-heights s.place vs h ∙ ap (λ z. set (sights vs) s.place (pos (2 * unit) -ℤ z)) (t ∙ sym p.high)

    inside : s.place < length (sights vs)
    inside = subst (λ n. s.place < n) (sym (sights-length vs)) h

    raised-top : highest (set (sights vs) s.place (pos (2 * unit) -ℤ s.top)) ≡ pos (2 * unit) -ℤ s.top
    raised-top =
        highest-set (sights vs) s.place (pos (2 * unit) -ℤ s.top) inside
        (subst (λ z. highest (sights vs) ⩽ pos (2 * unit) -ℤ z) (sym p.high) (raised (highest (sights vs)) (sights-top vs)))

    -- twice the greatest height, less the heights' sum
    changed-short : 2 * up s.top - s.room ≡ shortfall unit (change_side s.place (negatives vs)) (clips unit vs)
    changed-short =
        omega (arith, size_is)
        ∙ shortfall-of (change_side s.place (negatives vs)) (s.room + 2 * nat_abs (at (clips unit vs) s.place))
        (ap (λ ts. left unit (change_side s.place ts) (clips unit vs)) (sym (clips-signs vs)) ∙ pays)

    -- the changed set sees
    changed-see : (b : Bool) → cond b (changes (2 * up s.top - s.room) s (over (sights vs) old)) (stays 0 0 s.top (over (sights vs) old))
        ≡ sees (keep b (change_side s.place (negatives vs))) vs old
    unfolding sees
    changed-see true = seen-eq _ _ _ _ _ _ _ _
        (ap (λ m. bit_xor m (2 ^ s.place)) p.negative ∙ mask-change s.place (negatives vs) (subst (λ n. s.place < n) (sym (negatives-length vs)) h))
        changed-short
        (sym (ap highest raised-heights ∙ raised-top))
        (set-over (sights vs) old s.place (pos (2 * unit) -ℤ s.top) inside ∙ ap (λ l. over l old) (sym raised-heights))
    changed-see false = seen-eq _ _ _ _ _ _ _ _ refl refl p.high refl

    even-sees : eqb (ones s.mask % 2) 1 ≡ false → when_even s (over (sights vs) old) ≡ seen_on vs old
    even-sees o =
        changed-see (ltb s.room (2 * up s.top))
        ∙ seen_by vs old (keep (ltb s.room (2 * up s.top)) (change_side s.place (negatives vs))) (cut-is o)

-- no values, no cut
none-sees : (old : List ℤ) (s : Scan) → Scanned [] s → when_even s old ≡ seen_on [] old
unfolding sees
none-sees old s p =
    ap (λ b. cond b (changes (2 * up s.top - s.room) s old) (stays 0 0 s.top old)) (ap₂ (λ r t. ltb r (2 * up t)) p.total p.high)
    ∙ seen-eq _ _ _ _ _ _ _ _ refl refl p.high refl
    ∙ seen_by [] old none (empty-uncut unit)

even-decides : (vs old : List ℤ) (s : Scan) → Scanned vs s → eqb (ones s.mask % 2) 1 ≡ false → when_even s (over (sights vs) old) ≡ seen_on vs old
even-decides [] old s p o = none-sees old s p
even-decides (v ∷ vs) old s p o = even-sees (v ∷ vs) old s p (subst (λ n. s.place < n) (sights-length (v ∷ vs)) p.peak.0) p.peak.1 o

decides : (vs old : List ℤ) (s : Scan) → Scanned vs s → decided s (over (sights vs) old) ≡ seen_on vs old
decides vs old s p = go (eqb (ones s.mask % 2) 1) refl
  where
    go : (b : Bool) → eqb (ones s.mask % 2) 1 ≡ b → cond b (when_odd s (over (sights vs) old)) (when_even s (over (sights vs) old)) ≡ seen_on vs old
    go true o = odd-sees vs old s p o
    go false o = even-decides vs old s p o

-- ---- at most 32 values, and room for each height
pub seen-whole : (v old : List ℤ) → length v ≤ max_degree → length v ≤ length old → seen_on v old ≡ seen v old
unfolding seen
seen-whole v old h k =
    ap₂ (λ a b. cond a (cond b (seen_on v old) (unseen buffer_short old)) (unseen count_range old))
    (sym (le-leb (length v) max_degree h)) (sym (le-leb (length v) (length old) k))

-- ---- what the pass over all values leaves
place_inside : (hs : List ℤ) (k : ℕ) → Highest hs k → length hs ≤ max_degree → k < max_degree
place_inside [] k p h = omega arith
place_inside (s ∷ ss) k p h = omega (arith, p.0)

-- only a pass that has a value has a height above 0
place-held : (vs old : List ℤ) (s : Scan) → Scanned vs s → s.room < 2 * up s.top → s.place < length (over (sights vs) old)
place-held [] old s p h = absurd (omega (arith, ap up p.high))
place-held (v ∷ vs) old s p h = omega (arith, p.peak.0, length-append (sights (v ∷ vs)) (drop (length (sights (v ∷ vs))) old))

module _ (v old hs : List ℤ) (few : length v ≤ max_degree) (s : Scan) (p : Scanned v s) (e : hs ≡ over (sights v) old) where
  pub place-most : s.place < max_degree
  place-most = place_inside (sights v) s.place p.peak (omega (arith, sights-length v))

  pub top-most : s.top ⩽ pos unit
  top-most = subst (λ z. z ⩽ pos unit) (sym p.high) (sights-top v)

  pub place-there : s.room < 2 * up s.top → s.place < length hs
  place-there h = subst (λ l. s.place < length l) (sym e) (place-held v old s p h)

  pub decides-seen : length v ≤ length old → decided s hs ≡ seen v old
  decides-seen room = ap (decided s) e ∙ decides v old s p ∙ seen-whole v old few room

-- mask and depth of values that are seen
pub seen-cut : (v old : List ℤ) (r : Seen) → r ≡ seen v old → length v ≤ max_degree → length v ≤ length old → CutIs (clips unit v) r.mask r.depth
unfolding seen_on
seen-cut v old r e h k = let same = e ∙ sym (seen-whole v old h k) in (ap (λ s. s.mask) same, ap (λ s. s.depth) same)

-- and no refusal answers them
pub seen-ok : (v old : List ℤ) (r : Result Cut Refusal) (hs : List ℤ) → seen_of r hs ≡ seen v old → length v ≤ max_degree → length v ≤ length old → IsOk r
unfolding seen_on
seen-ok v old (Ok c) hs e h k = refl
seen-ok v old (Err j) hs e h k = absurd (number-some j (ap (λ s. s.number) (e ∙ sym (seen-whole v old h k))))
