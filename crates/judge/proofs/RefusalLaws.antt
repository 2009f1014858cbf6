-- The tests of a certificate as a refusal's number: what each answer of the code has tested, and the tests of document 01 in front of an answer.
-- Assumes nothing.
use mathlib.Core.Path.{◌≡◌, refl, sym, ◌∙◌, ap, ap₂, subst}
use mathlib.Core.Bool.{Bool, true, false, cond, ◌&&◌, ◌||◌}
use mathlib.Core.List.{List, [], ◌∷◌}
use mathlib.Core.Option.{Option, some, none}
use Prim.Native.Nat.{ℕ, zero, suc, ◌+◌, ◌-◌, ◌≤◌, ◌<◌}
use native.Mathlib.Omega.{arith}
use native.Mathlib.Nat.{sub-eq-zero_of_le}
use lib.Dec.{leb, ltb, eqb}
use lib.ListN.{length}
use borrow.Author.Tests.{lt-ltb, le-ltb, eq-eqb, ne_eqb, le-leb, lt-leb, ltb-true, leb-true, eqb-true, eqb-false}
use Rattle.integers.specs.Count.{none_left, after_first, before-end, left-more}
use lib.Count.{ones}
use Rattle.rules.specs.Bytes.{u16_at, u32_at}
use Rattle.rules.specs.Limits.{max_entries, max_scale, max_multiplier, certificate_length}
use Rattle.rules.specs.Refusal.{Answer, refused, gives, must, then, certificate_wrong, scale_range, entry_range, mask_wrong, entry_order}
use Rattle.rules.specs.Table.{Table, checks_of}
use Rattle.rules.specs.Mask.{mask_right}
use Rattle.rules.specs.CodeFile.{in_range}
use Rattle.rules.specs.Certificate.{Item, item_at, items_at, members_at, follows, on_item, on_items, entries_of, scale_of, items_of, length_right, on_certificate}
use Rattle.rules.proofs.Basics.{and_both}
use Rattle.rules.proofs.AnswerLaws.{must-gives, gives-inj, range-both}
use Rattle.table.proofs.AnswerLaws.{and-fails, and-holds}
use Rattle.limits.specs.declared.refusals.Refusal.{Refusal}
use Rattle.limits.specs.Numbers.{number_of}
use Rattle.limits.proofs.NumberLaws.{number-some}
use Rattle.inputs.specs.Refusals.{turned_down, or_else}
use Rattle.inputs.proofs.RefusalLaws.{else-refused, else-none, cond-none, test-number, turned-else}
use Rattle.judge.specs.Rows.{InRange, EachInRange, items_from}
use Rattle.judge.specs.Refusals.{Long, before_at, certificate_read, mask_refusal, item_refusal, items_refusal}

-- ---- two tests, one after the other
pub first-refused : (r : Refusal) {j : ℕ} (k : ℕ) → number_of r ≡ j → number_of r ≡ or_else j k
first-refused r k e = sym (else-refused (number_of r) k (number-some r)) ∙ ap (λ i. or_else i k) e

-- ---- one test
cond_same : (b : Bool) (i j k : ℕ) → (b ≡ true → i ≡ j) → cond b i k ≡ cond b j k
cond_same true i j k e = e refl
cond_same false i j k e = refl

-- ---- one entry
module _ (m : ℕ) (d : ℕ → ℕ) (p : Option Item) (i : Item) where
  item-is : (b : Bool) → ltb i.check m && in_range 1 max_multiplier i.multiplier ≡ b → item_refusal m d p i ≡ cond b (mask_refusal d p i) entry_range
  unfolding item_refusal
  item-is b e = ap (λ x. cond x (mask_refusal d p i) entry_range) e

  pub entry-check : m ≤ i.check → entry_range ≡ item_refusal m d p i
  entry-check h = sym (item-is false (and-fails (ltb i.check m) (in_range 1 max_multiplier i.multiplier) (le-ltb i.check m h)))

  pub entry-multiplier : i.check < m → in_range 1 max_multiplier i.multiplier ≡ false → entry_range ≡ item_refusal m d p i
  entry-multiplier h e = sym (item-is false (and-holds (ltb i.check m) (in_range 1 max_multiplier i.multiplier) (lt-ltb i.check m h) ∙ e))

  module _ (h : i.check < m) (e : in_range 1 max_multiplier i.multiplier ≡ true) (degree : ℕ) (hd : degree ≡ d i.check) where
    past : (b : Bool) → mask_right degree i.mask ≡ b → item_refusal m d p i ≡ cond b (cond (follows p i) 0 entry_order) mask_wrong
    past b f =
        item-is true (and-holds (ltb i.check m) (in_range 1 max_multiplier i.multiplier) (lt-ltb i.check m h) ∙ e)
        ∙ ap (λ x. cond x (cond (follows p i) 0 entry_order) mask_wrong) (ap (λ x. mask_right x i.mask) (sym hd) ∙ f)

    pub entry-mask : mask_right degree i.mask ≡ false → mask_wrong ≡ item_refusal m d p i
    entry-mask f = sym (past false f)

    pub entry-order : mask_right degree i.mask ≡ true → follows p i ≡ false → entry_order ≡ item_refusal m d p i
    entry-order f g = sym (past true f ∙ ap (λ x. cond x 0 entry_order) g)

    pub entry-right : mask_right degree i.mask ≡ true → follows p i ≡ true → 0 ≡ item_refusal m d p i
    entry-right f g = sym (past true f ∙ ap (λ x. cond x 0 entry_order) g)

-- ---- entry by entry: i is entry k, p the one before
module _ (m : ℕ) (d : ℕ → ℕ) (bs : List ℕ) (p : Option Item) where
  module _ (k : ℕ) (i : Item) (h : k < entries_of bs) (e : i ≡ item_at bs (entries_of bs) k) where
    items_more : items_refusal m d p (items_from bs k) ≡ or_else (item_refusal m d p i) (items_refusal m d (some i) (items_from bs (k + 1)))
    unfolding items_at items_refusal
    items_more =
        ap (λ c. items_refusal m d p (items_at bs (entries_of bs) k c)) (left-more k (entries_of bs) h)
        ∙ ap (λ x. or_else (item_refusal m d p x) (items_refusal m d (some x) (items_from bs (k + 1)))) (sym e)

    pub items-stop : (r : Refusal) → number_of r ≡ item_refusal m d p i → number_of r ≡ items_refusal m d p (items_from bs k)
    items-stop r f = first-refused r _ f ∙ sym items_more

    pub items-next : 0 ≡ item_refusal m d p i → items_refusal m d p (items_from bs k) ≡ items_refusal m d (some i) (items_from bs (k + 1))
    items-next f = items_more ∙ sym (ap (λ x. or_else x (items_refusal m d (some i) (items_from bs (k + 1)))) f)

  pub items-end : (k : ℕ) → entries_of bs ≤ k → items_refusal m d p (items_from bs k) ≡ 0
  unfolding items_at items_refusal
  items-end k h = ap (λ c. items_refusal m d p (items_at bs (entries_of bs) k c)) (sub-eq-zero_of_le h)

-- ---- the whole certificate, q being what its first number says
module _ (bs : List ℕ) where
  read-is : (b c : Bool) → length_right bs ≡ b → in_range 1 max_scale (scale_of bs) ≡ c → certificate_read bs ≡ must b certificate_wrong (must c scale_range (gives bs))
  read-is b c e f = ap₂ (λ x y. must x certificate_wrong (must y scale_range (gives bs))) e f

  pub certificate-short : length bs < 4 → refused certificate_wrong ≡ certificate_read bs
  unfolding must
  certificate-short h =
      let few = and-fails (leb 4 (length bs)) (leb (entries_of bs) max_entries) (lt-leb 4 (length bs) h) in
      sym (read-is false (in_range 1 max_scale (scale_of bs)) (and-fails _ (eqb (length bs) (certificate_length (entries_of bs))) few) refl)

  module _ (q : ℕ) (hq : q ≡ entries_of bs) (h : 4 ≤ length bs) where
    few : (b : Bool) → leb q max_entries ≡ b → leb 4 (length bs) && leb (entries_of bs) max_entries ≡ b
    few b e = and-holds (leb 4 (length bs)) (leb (entries_of bs) max_entries) (le-leb 4 (length bs) h) ∙ ap (λ x. leb x max_entries) (sym hq) ∙ e

    pub certificate-many : max_entries < q → refused certificate_wrong ≡ certificate_read bs
    unfolding must
    certificate-many g =
        sym (read-is false (in_range 1 max_scale (scale_of bs))
        (and-fails (leb 4 (length bs) && leb (entries_of bs) max_entries) (eqb (length bs) (certificate_length (entries_of bs))) (few false (lt-leb q max_entries g))) refl)

    module _ (g : q ≤ max_entries) where
      long : (b : Bool) → eqb (length bs) (certificate_length q) ≡ b → length_right bs ≡ b
      long b e =
          and-holds (leb 4 (length bs) && leb (entries_of bs) max_entries) (eqb (length bs) (certificate_length (entries_of bs))) (few true (le-leb q max_entries g))
          ∙ ap (λ x. eqb (length bs) (certificate_length x)) (sym hq) ∙ e

      pub certificate-long : (length bs ≡ certificate_length q → ⊥) → refused certificate_wrong ≡ certificate_read bs
      unfolding must
      certificate-long f = sym (read-is false (in_range 1 max_scale (scale_of bs)) (long false (ne_eqb (length bs) (certificate_length q) f)) refl)

      module _ (size : length bs ≡ certificate_length q) (s : ℕ) (hs : s ≡ scale_of bs) where
        pub certificate-scale : in_range 1 max_scale s ≡ false → refused scale_range ≡ certificate_read bs
        unfolding must
        certificate-scale f = sym (read-is true false (long true (eq-eqb (length bs) (certificate_length q) size)) (ap (in_range 1 max_scale) (sym hs) ∙ f))

        pub certificate-right : in_range 1 max_scale s ≡ true → gives bs ≡ certificate_read bs
        unfolding must
        certificate-right f = sym (read-is true true (long true (eq-eqb (length bs) (certificate_length q) size)) (ap (in_range 1 max_scale) (sym hs) ∙ f))

  -- nothing but the certificate is read
  pub read-same : (c : List ℕ) → gives c ≡ certificate_read bs → c ≡ bs
  read-same c e = gives-inj c bs (sym (must-gives _ _ _ c (must-gives _ _ _ c (sym e)).1).1)

-- ---- the tests of document 01: d has the degrees of t's checks
module _ {A : Type 0} (t : Table) (d : ℕ → ℕ) (same : (j : ℕ) → j < checks_of t → length (members_at t j) ≡ d j) where
  item-law : (p : Option Item) (i : Item) (a : Answer A) → on_item t p i a ≡ turned_down (item_refusal (checks_of t) d p i) a
  unfolding on_item item_refusal turned_down
  item-law p i a =
      let range = ltb i.check (checks_of t) && in_range 1 max_multiplier i.multiplier in
      let right = mask_right (length (members_at t i.check)) i.mask in
      let last = cond (follows p i) 0 entry_order in
      ap (λ x. must range entry_range (must right mask_wrong x)) (test-number (follows p i) 13 0 a)
      ∙ ap (must range entry_range) (test-number right 12 last a)
      ∙ test-number range 11 (cond right last mask_wrong) a
      ∙ ap (λ r. turned_down r a)
      (cond_same range (cond right last mask_wrong) (mask_refusal d p i) entry_range
      (λ e. ap (λ x. cond (mask_right x i.mask) last mask_wrong) (same i.check (ltb-true i.check (checks_of t) (and_both _ _ e).0))))

  items-law : (p : Option Item) (is : List Item) (a : Answer A) → on_items t p is a ≡ turned_down (items_refusal (checks_of t) d p is) a
  unfolding on_items items_refusal turned_down
  items-law p [] a = refl
  items-law p (i ∷ is) a =
      item-law p i (on_items t (some i) is a)
      ∙ ap (turned_down (item_refusal (checks_of t) d p i)) (items-law (some i) is a)
      ∙ turned-else (item_refusal (checks_of t) d p i) (items_refusal (checks_of t) d (some i) is) a

  certificate-then : (b c : Bool) (j k : ℕ) (x : List ℕ) (f : List ℕ → Answer A) → must b j (must c k (f x)) ≡ then (must b j (must c k (gives x))) f
  unfolding must then
  certificate-then true true j k x f = refl
  certificate-then true false j k x f = refl
  certificate-then false c j k x f = refl

  pub certificate-law : (bs : List ℕ) (a : Answer A) → on_certificate t bs a ≡ then (certificate_read bs) (λ c. turned_down (items_refusal (checks_of t) d none (items_of c)) a)
  unfolding on_certificate
  certificate-law bs a =
      let size = length_right bs in
      let scale = in_range 1 max_scale (scale_of bs) in
      ap (λ x. must size certificate_wrong (must scale scale_range x)) (items-law none (items_of bs) a)
      ∙ certificate-then size scale _ _ bs (λ c. turned_down (items_refusal (checks_of t) d none (items_of c)) a)

-- ---- what a certificate that is not refused has passed
item-passed : (m : ℕ) (d : ℕ → ℕ) (p : Option Item) (i : Item) → item_refusal m d p i ≡ 0 → InRange m i
unfolding item_refusal
item-passed m d p i e =
    let range = cond-none (ltb i.check m && in_range 1 max_multiplier i.multiplier) (mask_refusal d p i) 11 e in
    let both = and_both (ltb i.check m) (in_range 1 max_multiplier i.multiplier) range.0 in
    record { check = ltb-true i.check m both.0; multiplier = (range-both 1 max_multiplier i.multiplier both.1).1 }

module _ (m : ℕ) (d : ℕ → ℕ) (bs : List ℕ) (q : ℕ) where
  items-passed : (p : Option Item) (k c : ℕ) → items_refusal m d p (items_at bs q k c) ≡ 0 → (j : ℕ) → k ≤ j → j < k + c → InRange m (item_at bs q j)
  unfolding items_at items_refusal
  items-passed p k zero e j lo hi = absurd (none_left k j lo hi)
  items-passed p k (suc c) e j lo hi =
      let both = else-none (item_refusal m d p (item_at bs q k)) (items_refusal m d (some (item_at bs q k)) (items_at bs q (k + 1) c)) e in
      go (eqb k j) refl (item-passed m d p (item_at bs q k) both.0) (λ l. items-passed (some (item_at bs q k)) (k + 1) c both.1 j l (before-end k j c hi))
    where
      go : (b : Bool) → eqb k j ≡ b → InRange m (item_at bs q k) → (k + 1 ≤ j → InRange m (item_at bs q j)) → InRange m (item_at bs q j)
      go true f here rest = subst (λ x. InRange m (item_at bs q x)) (eqb-true k j f) here
      go false f here rest = rest (after_first k j lo (eqb-false k j f))

pub each-passed : (m : ℕ) (d : ℕ → ℕ) (bs : List ℕ) → items_refusal m d none (items_of bs) ≡ 0 → EachInRange m bs
each-passed m d bs e k h = items-passed m d bs (entries_of bs) none 0 (entries_of bs) e k (omega arith) (omega arith)

-- No proof cites these any more, since the code reads its entries as one value.
-- ---- one entry, in the numbers that the code has read
module _ (m : ℕ) (d : ℕ → ℕ) (p : Option Item) (i : Item) (check multiplier : ℕ) (hc : check ≡ i.check) (hm : multiplier ≡ i.multiplier) where
  module _ (h : check < m) (e : in_range 1 max_multiplier multiplier ≡ true) (mask degree : ℕ) (hk : mask ≡ i.mask) (hd : degree ≡ d check) where
    pub mask_is : mask_right (d i.check) i.mask ≡ mask_right degree mask
    mask_is = ap₂ mask_right (ap d (sym hc) ∙ sym hd) (sym hk)

-- ---- the order of two entries
pub follows-first : (bs : List ℕ) (q k : ℕ) (i : Item) → k ≡ 0 → true ≡ follows (before_at bs q k) i
unfolding follows
follows-first bs q k i e = sym (ap (λ x. follows (before_at bs q x) i) e)

module _ (bs : List ℕ) (q k b c : ℕ) (i : Item) (hk : k ≡ 0 → ⊥) (hb : b ≡ (item_at bs q (k - 1)).check) (hc : c ≡ i.check) where
  pub follows_is : follows (before_at bs q k) i ≡ (ltb b c || (eqb b c && ltb (item_at bs q (k - 1)).mask i.mask))
  unfolding follows
  follows_is =
      ap (λ x. follows (before_at bs q x) i) (pred k hk)
      ∙ ap₂ (λ x y. ltb x y || (eqb x y && ltb (item_at bs q (k - 1)).mask i.mask)) (sym hb) (sym hc)
    where
      pred : (k : ℕ) → (k ≡ 0 → ⊥) → k ≡ suc (k - 1)
      pred k h = omega arith

  pub follows-check : b < c → true ≡ follows (before_at bs q k) i
  follows-check h = sym (follows_is ∙ ap (λ x. x || (eqb b c && ltb (item_at bs q (k - 1)).mask i.mask)) (lt-ltb b c h))

  pub later : c ≤ b → (x : Bool) → eqb b c ≡ x → follows (before_at bs q k) i ≡ (x && ltb (item_at bs q (k - 1)).mask i.mask)
  later h x e = follows_is ∙ ap₂ (λ y z. y || (z && ltb (item_at bs q (k - 1)).mask i.mask)) (le-ltb b c h) e

  pub follows-mask : (x y : ℕ) → c ≤ b → b ≡ c → x ≡ (item_at bs q (k - 1)).mask → y ≡ i.mask → ltb x y ≡ follows (before_at bs q k) i
  follows-mask x y h e hx hy = ap₂ ltb hx hy ∙ sym (later h true (eq-eqb b c e))

  pub follows-less : c ≤ b → (b ≡ c → ⊥) → eqb b c ≡ follows (before_at bs q k) i
  follows-less h f = ne_eqb b c f ∙ sym (later h false (ne_eqb b c f))

-- ---- what a certificate that is not refused has passed
pub record Passed (m : ℕ) (bs : List ℕ) : Type 0 where
  pub long : Long bs (entries_of bs)
  pub scale : scale_of bs ≤ max_scale
  pub entry : EachInRange m bs

pub certificate-passed : (m : ℕ) (d : ℕ → ℕ) (bs : List ℕ) → gives bs ≡ certificate_read bs → items_refusal m d none (items_of bs) ≡ 0 → Passed m bs
certificate-passed m d bs e f =
    let few = leb 4 (length bs) && leb (entries_of bs) max_entries in
    let right = eqb (length bs) (certificate_length (entries_of bs)) in
    let p = must-gives (few && right) certificate_wrong (must (in_range 1 max_scale (scale_of bs)) scale_range (gives bs)) bs (sym e) in
    let q = must-gives (in_range 1 max_scale (scale_of bs)) scale_range (gives bs) bs p.1 in
    let size = and_both few right p.0 in
    record {
      long = record { few = leb-true (entries_of bs) max_entries (and_both (leb 4 (length bs)) _ size.0).1; size = eqb-true (length bs) (certificate_length (entries_of bs)) size.1 };
      scale = (range-both 1 max_scale (scale_of bs) q.0).1;
      entry = each-passed m d bs f;
    }

-- such a certificate: multiplier 2000 on the set {2} of the one check, of three members
abbrev one : List ℕ
one = 1 ∷ 0 ∷ 1 ∷ 0 ∷ 0 ∷ 0 ∷ 208 ∷ 7 ∷ 0 ∷ 0 ∷ 4 ∷ 0 ∷ 0 ∷ 0 ∷ []

passed-one : Passed 1 one
unfolding must items_at items_refusal item_refusal follows u16_at u32_at in_range mask_right ones
passed-one = certificate-passed 1 (λ j. 3) one refl refl
