-- What the judge's answer is worth, whoever wrote the certificate: it passes exactly if the word meets all checks and its agreement, times the scale,
-- equals the bound; a word that passes is best, and alone so where the mark is set; a gap that is answered is positive. Assumes nothing.
use mathlib.Core.Path.{◌≡◌, refl, sym, ◌∙◌, ap, ap₂, subst}
use mathlib.Core.Bool.{Bool, true, false, not, cond, ◌&&◌, false≢true}
use mathlib.Core.Logic.{◌↔◌}
use mathlib.Core.List.{List, [], ◌∷◌}
use mathlib.Core.Option.{Option, some, none}
use Prim.Native.Nat.{ℕ, zero, suc, ◌≤◌, ◌<◌}
use native.Mathlib.Omega.{arith}
use native.Mathlib.Nat.{le_of_suc-le-suc, not-suc-le-zero}
use lib.Dec.{ltb, eqb}
use borrow.Author.Tests.{ltb-true, eqb-true}
use lib.ListN.{length, get_or}
use lib.IntN.{ℤ, pos, negsuc, ◌-ℤ◌, ◌*ℤ◌}
use lib.Signed.{◌<ℤ◌}
use Rattle.integers.specs.Linear.{lin, arith_z, ◌⩽◌}
use Rattle.integers.specs.Order.{sub-zero}
use Rattle.rules.specs.Limits.{max_scale, max_multiplier, frame_limit}
use Rattle.rules.specs.Refusal.{Answer, gives, frame_length, frame_range, word_wrong, certificate_wrong, scale_range, entry_range, mask_wrong, entry_order}
use Rattle.rules.specs.Table.{Table, checks_of, bits_at}
use Rattle.rules.specs.Parity.{odd, Alike, KeepsOne, Keeps, first_broken, meets, Codeword, agreement}
use Rattle.rules.specs.Mask.{set_of, mask_right}
use Rattle.rules.specs.CodeFile.{in_range, code_file}
use Rattle.rules.specs.Sound.{Below, AllBelow}
use Rattle.rules.specs.Input.{each_within, on_frame, each_bit, on_word, bits_of}
use Rattle.rules.specs.Bound.{Row, bound, gap}
use Rattle.rules.specs.Round.{is_zero}
use Rattle.rules.specs.Certificate.{Item, members_at, follows, on_item, on_items, scale_of, items_of, length_right, on_certificate, row_at, rows_at}
use Rattle.rules.specs.Sole.{sole, SoleWinner}
use Rattle.rules.specs.Demand3.{Best}
use Rattle.rules.specs.Judge.{Verdict, breaks, passes, misses, weigh, verdict, MeetsBound, judge}
use Rattle.rules.proofs.Basics.{and_both, none≢some}
use Rattle.rules.proofs.ZeroLaws.{is_zero-is}
use Rattle.rules.proofs.Signs.{length-alike}
use Rattle.rules.proofs.Masks.{mask-odd, set-length}
use Rattle.rules.proofs.AnswerLaws.{must-gives, then-gives, Followed, gives-inj, range-both}
use Rattle.rules.proofs.Tables.{file-sound}
use Rattle.rules.proofs.Pass.{Good}
use Rattle.rules.proofs.Duality.{Kept, AllKept}
use Rattle.rules.proofs.Optimal.{Implied, gap-nonneg, gap-optimal}
use Rattle.rules.proofs.SoleLaws.{sole-winner}

-- ---- the verdict
pub none-broken : (j : ℕ) (w : List Bool) (cs : List (List ℕ)) → first_broken j w cs ≡ none → meets w cs ≡ true
none-broken j w [] e = refl
none-broken j w (ms ∷ cs) e = go (odd (bits_at w ms)) e (none-broken (suc j) w cs)
  where
    go : (b : Bool) → cond b (some j) (first_broken (suc j) w cs) ≡ none → (first_broken (suc j) w cs ≡ none → meets w cs ≡ true) → (not b && meets w cs) ≡ true
    go true e ih = absurd (none≢some (sym e))
    go false e ih = ih e

pub meets-none : (j : ℕ) (w : List Bool) (cs : List (List ℕ)) → meets w cs ≡ true → first_broken j w cs ≡ none
meets-none j w [] e = refl
meets-none j w (ms ∷ cs) e = go (odd (bits_at w ms)) e (meets-none (suc j) w cs)
  where
    go : (b : Bool) → (not b && meets w cs) ≡ true → (meets w cs ≡ true → first_broken (suc j) w cs ≡ none) → cond b (some j) (first_broken (suc j) w cs) ≡ none
    go true e ih = absurd (false≢true e)
    go false e ih = ih e

breaks≢passes : {j : ℕ} {m : Bool} → breaks j ≡ passes m → ⊥
breaks≢passes {j} {m} e = let z : ◌≡◌ {A = ℕ} 0 1 = cc in omega arith

misses≢passes : {g : ℤ} {m : Bool} → misses g ≡ passes m → ⊥
misses≢passes {g} {m} e = let z : ◌≡◌ {A = ℕ} 0 1 = cc in omega arith

breaks≢misses : {j : ℕ} {g : ℤ} → breaks j ≡ misses g → ⊥
breaks≢misses {j} {g} e = let z : ◌≡◌ {A = ℕ} 0 1 = cc in omega arith

weigh-passes : (o : Option ℕ) (g : ℤ) (a m : Bool) → weigh o g a ≡ passes m → (o ≡ none) × (g ≡ pos 0) × (a ≡ m)
weigh-passes (some j) g a m e = absurd (breaks≢passes e)
weigh-passes none g a m e = go (is_zero g) refl e
  where
    go : (b : Bool) → is_zero g ≡ b → cond b (passes a) (misses g) ≡ passes m → (◌≡◌ {A = Option ℕ} none none) × (g ≡ pos 0) × (a ≡ m)
    go true p e = (refl, is_zero-is g p, cc)
    go false p e = absurd (misses≢passes e)

weigh-misses : (o : Option ℕ) (g h : ℤ) (a : Bool) → weigh o g a ≡ misses h → (o ≡ none) × (g ≡ h) × (is_zero g ≡ false)
weigh-misses (some j) g h a e = absurd (breaks≢misses e)
weigh-misses none g h a e = go (is_zero g) refl e
  where
    go : (b : Bool) → is_zero g ≡ b → cond b (passes a) (misses g) ≡ misses h → (◌≡◌ {A = Option ℕ} none none) × (g ≡ h) × (is_zero g ≡ false)
    go true p e = absurd (misses≢passes (sym e))
    go false p e = (refl, cc, p)

sum-gap : (b a : ℤ) → a ≡ b → b -ℤ a ≡ pos 0
sum-gap b a = simp lin (omega arith_z)

-- demand 2: "passes exactly if the word meets all checks and its agreement, times the certificate's scale, equals the multipliers' bound"; and the
-- mark is whether every reduced number differs from 0
pub verdict-passes⇔ : (t : Table) (s : ℕ) (l : List ℤ) (rs : List Row) (w : List Bool) (m : Bool)
    → (verdict t s l rs w ≡ passes m) ↔ (MeetsBound t s l rs w × (sole t.bits s l rs ≡ m))
unfolding verdict gap
verdict-passes⇔ t s l rs w m = (
  λ e. let p = weigh-passes (first_broken 0 w t.checks) (gap t.bits s l rs w) (sole t.bits s l rs) m e in
      ((none-broken 0 w t.checks p.0, sym (sub-zero (bound t.bits s l rs) (pos s *ℤ agreement t.bits l w) p.1)), p.2),
  λ p. ap₂ (λ o g. weigh o g (sole t.bits s l rs)) (meets-none 0 w t.checks p.0.0) (sum-gap (bound t.bits s l rs) (pos s *ℤ agreement t.bits l w) p.0.1) ∙ ap passes p.1,
)

-- ---- the rows of a certificate that passed 12 and 13
pub record Placed (t : Table) (i : Item) : Type 0 where
  pub inside : i.check < checks_of t
  pub odds : odd (set_of (length (members_at t i.check)) i.mask) ≡ true

abbrev pub AllPlaced : Table → List Item → Type 0
AllPlaced t [] = Unit {0}
AllPlaced t (i ∷ is) = Placed t i × AllPlaced t is

item-placed : {A : Type 0} (t : Table) (p : Option Item) (i : Item) (a : Answer A) (b : A) → on_item t p i a ≡ gives b → Placed t i × (a ≡ gives b)
unfolding on_item
item-placed t p i a b e =
    let p1 = must-gives (ltb i.check (checks_of t) && in_range 1 max_multiplier i.multiplier) entry_range _ b e in
    let p2 = must-gives (mask_right (length (members_at t i.check)) i.mask) mask_wrong _ b p1.1 in
    let p3 = must-gives (follows p i) entry_order a b p2.1 in (
      record {
        inside = ltb-true i.check (checks_of t) (and_both (ltb i.check (checks_of t)) (in_range 1 max_multiplier i.multiplier) p1.0).0;
        odds = mask-odd (length (members_at t i.check)) i.mask p2.0;
      },
      p3.1,
    )

items-placed : {A : Type 0} (t : Table) (p : Option Item) (is : List Item) (a : Answer A) (b : A) → on_items t p is a ≡ gives b → AllPlaced t is × (a ≡ gives b)
unfolding on_items
items-placed t p [] a b e = (tt, e)
items-placed t p (i ∷ is) a b e =
    let q = item-placed t p i (on_items t (some i) is a) b e in
    let r = items-placed t (some i) is a b q.1 in
    ((q.0, r.0), r.1)

pub members-below : (n : ℕ) (cs : List (List ℕ)) (j : ℕ) → j < length cs → AllBelow n cs → Below n (get_or cs j [])
members-below n [] j h b = absurd (not-suc-le-zero h)
members-below n (ms ∷ cs) zero h b = b.0
members-below n (ms ∷ cs) (suc j) h b = members-below n cs j (le_of_suc-le-suc h) b.1

keeps-at : (d : ℕ) (f : ℕ → ℤ) (cs : List (List ℕ)) (j : ℕ) → j < length cs → Keeps d f cs → KeepsOne d f (get_or cs j [])
keeps-at d f [] j h k = absurd (not-suc-le-zero h)
keeps-at d f (ms ∷ cs) zero h k = k.0
keeps-at d f (ms ∷ cs) (suc j) h k = keeps-at d f cs j (le_of_suc-le-suc h) k.1

item-long : (t : Table) (i : Item) → Alike (set_of (length (members_at t i.check)) i.mask) (members_at t i.check)
item-long t i = length-alike (set_of (length (members_at t i.check)) i.mask) (members_at t i.check) (set-length (length (members_at t i.check)) i.mask)

items-good : (t : Table) (is : List Item) → AllPlaced t is → Good (rows_at t is)
items-good t [] p = tt
items-good t (i ∷ is) p = (p.0.odds, item-long t i, items-good t is p.1)

item-kept : (t : Table) (d : ℕ) (f : ℕ → ℤ) (i : Item) → AllBelow t.bits t.checks → Keeps d f t.checks → Placed t i → Kept t.bits d f (row_at t i)
item-kept t d f i b k p = record {
  inside = members-below t.bits t.checks i.check p.inside b;
  long = item-long t i;
  keeps = keeps-at d f t.checks i.check p.inside k (set_of (length (members_at t i.check)) i.mask) p.odds (item-long t i);
}

items_kept : (t : Table) (d : ℕ) (f : ℕ → ℤ) (is : List Item) → AllBelow t.bits t.checks → Keeps d f t.checks → AllPlaced t is → AllKept t.bits d f (rows_at t is)
items_kept t d f [] b k p = tt
items_kept t d f (i ∷ is) b k p = (item-kept t d f i b k p.0, items_kept t d f is b k p.1)

bits-length : (w : List ℕ) → length (bits_of w) ≡ length w
bits-length [] = refl
bits-length (b ∷ w) = ap suc (bits-length w)

-- ---- an answer of the judge
pub record Judged (file : List ℕ) (l : List ℤ) (w bs : List ℕ) (v : Verdict) : Type 0 where
  pub table : Table
  pub is_file : code_file file ≡ gives table
  pub word : length (bits_of w) ≡ table.bits
  pub scale : 1 ≤ scale_of bs
  pub good : Good (rows_at table (items_of bs))
  pub implied : Implied table (rows_at table (items_of bs))
  pub says : verdict table (scale_of bs) l (rows_at table (items_of bs)) (bits_of w) ≡ v

pub judged : (file : List ℕ) (l : List ℤ) (w bs : List ℕ) (v : Verdict) → judge file l w bs ≡ gives v → Judged file l w bs v
unfolding judge on_frame on_word on_certificate
judged file l w bs v e = go (then-gives (code_file file) _ v e)
  where
    after : (t : Table) → code_file file ≡ gives t
        → on_frame t l (on_word t w (on_certificate t bs (gives (verdict t (scale_of bs) l (rows_at t (items_of bs)) (bits_of w))))) ≡ gives v → Judged file l w bs v
    after t is_file h =
        let p1 = must-gives (eqb (length l) t.bits) frame_length _ v h in
        let p2 = must-gives (each_within frame_limit l) frame_range _ v p1.1 in
        let p3 = must-gives (eqb (length w) t.bits && each_bit w) word_wrong _ v p2.1 in
        let p4 = must-gives (length_right bs) certificate_wrong _ v p3.1 in
        let p5 = must-gives (in_range 1 max_scale (scale_of bs)) scale_range _ v p4.1 in
        let p6 = items-placed t none (items_of bs) (gives (verdict t (scale_of bs) l (rows_at t (items_of bs)) (bits_of w))) v p5.1 in
        record {
          table = t;
          is_file = is_file;
          word = bits-length w ∙ eqb-true (length w) t.bits (and_both (eqb (length w) t.bits) (each_bit w) p3.0).0;
          scale = (range-both 1 max_scale (scale_of bs) p5.0).0;
          good = items-good t (items_of bs) p6.0;
          implied = λ d f k. items_kept t d f (items_of bs) (file-sound file t is_file).below k p6.0;
          says = gives-inj (verdict t (scale_of bs) l (rows_at t (items_of bs)) (bits_of w)) v p6.1;
        }

    go : Followed (code_file file) (λ t. on_frame t l (on_word t w (on_certificate t bs (gives (verdict t (scale_of bs) l (rows_at t (items_of bs)) (bits_of w)))))) v → Judged file l w bs v
    go f = after f.value f.first f.second

-- the gap of the word and the certificate, as they are read
abbrev pub gap_read : Table → List ℤ → List ℕ → List ℕ → ℤ
gap_read t l w bs = gap t.bits (scale_of bs) l (rows_at t (items_of bs)) (bits_of w)

-- and whether none of their reduced numbers is 0
abbrev pub sole_read : Table → List ℤ → List ℕ → Bool
sole_read t l bs = sole t.bits (scale_of bs) l (rows_at t (items_of bs))

-- what is known of a word and a certificate that pass
record Certain (t : Table) (l : List ℤ) (w bs : List ℕ) (m : Bool) : Type 0 where
  pub is_codeword : Codeword t (bits_of w)
  pub scale : 1 ≤ scale_of bs
  pub implied : Implied t (rows_at t (items_of bs))
  pub no_gap : gap_read t l w bs ≡ pos 0
  pub mark : sole_read t l bs ≡ m

module _ (file : List ℕ) (l : List ℤ) (w bs : List ℕ) (t : Table) (is_file : code_file file ≡ gives t) where
  judge-certain : (m : Bool) → judge file l w bs ≡ gives (passes m) → Certain t l w bs m
  unfolding verdict
  judge-certain m e =
      let j = judged file l w bs (passes m) e in
      let p = weigh-passes (first_broken 0 (bits_of w) j.table.checks) (gap_read j.table l w bs) (sole_read j.table l bs) m j.says in
      subst (λ x. Certain x l w bs m) (gives-inj j.table t (sym j.is_file ∙ is_file)) (record {
        is_codeword = record { size = j.word; even = none-broken 0 (bits_of w) j.table.checks p.0 };
        scale = j.scale;
        implied = j.implied;
        no_gap = p.1;
        mark = p.2;
      })

  -- whatever is known of the mark, it is that of the certificate's own reduced numbers
  pub judge-marked : (m : Bool) → judge file l w bs ≡ gives (passes m) → judge file l w bs ≡ gives (passes (sole_read t l bs))
  judge-marked m e = e ∙ ap (λ b. gives (passes b)) (sym (judge-certain m e).mark)

  -- "certified" is beyond doubt
  pub judge-best : (m : Bool) → judge file l w bs ≡ gives (passes m) → Best t l (bits_of w)
  judge-best m e =
      let c = judge-certain m e in
      gap-optimal t (scale_of bs) l (rows_at t (items_of bs)) c.implied (bits_of w) c.scale c.is_codeword c.no_gap

  -- and so is its mark
  pub judge-sole : judge file l w bs ≡ gives (passes true) → SoleWinner t l (bits_of w)
  judge-sole e =
      let c = judge-certain true e in
      sole-winner t (scale_of bs) l (rows_at t (items_of bs)) c.implied (bits_of w) c.is_codeword c.no_gap c.mark

positive : (g : ℤ) → pos 0 ⩽ g → is_zero g ≡ false → pos 0 <ℤ g
positive (pos zero) h e = absurd (false≢true (sym e))
positive (pos (suc n)) h e = simp lin (omega arith_z)
positive (negsuc n) h e = absurd h.le

-- "else the gap, which is then positive"
pub judge-positive : (file : List ℕ) (l : List ℤ) (w bs : List ℕ) (g : ℤ) → judge file l w bs ≡ gives (misses g) → pos 0 <ℤ g
unfolding verdict
judge-positive file l w bs g e = subst (λ z. pos 0 <ℤ z) p.1 (positive (gap_read j.table l w bs)
    (gap-nonneg j.table (scale_of bs) l (rows_at j.table (items_of bs)) j.implied (bits_of w) (none-broken 0 (bits_of w) j.table.checks p.0)) p.2)
  where
    j : Judged file l w bs (misses g)
    j = judged file l w bs (misses g) e

    p : (first_broken 0 (bits_of w) j.table.checks ≡ none) × (gap_read j.table l w bs ≡ g) × (is_zero (gap_read j.table l w bs) ≡ false)
    p = weigh-misses (first_broken 0 (bits_of w) j.table.checks) (gap_read j.table l w bs) g (sole_read j.table l bs) j.says
