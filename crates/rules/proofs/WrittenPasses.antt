-- "Those the decoder writes pass": the word and the certificate of a certifying round, handed to the judge with that frame and code file, are
-- certified. Assumes nothing.
use mathlib.Core.Path.{◌≡◌, refl, sym, ◌∙◌, ap, ap₂, subst}
use mathlib.Core.Bool.{Bool, true, false, ◌&&◌, ◌||◌}
use mathlib.Core.List.{List, [], ◌∷◌}
use mathlib.Core.Option.{Option, some, none}
use Prim.Native.Nat.{ℕ, suc, ◌+◌, ◌*◌, ◌^◌, ◌≤◌, ◌<◌}
use native.Mathlib.Omega.{arith}
use native.Mathlib.Nat.{zero-add, add-zero, le_of_eq}
use lib.Dec.{leb, ltb, eqb}
use lib.Pow.{pow_mono}
use borrow.Author.Tests.{lt-ltb, le-leb, eq-eqb, ltb-false}
use lib.ListN.{length, get_or}
use lib.IntN.{ℤ}
use Rattle.integers.specs.Count.{first-in}
use Rattle.rules.specs.Bytes.{u16_limit, u32_limit}
use Rattle.rules.specs.Limits.{frame_limit, max_entries, max_scale, max_multiplier, max_checks, certificate_length}
use Rattle.rules.specs.Refusal.{Answer, gives, frame_length, frame_range, word_wrong, certificate_wrong, scale_range, entry_range, mask_wrong, entry_order}
use Rattle.rules.specs.Table.{Table, checks_of}
use Rattle.rules.specs.Mask.{digit, mask_of, set_of, mask_right}
use Rattle.rules.specs.CodeFile.{in_range, code_file}
use Rattle.rules.specs.Sound.{Degrees, Sound}
use Rattle.rules.specs.Input.{each_within, on_frame, each_bit, on_word, bits_of}
use Rattle.rules.specs.Step.{Entry, inactive, active}
use Rattle.rules.specs.Bound.{Row, rows_of}
use Rattle.rules.specs.Certificate.{cuts_in, certificate_of, Item, members_at, follows, on_item, on_items, entries_of, scale_of, items_of, on_certificate, rows_at}
use Rattle.rules.specs.Sole.{sole}
use Rattle.rules.specs.Judge.{passes, verdict, judge, weigh}
use Rattle.rules.specs.Buffers.{bytes_of}
use Rattle.rules.specs.Run.{too_large}
use Rattle.rules.proofs.Basics.{or-false}
use Rattle.rules.proofs.Signs.{alike-length}
use Rattle.rules.proofs.Masks.{digit-back, set-mask, mask_below, set-right}
use Rattle.rules.proofs.AnswerLaws.{must-true, then-of}
use Rattle.rules.proofs.Tables.{file-sound}
use Rattle.rules.proofs.Steps.{Proper}
use Rattle.rules.proofs.Optimal.{Passed}
use Rattle.rules.proofs.Written.{cuts-few, certificate-length, entries-written, scale-written, item_of, listed, Narrow, items-written}
use Rattle.rules.proofs.Judged.{meets-none}

-- ---- a word's bytes
pub bits-bytes : (w : List Bool) → bits_of (bytes_of w) ≡ w
bits-bytes [] = refl
bits-bytes (b ∷ w) = ap₂ ◌∷◌ (digit-back b) (bits-bytes w)

digit-small : (b : Bool) → leb (digit b) 1 ≡ true
digit-small true = refl
digit-small false = refl

each-bit : (w : List Bool) → each_bit (bytes_of w) ≡ true
each-bit [] = refl
each-bit (b ∷ w) = ap₂ ◌&&◌ (digit-small b) (each-bit w)

pub bytes-length : (w : List Bool) → length (bytes_of w) ≡ length w
bytes-length [] = refl
bytes-length (b ∷ w) = ap suc (bytes-length w)

-- ---- entries that a round can have: as long as their checks, odd, with multipliers in range
abbrev pub AllProper : List (List ℕ) → List Entry → Type 0
AllProper [] [] = Unit {0}
AllProper [] (e ∷ es) = ⊥
AllProper (ms ∷ cs) [] = ⊥
AllProper (ms ∷ cs) (e ∷ es) = Proper ms e × AllProper cs es

narrow : (cs : List (List ℕ)) (es : List Entry) → Degrees cs → AllProper cs es → too_large es ≡ false → Narrow es
narrow cs [] d p b = tt
narrow [] (e ∷ es) d p b = absurd p
narrow (ms ∷ cs) (inactive ∷ es) d p b = (omega arith, omega arith, narrow cs es d.1 p.1 (or-false (ltb max_multiplier 0) (too_large es) b).1)
narrow (ms ∷ cs) (active m ts ∷ es) d p b = (
  fits m (ltb-false max_multiplier m (or-false (ltb max_multiplier m) (too_large es) b).0),
  below (mask_of ts) (2 ^ length ts) (mask_below ts) (pow_mono (subst (λ n. n ≤ 32) (alike-length ts ms p.0.1) d.0)),
  narrow cs es d.1 p.1 (or-false (ltb max_multiplier m) (too_large es) b).1,
)
  where
    fits : (m : ℕ) → m ≤ max_multiplier → m < u32_limit
    fits m h = omega arith

    below : (m p : ℕ) → m < p → p ≤ 2 ^ 32 → m < u32_limit
    below m p h k = omega arith

proper-many : (cs : List (List ℕ)) (es : List Entry) → AllProper cs es → length es ≡ length cs
proper-many [] [] p = refl
proper-many [] (e ∷ es) p = absurd p
proper-many (ms ∷ cs) [] p = absurd p
proper-many (ms ∷ cs) (e ∷ es) p = ap suc (proper-many cs es p.1)

-- ---- the checks from number j on, as the table has them
pub record From (t : Table) (j : ℕ) (cs : List (List ℕ)) : Type 0 where
  pub at : (i : ℕ) → members_at t (j + i) ≡ get_or cs i []
  pub many : j + length cs ≡ checks_of t

from_start : (t : Table) → From t 0 t.checks
from_start t = record { at = λ i. ap (members_at t) (zero-add i); many = zero-add (length t.checks) }

from_next : (t : Table) (j : ℕ) (ms : List ℕ) (cs : List (List ℕ)) → From t j (ms ∷ cs) → From t (suc j) cs
from_next t j ms cs f = record { at = λ i. ap (members_at t) (shift j i) ∙ f.at (suc i); many = shift j (length cs) ∙ f.many }
  where
    shift : (j i : ℕ) → suc j + i ≡ j + suc i
    shift j i = omega arith

from-here : (t : Table) (j : ℕ) (ms : List ℕ) (cs : List (List ℕ)) → From t j (ms ∷ cs) → members_at t j ≡ ms
from-here t j ms cs f = ap (members_at t) (sym (add-zero j)) ∙ f.at 0

from-below : (t : Table) (j : ℕ) (ms : List ℕ) (cs : List (List ℕ)) → From t j (ms ∷ cs) → j < checks_of t
from-below t j ms cs f = first-in j (length cs) (checks_of t) (le_of_eq f.many)

row-eq : {ms ms' : List ℕ} {b : ℕ} {ts ts' : List Bool} → ms ≡ ms' → ts ≡ ts' → ◌≡◌ {A = Row} (record { members = ms; multiplier = b; set = ts }) (record { members = ms'; multiplier = b; set = ts' })
row-eq {b = b} p q = λ i. record { members = p i; multiplier = b; set = q i }

-- the rows that the judge reads are those of the round
rows-listed : (t : Table) (j : ℕ) (cs : List (List ℕ)) (es : List Entry) → From t j cs → AllProper cs es → rows_at t (listed j es) ≡ rows_of cs es
rows-listed t j [] [] f p = refl
rows-listed t j [] (e ∷ es) f p = absurd p
rows-listed t j (ms ∷ cs) [] f p = absurd p
rows-listed t j (ms ∷ cs) (inactive ∷ es) f p = rows-listed t (suc j) cs es (from_next t j ms cs f) p.1
rows-listed t j (ms ∷ cs) (active b ts ∷ es) f p = ap₂ ◌∷◌
    (row-eq (from-here t j ms cs f) (ap (λ m. set_of (length m) (mask_of ts)) (from-here t j ms cs f) ∙ ap (λ n. set_of n (mask_of ts)) (alike-length ts ms p.0.1) ∙ set-mask ts))
    (rows-listed t (suc j) cs es (from_next t j ms cs f) p.1)

-- ---- and they pass 12, 13 and 14
abbrev Before : Option Item → ℕ → Type 0
Before none j = Unit {0}
Before (some i) j = i.check < j

before-next : (p : Option Item) (j : ℕ) → Before p j → Before p (suc j)
before-next none j h = tt
before-next (some i) j h = omega arith

follows_on : (p : Option Item) (i : Item) → Before p i.check → follows p i ≡ true
unfolding follows
follows_on none i h = refl
follows_on (some p) i h = ap (λ b. b || (eqb p.check i.check && ltb p.mask i.mask)) (lt-ltb p.check i.check h)

module _ {A : Type 0} (t : Table) where
  item-right : (p : Option Item) (j b : ℕ) (ts : List Bool) (a : Answer A) → j < checks_of t → Proper (members_at t j) (active b ts) → b ≤ max_multiplier → Before p j
      → on_item t p (item_of j b ts) a ≡ a
  unfolding on_item in_range
  item-right p j b ts a inside proper hi bf =
      must-true (ltb j (checks_of t) && (leb 1 b && leb b max_multiplier)) entry_range _ (ap₂ ◌&&◌ (lt-ltb j (checks_of t) inside) (ap₂ ◌&&◌ (le-leb 1 b proper.2) (le-leb b max_multiplier hi)))
      ∙ must-true (mask_right (length (members_at t j)) (mask_of ts)) mask_wrong _ (set-right (length (members_at t j)) ts (sym (alike-length ts (members_at t j) proper.1)) proper.0)
      ∙ must-true (follows p (item_of j b ts)) entry_order a (follows_on p (item_of j b ts) bf)

  items-right : (p : Option Item) (j : ℕ) (cs : List (List ℕ)) (es : List Entry) (a : Answer A) → From t j cs → AllProper cs es → too_large es ≡ false → Before p j
      → on_items t p (listed j es) a ≡ a
  unfolding on_items
  items-right p j [] [] a f q b h = refl
  items-right p j [] (e ∷ es) a f q b h = absurd q
  items-right p j (ms ∷ cs) [] a f q b h = absurd q
  items-right p j (ms ∷ cs) (inactive ∷ es) a f q b h = items-right p (suc j) cs es a (from_next t j ms cs f) q.1 (or-false (ltb max_multiplier 0) (too_large es) b).1 (before-next p j h)
  items-right p j (ms ∷ cs) (active m ts ∷ es) a f q b h =
      item-right p j m ts (on_items t (some (item_of j m ts)) (listed (suc j) es) a) (from-below t j ms cs f)
      (subst (λ l. Proper l (active m ts)) (sym (from-here t j ms cs f)) q.0) (ltb-false max_multiplier m (or-false (ltb max_multiplier m) (too_large es) b).0) h
      ∙ items-right (some (item_of j m ts)) (suc j) cs es a (from_next t j ms cs f) q.1 (or-false (ltb max_multiplier m) (too_large es) b).1 (omega arith)

-- ---- the whole certificate
-- an entry for each check: the number of cuts reads back
pub checks-written : (es : List Entry) {m : ℕ} → length es ≡ m → m ≤ max_checks → entries_of (certificate_of es) ≡ cuts_in es
checks-written es {m} e h = entries-written es (fewer (cuts_in es) (length es) m (cuts-few es) e h)
  where
    fewer : (q n m : ℕ) → q ≤ n → n ≡ m → m ≤ max_checks → q < u16_limit
    fewer q n m h e k = omega arith

items_back : (t : Table) (es : List Entry) → Sound t → AllProper t.checks es → too_large es ≡ false → items_of (certificate_of es) ≡ listed 0 es
items_back t es s p b = items-written es (wide (length es) (checks_of t) (proper-many t.checks es p) s.checks.1) (narrow t.checks es s.degrees p b)
  where
    wide : (n m : ℕ) → n ≡ m → m ≤ max_checks → n < u16_limit
    wide n m e h = omega arith

certificate-right : {A : Type 0} (t : Table) (es : List Entry) (a : Answer A) → Sound t → AllProper t.checks es → too_large es ≡ false → on_certificate t (certificate_of es) a ≡ a
unfolding on_certificate in_range
certificate-right t es a s p b =
    must-true _ certificate_wrong _
    (ap₂ ◌&&◌ (ap₂ ◌&&◌ (le-leb 4 (length (certificate_of es)) (four (cuts_in es) (length (certificate_of es)) (certificate-length es)))
    (le-leb (entries_of (certificate_of es)) max_entries (few (entries_of (certificate_of es)) (cuts_in es) (length es) (checks_of t) count (cuts-few es) many s.checks.1)))
    (eq-eqb (length (certificate_of es)) (certificate_length (entries_of (certificate_of es))) (certificate-length es ∙ ap certificate_length (sym count))))
    ∙ must-true (leb 1 (scale_of (certificate_of es)) && leb (scale_of (certificate_of es)) max_scale) scale_range _ (ap (λ n. leb 1 n && leb n max_scale) (scale-written es))
    ∙ ap (λ is. on_items t none is a) (items_back t es s p b)
    ∙ items-right t none 0 t.checks es a (from_start t) p b tt
  where
    many : length es ≡ checks_of t
    many = proper-many t.checks es p

    four : (q n : ℕ) → n ≡ 4 + 10 * q → 4 ≤ n
    four q n e = omega arith

    count : entries_of (certificate_of es) ≡ cuts_in es
    count = checks-written es many s.checks.1

    few : (x q n m : ℕ) → x ≡ q → q ≤ n → n ≡ m → m ≤ max_checks → x ≤ max_entries
    few x q n m e h f k = omega arith

-- a frame that passes 8 and 9
pub record Framed (t : Table) (l : List ℤ) : Type 0 where
  pub size : length l ≡ t.bits
  pub range : each_within frame_limit l ≡ true

-- a word and entries as a certifying round has them: gap 0 on the entries' rows
pub record Closes (t : Table) (l : List ℤ) (w : List Bool) (es : List Entry) : Type 0 where
  pub long : length w ≡ t.bits
  pub proper : AllProper t.checks es
  pub small : too_large es ≡ false
  pub passed : Passed t l (rows_of t.checks es) w

module _ (file : List ℕ) (t : Table) (is_file : code_file file ≡ gives t) where
  -- the judge certifies the word by the entries' bytes, and marks it by their rows
  pub written-passes : (l : List ℤ) (w : List Bool) (es : List Entry) → Framed t l → Closes t l w es
      → judge file l (bytes_of w) (certificate_of es) ≡ gives (passes (sole t.bits 1 l (rows_of t.checks es)))
  unfolding judge on_frame on_word verdict
  written-passes l w es f c =
      then-of (code_file file) t _ is_file
      ∙ must-true (eqb (length l) t.bits) frame_length _ (eq-eqb (length l) t.bits f.size)
      ∙ must-true (each_within frame_limit l) frame_range _ f.range
      ∙ must-true (eqb (length (bytes_of w)) t.bits && each_bit (bytes_of w)) word_wrong _ (ap₂ ◌&&◌ (eq-eqb (length (bytes_of w)) t.bits (bytes-length w ∙ c.long)) (each-bit w))
      ∙ certificate-right t es _ (file-sound file t is_file) c.proper c.small
      ∙ ap (λ v. gives v) (ap₂ (λ rs x. verdict t (scale_of (certificate_of es)) l rs x) rows (bits-bytes w) ∙ ap (λ s. verdict t s l (rows_of t.checks es) w) (scale-written es)
      ∙ ap₂ (λ o g. weigh o g (sole t.bits 1 l (rows_of t.checks es))) (meets-none 0 w t.checks c.passed.legal) c.passed.closed)
    where
      rows : rows_at t (items_of (certificate_of es)) ≡ rows_of t.checks es
      rows = ap (rows_at t) (items_back t es (file-sound file t is_file) c.proper c.small) ∙ rows-listed t 0 t.checks es (from_start t) c.proper
