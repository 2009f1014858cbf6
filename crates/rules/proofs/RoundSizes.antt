-- How long a round's results are, and so what its writing leaves of each buffer: what is past the stated lengths, and its own state. Assumes nothing.
use mathlib.Core.Path.{◌≡◌, refl, sym, ◌∙◌, ap}
use mathlib.Core.Bool.{Bool, ◌&&◌}
use mathlib.Core.List.{List, [], ◌∷◌}
use mathlib.Core.Option.{Option, some, none}
use Prim.Native.Nat.{ℕ, zero, suc, ◌+◌, ◌*◌, ◌<◌, ◌≤◌}
use native.Mathlib.Omega.{arith}
use native.Mathlib.Nat.{le_of_eq, le_of_suc-le-suc, le_refl, le_trans}
use lib.ListN.{length}
use lib.Seq.{take-take}
use lib.IntN.{ℤ}
use Rattle.rules.specs.Limits.{unit, certificate_length}
use Rattle.rules.specs.Table.{Table, edges_of, checks_of, at}
use Rattle.rules.specs.Parity.{meets}
use Rattle.rules.specs.Step.{Entry}
use Rattle.rules.specs.Bound.{Row, rows_of, gap}
use Rattle.rules.specs.Round.{State, entries_in, bit_of, join, candidate, is_zero, certify, first_of, sums_of, Round, round}
use Rattle.rules.specs.Certificate.{cuts_in, certificate_of}
use Rattle.rules.specs.Buffers.{by_name, copies, offsets, sums, Buffers, Lengths, lengths_of, Part, needs, part_of, multipliers_of, masks_of, bytes_of, word_left, certificate_left, leaves}
use Rattle.rules.specs.Run.{written, state_in, sums_in}
use Rattle.rules.proofs.Basics.{none≢some, some_inj}
use Rattle.rules.proofs.Pass.{state-eq, spins_in, steps_in, steps-laid, entries-length, depths-length, copies_length, offsets-length}
use Rattle.rules.proofs.Optimal.{keep-is}
use Rattle.rules.proofs.Written.{cuts-few, certificate-length}
use Rattle.rules.proofs.WrittenPasses.{bytes-length}
use Rattle.rules.proofs.BufferLaws.{take-over, AllPast, Small, write-past, write-part}

-- ---- lengths
pub first-length : (n : ℕ) (f : ℕ → ℤ) → length (first_of n f) ≡ n
first-length zero f = refl
first-length (suc n) f = ap suc (first-length n (λ i. f (suc i)))

-- and what stands there
pub first-at : (n : ℕ) (f : ℕ → ℤ) (i : ℕ) → i < n → at (first_of n f) i ≡ f i
first-at zero f i h = absurd (omega arith)
first-at (suc n) f zero h = refl
first-at (suc n) f (suc i) h = first-at n (λ i. f (suc i)) i (le_of_suc-le-suc h)

join-length : (n : ℕ) (o : Option Bool) (p : Option (List Bool)) (w : List Bool) → ((v : List Bool) → p ≡ some v → length v ≡ n) → join o p ≡ some w → length w ≡ suc n
join-length n none p w h e = absurd (none≢some e)
join-length n (some b) none w h e = absurd (none≢some e)
join-length n (some b) (some v) w h e = ap length (sym (some_inj (b ∷ v) w e)) ∙ ap suc (h v refl)

candidate-length : (n : ℕ) (f : ℕ → ℤ) (w : List Bool) → candidate n f ≡ some w → length w ≡ n
candidate-length zero f w e = ap length (sym (some_inj [] w e))
candidate-length (suc n) f w e = join-length n (bit_of (f 0)) (candidate n (λ i. f (suc i))) w (candidate-length n (λ i. f (suc i))) e

certify-is : (t : Table) (l : List ℤ) (rs : List Row) (o : Option (List Bool)) (w : List Bool) → certify t l rs o ≡ some w → o ≡ some w
certify-is t l rs none w e = absurd (none≢some e)
certify-is t l rs (some v) w e = ap some (keep-is (meets v t.checks && is_zero (gap t.bits 1 l rs v)) v w e).1

pub multipliers-length : (es : List Entry) → length (multipliers_of es) ≡ length es
multipliers-length [] = refl
multipliers-length (e ∷ es) = ap suc (multipliers-length es)

pub masks-length : (es : List Entry) → length (masks_of es) ≡ length es
masks-length [] = refl
masks-length (e ∷ es) = ap suc (masks-length es)

pub record Sized (t : Table) (d : Round) : Type 0 where
  pub spins : length d.spins ≡ t.bits
  pub copies : length d.state.copies ≡ edges_of t
  pub offsets : length d.state.offsets ≡ edges_of t
  pub sums : length d.sums ≡ t.bits
  pub multipliers : length (multipliers_of d.entries) ≡ checks_of t
  pub masks : length (masks_of d.entries) ≡ checks_of t
  pub depths : length d.depths ≡ checks_of t
  pub word : (w : List Bool) → d.word ≡ some w → length (bytes_of w) ≡ t.bits
  pub certificate : length (certificate_of d.entries) ≤ certificate_length (checks_of t)

pub round-sized : (t : Table) (l : List ℤ) (s : State) → Sized t (round t l s)
unfolding round sums_of
round-sized t l s = record {
  spins = first-length t.bits (spins_in t l s);
  copies = copies_length unit t.checks (steps_in t l s) (steps-laid t l s);
  offsets = offsets-length unit t.checks (steps_in t l s) (steps-laid t l s);
  sums = first-length t.bits _;
  multipliers = multipliers-length es ∙ many;
  masks = masks-length es ∙ many;
  depths = depths-length unit t.checks (steps_in t l s) (steps-laid t l s);
  word = λ w e. bytes-length w ∙ candidate-length t.bits (spins_in t l s) w (certify-is t l (rows_of t.checks es) (candidate t.bits (spins_in t l s)) w e);
  certificate = room (length (certificate_of es)) (cuts_in es) (length es) (checks_of t) (certificate-length es) (cuts-few es) many;
}
  where
    es : List Entry
    es = entries_in (steps_in t l s)

    many : length es ≡ checks_of t
    many = entries-length unit t.checks (steps_in t l s) (steps-laid t l s)

    room : (a c n m : ℕ) → a ≡ 4 + 10 * c → c ≤ n → n ≡ m → a ≤ 4 + 10 * m
    room a c n m p q r = omega arith

-- ---- what writing leaves
up_to : {a b c : ℕ} → a ≡ b → b ≤ c → a ≤ c
up_to e h = le_trans (le_of_eq e) h

none-small : {A : Type 0} (n : ℕ) (new : List A) → none ≡ some new → length new ≤ n
none-small n new e = absurd (none≢some e)

word_small : (n : ℕ) (o : Option (List Bool)) → ((w : List Bool) → o ≡ some w → length (bytes_of w) ≡ n) → (new : List ℕ) → word_left o ≡ some new → length new ≤ n
word_small n none h new e = none-small n new e
word_small n (some w) h new e = up_to (ap length (sym (some_inj (bytes_of w) new e)) ∙ h w refl) (le_refl n)

certificate-small : (n : ℕ) (o : Option (List Bool)) (es : List Entry) → length (certificate_of es) ≤ n → (new : List ℕ) → certificate_left o es ≡ some new → length new ≤ n
certificate-small n none es h new e = none-small n new e
certificate-small n (some w) es h new e = up_to (ap length (sym (some_inj (certificate_of es) new e))) h

all_small : {A : Type 0} (n : ℕ) (l : List A) → length l ≡ n → (new : List A) → some l ≡ some new → length new ≤ n
all_small n l h new e = up_to (ap length (sym (some_inj l new e)) ∙ h) (le_refl n)

-- what a round writes fits
pub leaves-small : (t : Table) (d : Round) → Sized t d → Small (needs t) (leaves d)
leaves-small t d s = by_name (search (all_small, word_small, certificate-small, none-small))

pub written-past : (t : Table) (d : Round) (b : Buffers) → Sized t d → Part (needs t) (lengths_of b) → AllPast (needs t) (written d b) b
written-past t d b s h = write-past (needs t) (leaves d) b (leaves-small t d s) h

-- the state that a round leaves is read back
pub state-written : (t : Table) (d : Round) (b : Buffers) → Sized t d → state_in t (written d b) ≡ d.state
state-written t d b s = state-eq (take-over (edges_of t) d.state.copies b.copies s.copies) (take-over (edges_of t) d.state.offsets b.offsets s.offsets)

pub sums-written : (t : Table) (d : Round) (b : Buffers) → Sized t d → sums_in t (written d b) ≡ d.sums
sums-written t d b s = take-over t.bits d.sums b.sums s.sums

-- ---- and a part that is long enough
pub state-part : (t : Table) (n : Lengths) (b : Buffers) → Part (needs t) n → state_in t (part_of n b) ≡ state_in t b
state-part t n b h = state-eq (take-take (edges_of t) (n copies) b.copies (h copies)) (take-take (edges_of t) (n offsets) b.offsets (h offsets))

pub sums_part : (t : Table) (n : Lengths) (b : Buffers) → Part (needs t) n → sums_in t (part_of n b) ≡ sums_in t b
sums_part t n b h = take-take t.bits (n sums) b.sums (h sums)

pub written-part : (t : Table) (d : Round) (n : Lengths) (b : Buffers) → Sized t d → Part (needs t) n → written d (part_of n b) ≡ part_of n (written d b)
written-part t d n b s h = write-part n (leaves d) b (λ x new e. le_trans (leaves-small t d s x new e) (h x))
