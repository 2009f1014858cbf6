-- The lent buffers of a run, each told once: its name, what it holds, how long it must be, whether a start zeroes it, and what a round writes to it
-- (document 01, "41 a lent buffer too short", "Starting a run zeroes", "Bytes past the stated lengths never change"). A new buffer is one line more in
-- each table here. Definitions only. Assumes nothing.
use Rattle.std.specs.Prelude.{Bool, true, false, cond, not, ◌&&◌, ◌||◌, List, [], ◌∷◌, ◌++◌, ℕ, ◌≤◌, leb, length, take, drop, replicate, ℤ, pos}
use Rattle.std.proofs.Math.Option.{Option, some, none}
use Rattle.rules.specs.Limits.{certificate_length}
use Rattle.rules.specs.Table.{Table, edges_of, checks_of}
use Rattle.rules.specs.Mask.{digit, mask_of}
use Rattle.rules.specs.Step.{Entry, inactive, active}
use Rattle.rules.specs.Round.{Round}
use Rattle.rules.specs.Certificate.{certificate_of}

-- ---- names, and what each holds
pub data Buffer : Type 0 where
  spins : Buffer
  copies : Buffer
  offsets : Buffer
  sums : Buffer
  multipliers : Buffer
  masks : Buffer
  depths : Buffer
  word : Buffer
  certificate : Buffer

-- signed numbers or not
pub data Sign : Type 0 where
  signed : Sign
  unsigned : Sign

abbrev pub sign_of : Buffer → Sign
sign_of spins = signed
sign_of copies = signed
sign_of offsets = signed
sign_of sums = signed
sign_of multipliers = unsigned
sign_of masks = unsigned
sign_of depths = unsigned
sign_of word = unsigned
sign_of certificate = unsigned

abbrev Number : Sign → Type 0
Number signed = ℤ
Number unsigned = ℕ

abbrev nought_of : (a : Sign) → Number a
nought_of signed = pos 0
nought_of unsigned = 0

abbrev pub Elem : Buffer → Type 0
Elem x = Number (sign_of x)

abbrev pub nought : (x : Buffer) → Elem x
nought x = nought_of (sign_of x)

-- something of each, and so of any
pub record Each (P : Buffer → Type 0) : Type 0 where
  pub spins : P spins
  pub copies : P copies
  pub offsets : P offsets
  pub sums : P sums
  pub multipliers : P multipliers
  pub masks : P masks
  pub depths : P depths
  pub word : P word
  pub certificate : P certificate

abbrev pub by_name : {P : Buffer → Type 0} → Each P → (x : Buffer) → P x
by_name e spins = e.spins
by_name e copies = e.copies
by_name e offsets = e.offsets
by_name e sums = e.sums
by_name e multipliers = e.multipliers
by_name e masks = e.masks
by_name e depths = e.depths
by_name e word = e.word
by_name e certificate = e.certificate

abbrev pub each : {P : Buffer → Type 0} → ((x : Buffer) → P x) → Each P
each f = record {
  spins = f spins;
  copies = f copies;
  offsets = f offsets;
  sums = f sums;
  multipliers = f multipliers;
  masks = f masks;
  depths = f depths;
  word = f word;
  certificate = f certificate;
}

abbrev pub every : (Buffer → Bool) → Bool
every p = p spins && (p copies && (p offsets && (p sums && (p multipliers && (p masks && (p depths && (p word && p certificate)))))))

-- the buffers, and one by its name
abbrev pub Buffers : Type 0
Buffers = Each (λ x. List (Elem x))

abbrev pub the : (x : Buffer) → Buffers → List (Elem x)
the x b = by_name b x

-- as a call is lent them, in the order of its parameters
abbrev pub lent : List ℤ → List ℤ → List ℤ → List ℤ → List ℕ → List ℕ → List ℕ → List ℕ → List ℕ → Buffers
lent p z y x b k d w c = record { spins = p; copies = z; offsets = y; sums = x; multipliers = b; masks = k; depths = d; word = w; certificate = c }

-- ---- lengths
abbrev pub Lengths : Type 0
Lengths = Buffer → ℕ

abbrev pub lengths_of : Buffers → Lengths
lengths_of b x = length (the x b)

-- "spins n; copies, offsets E; multipliers, masks m; word n; certificate 4 + 10m", sums n and depths m
abbrev pub needs_by : ℕ → ℕ → ℕ → Lengths
needs_by n m e spins = n
needs_by n m e copies = e
needs_by n m e offsets = e
needs_by n m e sums = n
needs_by n m e multipliers = m
needs_by n m e masks = m
needs_by n m e depths = m
needs_by n m e word = n
needs_by n m e certificate = certificate_length m

abbrev pub needs : Table → Lengths
needs t = needs_by t.bits (checks_of t) (edges_of t)

-- each length of the first is at most the second's
abbrev pub Part : Lengths → Lengths → Type 0
Part a b = (x : Buffer) → a x ≤ b x

unfoldable pub fits : Lengths → Lengths → Bool
fits a b = every (λ x. leb (a x) (b x))

abbrev pub blank : Lengths → Buffers
blank n = each (λ x. replicate (n x) (nought x))

-- ---- parts and writing
-- the first part of each buffer
abbrev pub part_of : Lengths → Buffers → Buffers
part_of n b = each (λ x. take (n x) (the x b))

-- written from the front; what is past it stays
abbrev pub over : {A : Type 0} → List A → List A → List A
over new old = new ++ drop (length new) old

abbrev pub over_all : Buffers → Buffers → Buffers
over_all new old = each (λ x. over (the x new) (the x old))

-- what is written to each buffer; none where it is left alone
abbrev pub Writes : Type 0
Writes = (x : Buffer) → Option (List (Elem x))

abbrev pub over_by : {A : Type 0} → Option (List A) → List A → List A
over_by none old = old
over_by (some new) old = over new old

abbrev pub write : Writes → Buffers → Buffers
write w b = each (λ x. over_by (w x) (the x b))

-- ---- a start: "Starting a run zeroes the first E copies and offsets", and the first n sums
-- the first that a run lends it to: a start; a round; its end, "Certified writes word and certificate"
pub data Stage : Type 0 where
  start : Stage
  round : Stage
  end : Stage

abbrev pub lent_from : Buffer → Stage
lent_from spins = round
lent_from copies = start
lent_from offsets = start
lent_from sums = start
lent_from multipliers = round
lent_from masks = round
lent_from depths = round
lent_from word = end
lent_from certificate = end

abbrev at_start : Stage → Bool
at_start start = true
at_start round = false
at_start end = false

abbrev pub zeroed : Buffer → Bool
zeroed x = at_start (lent_from x)

abbrev pub zeros : ℕ → List ℤ
zeros e = replicate e (pos 0)

-- the buffers that a start is lent, in the order of its parameters
abbrev pub start_lent : List ℤ → List ℤ → List ℤ → Buffers
start_lent z y x = lent [] z y x [] [] [] [] []

-- 41 looks at those that it zeroes
unfoldable pub fits_start : Table → Lengths → Bool
fits_start t n = every (λ x. not (zeroed x) || leb (needs t x) (n x))

abbrev pub zeroing : Table → Writes
zeroing t x = cond (zeroed x) (some (replicate (needs t x) (nought x))) none

-- ---- a round
abbrev pub multiplier_of : Entry → ℕ
multiplier_of inactive = 0
multiplier_of (active b ts) = b

abbrev pub multipliers_of : List Entry → List ℕ
multipliers_of [] = []
multipliers_of (e ∷ es) = multiplier_of e ∷ multipliers_of es

abbrev pub mask_in : Entry → ℕ
mask_in inactive = 0
mask_in (active b ts) = mask_of ts

abbrev pub masks_of : List Entry → List ℕ
masks_of [] = []
masks_of (e ∷ es) = mask_in e ∷ masks_of es

abbrev pub bytes_of : List Bool → List ℕ
bytes_of [] = []
bytes_of (b ∷ bs) = digit b ∷ bytes_of bs

-- "Certified writes word and certificate; other endings don't touch them"
abbrev pub word_left : Option (List Bool) → Option (List ℕ)
word_left none = none
word_left (some w) = some (bytes_of w)

abbrev pub certificate_left : Option (List Bool) → List Entry → Option (List ℕ)
certificate_left none es = none
certificate_left (some w) es = some (certificate_of es)

-- those that a round is not lent, which only the end of a run writes
abbrev past : Stage → Bool
past start = false
past round = false
past end = true

abbrev pub at_end : Buffer → Bool
at_end x = past (lent_from x)

-- the buffers that every round writes, in the order of a call's parameters
abbrev pub round_lent : List ℤ → List ℤ → List ℤ → List ℤ → List ℕ → List ℕ → List ℕ → Buffers
round_lent s z y x b k d = lent s z y x b k d [] []

-- these, with others for those at the end
abbrev pub end_lent : List ℕ → List ℕ → Buffers → Buffers
end_lent w c b = lent b.spins b.copies b.offsets b.sums b.multipliers b.masks b.depths w c

abbrev pub leaves : Round → Writes
leaves d spins = some d.spins
leaves d copies = some d.state.copies
leaves d offsets = some d.state.offsets
leaves d sums = some d.sums
leaves d multipliers = some (multipliers_of d.entries)
leaves d masks = some (masks_of d.entries)
leaves d depths = some d.depths
leaves d word = word_left d.word
leaves d certificate = certificate_left d.word d.entries
