-- The word and the certificate that a certified run writes, as bytes, from its spins, multipliers and masks (document 01, "Certificates"). Definitions
-- only. Assumes nothing.
use Rattle.std.specs.Prelude.{◌≡◌, cond, List, [], ◌∷◌, ◌++◌, ℕ, suc, ◌+◌, leb, eqb, length, ℤ}
use Rattle.std.proofs.lemmas.List.Edits.{sets}
use Rattle.rules.specs.Limits.{max_checks, certificate_length}
use Rattle.rules.specs.Refusal.{Answer, refused, gives, must, size_range, buffer_short}
use Rattle.rules.specs.Bytes.{le16, le32}
use Rattle.rules.specs.Cut.{negatives}
use Rattle.rules.specs.Buffers.{over, bytes_of}

-- ---- the certificate, from multipliers and masks: a check with mask 0 has no cut, and nothing is written of it
abbrev pub if_cut : ℕ → List ℕ → List ℕ
if_cut k xs = cond (eqb k 0) [] xs

unfoldable pub cuts_from : List ℕ → ℕ
cuts_from [] = 0
cuts_from (k ∷ ks) = cond (eqb k 0) 0 1 + cuts_from ks

unfoldable pub contents_from : ℕ → List ℕ → List ℕ → List ℕ
contents_from j [] ks = []
contents_from j (b ∷ bs) [] = []
contents_from j (b ∷ bs) (k ∷ ks) = if_cut k (le16 j ++ le32 b) ++ contents_from (suc j) bs ks

unfoldable pub bodies_from : List ℕ → List ℕ
bodies_from [] = []
bodies_from (k ∷ ks) = if_cut k (le32 k) ++ bodies_from ks

unfoldable pub certificate_from : List ℕ → List ℕ → List ℕ
certificate_from bs ks = le16 (cuts_from ks) ++ le16 1 ++ contents_from 0 bs ks ++ bodies_from ks

-- xs stands in the buffer from byte i on, and r is the byte after it
abbrev pub PutAt : List ℕ → ℕ → List ℕ → List ℕ → ℕ → Type 0
PutAt old i xs new r = (new ≡ sets old i xs) × (r ≡ i + length xs)

-- ---- written to a lent buffer: the number of the answer, and what the buffer holds then
pub record Written : Type 0 where
  pub number : ℕ
  pub bytes : List ℕ

-- a refusal leaves the buffer as it was; past what is written it stays
abbrev pub written_by : Answer (List ℕ) → List ℕ → Written
written_by (refused k) old = record { number = k; bytes = old }
written_by (gives new) old = record { number = 0; bytes = over new old }

-- "word n"
unfoldable pub word_written : List ℤ → List ℕ → Written
word_written s old = written_by (must (leb (length s) (length old)) buffer_short (gives (bytes_of (negatives s)))) old

-- 2 for more checks than a table has; then 41: "multipliers, masks m; certificate 4 + 10m", m as many as there are masks
unfoldable pub certificate_written : List ℕ → List ℕ → List ℕ → Written
certificate_written bs ks old =
    written_by
    (must (leb (length ks) max_checks) size_range
    (must (eqb (length bs) (length ks)) buffer_short
    (must (leb (certificate_length (length ks)) (length old)) buffer_short
    (gives (certificate_from bs ks))))) old
