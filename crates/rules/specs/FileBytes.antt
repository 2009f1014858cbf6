-- A table as a code file: n and m, the contents, then the bodies, "16 bits each" (document 01, "Code file"). Definitions only. Assumes nothing.
use Rattle.std.specs.Prelude.{◌≡◌, refl, List, [], ◌∷◌, ◌++◌, ℕ, ◌+◌, length}
use Rattle.rules.specs.Bytes.{le16}
use Rattle.rules.specs.Table.{Table, edges}

-- 16-bit numbers, one after the other
abbrev pub bytes16 : List ℕ → List ℕ
bytes16 [] = []
bytes16 (x ∷ xs) = le16 x ++ bytes16 xs

-- "m entries of start and count", the first start s: "each later start is the previous start plus count"
abbrev pub content_numbers : ℕ → List ℕ → List ℕ
content_numbers s [] = []
content_numbers s (d ∷ ds) = s ∷ d ∷ content_numbers (s + d) ds

-- of n bits, with these counts and these members, one check's after the other's
abbrev pub file_from : ℕ → List ℕ → List ℕ → List ℕ
file_from n ds ms = bytes16 (n ∷ length ds ∷ content_numbers 0 ds ++ ms)

abbrev pub counts : List (List ℕ) → List ℕ
counts [] = []
counts (ms ∷ cs) = length ms ∷ counts cs

abbrev pub file_bytes : Table → List ℕ
file_bytes t = file_from t.bits (counts t.checks) (edges t.checks)

-- document 01's code of three bits and one check
file-example : file_bytes (record { bits = 3; checks = (0 ∷ 1 ∷ 2 ∷ []) ∷ [] }) ≡ 3 ∷ 0 ∷ 1 ∷ 0 ∷ 0 ∷ 0 ∷ 3 ∷ 0 ∷ 0 ∷ 0 ∷ 1 ∷ 0 ∷ 2 ∷ 0 ∷ []
file-example = refl
