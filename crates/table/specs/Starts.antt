-- Where each check starts among the edges. Definitions only. Assumes nothing.
use Rattle.std.specs.Prelude.{List, [], ◌∷◌, ℕ, ◌+◌, length}

-- "Start of check 0 is 0; each later start is the previous start plus count", from a start on; the last number is where the edges end, E.
unfoldable pub starts_of : ℕ → List (List ℕ) → List ℕ
starts_of s [] = s ∷ []
starts_of s (ms ∷ cs) = s ∷ starts_of (s + length ms) cs
