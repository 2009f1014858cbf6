-- Document 01's code file loaded, and what a refusal leaves, by computation. Assumes nothing.
use Rattle.std.specs.Prelude.{◌≡◌, refl, List, [], ◌∷◌, ℕ}
use Rattle.rules.specs.Refusal.{must, then, reply_of}
use Rattle.rules.specs.Bytes.{u16_at}
use Rattle.rules.specs.CodeFile.{in_range, contents, counts_right, starts_right, total_count, numbers_at, bodies, ascends, members_right, bits_right, file_of, code_file}
use Rattle.table.specs.Starts.{starts_of}
use Rattle.table.specs.Loaded.{with_room, not_loaded, with_table, laid, loaded}

-- one check on bits 0, 1, 2
file : List ℕ
file = 3 ∷ 0 ∷ 1 ∷ 0 ∷ 0 ∷ 0 ∷ 3 ∷ 0 ∷ 0 ∷ 0 ∷ 1 ∷ 0 ∷ 2 ∷ 0 ∷ []

-- two starts and three members; a fourth place of each slice stays
one-check : loaded file (9 ∷ 9 ∷ 9 ∷ []) (9 ∷ 9 ∷ 9 ∷ 9 ∷ []) ≡ with_table 3 1 3 (0 ∷ 3 ∷ 9 ∷ []) (0 ∷ 1 ∷ 2 ∷ 9 ∷ [])
unfolding loaded laid with_room starts_of must then reply_of code_file file_of in_range u16_at contents counts_right starts_right total_count numbers_at bodies ascends members_right bits_right file
one-check = refl

-- room for one start, and for two members
no_room : (loaded file (9 ∷ []) (9 ∷ 9 ∷ 9 ∷ []) ≡ not_loaded 41 (9 ∷ []) (9 ∷ 9 ∷ 9 ∷ []))
    × (loaded file (9 ∷ 9 ∷ []) (9 ∷ 9 ∷ []) ≡ not_loaded 41 (9 ∷ 9 ∷ []) (9 ∷ 9 ∷ []))
unfolding loaded laid with_room starts_of must then reply_of code_file file_of in_range u16_at contents counts_right starts_right total_count numbers_at bodies ascends members_right bits_right file
no_room = (refl, refl)

-- a file under 4 bytes, whatever the room
too_short_lem : loaded (3 ∷ 0 ∷ []) [] (9 ∷ []) ≡ not_loaded 1 [] (9 ∷ [])
unfolding loaded laid then reply_of code_file file_of must
too_short_lem = refl
