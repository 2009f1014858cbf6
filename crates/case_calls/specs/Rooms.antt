-- The rooms of the program's buffers, as in src/main.rt. Definitions only. Assumes nothing.
use Rattle.std.specs.Prelude.{ℕ, ◌≤◌}
use Rattle.case_calls.specs.declared.command.Parts.{Parts}

abbrev pub bits_room : ℕ
bits_room = 2100

abbrev pub edges_room : ℕ
edges_room = 8300

abbrev pub checks_room : ℕ
checks_room = 2100

abbrev pub certificate_room : ℕ
certificate_room = 20600

-- of each buffer no more is lent than it has
abbrev pub InRooms : Parts → Type 0
InRooms p =
    (p.spins ≤ bits_room) × (p.copies ≤ edges_room) × (p.offsets ≤ edges_room) × (p.sums ≤ bits_room) × (p.multipliers ≤ checks_room) × (p.masks ≤ checks_room)
    × (p.depths ≤ checks_room) × (p.word ≤ bits_room) × (p.certificate ≤ certificate_room)
