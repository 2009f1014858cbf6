-- The numbers of document 01, each in one place. Definitions only. Assumes nothing.
use Rattle.std.specs.Prelude.{ℕ, ◌+◌, ◌-◌, ◌*◌}

-- U: spin +U is bit 0, spin −U is bit 1
abbrev pub unit : ℕ
unit = 4096

-- "n and m are 1 to 2,048", a count (degree) at most 32, "E at most 8,192, and each bit stands in 1 to 32 checks"
abbrev pub max_bits : ℕ
max_bits = 2048

abbrev pub max_checks : ℕ
max_checks = 2048

abbrev pub max_degree : ℕ
max_degree = 32

abbrev pub max_edges : ℕ
max_edges = 8192

abbrev pub max_bit_degree : ℕ
max_bit_degree = 32

-- "a frame is n signed 16-bit numbers l, from −8,191 to 8,191"
abbrev pub frame_limit : ℕ
frame_limit = 8191

-- "a run has at most 1,024 rounds"
abbrev pub round_limit : ℕ
round_limit = 1024

-- "an offset beyond 8,192 × rounds done"
abbrev pub offset_per_round : ℕ
offset_per_round = 8192

-- "q 0 to 4,096; S 1 to 1,023; multiplier 1 to 16,777,215"
abbrev pub max_entries : ℕ
max_entries = 4096

abbrev pub max_scale : ℕ
max_scale = 1023

abbrev pub max_multiplier : ℕ
max_multiplier = 16777215

-- ---- what follows for a round of a run that 43 lets pass
-- the size of an offset before it: at most 1,023 rounds are done
abbrev pub offset_limit : ℕ
offset_limit = offset_per_round * (round_limit - 1)

-- the size of a value v = spin + y
abbrev pub value_limit : ℕ
value_limit = unit + offset_limit

-- its greatest multiplier: U and the size of a value
abbrev pub step_limit : ℕ
step_limit = unit + value_limit

-- the size of z − y after it, and of a bit's sum of them
abbrev pub weight_limit : ℕ
weight_limit = unit + offset_per_round * round_limit

abbrev pub sum_limit : ℕ
sum_limit = max_bit_degree * weight_limit

-- ---- of the bound's numbers: a 16-bit number, it times the scale, what one entry adds or costs, a reduced number or the sum of prices, the bound
abbrev pub frame_size : ℕ
frame_size = 32768

abbrev pub scaled_limit : ℕ
scaled_limit = max_scale * frame_size

abbrev pub row_limit : ℕ
row_limit = max_degree * max_multiplier

abbrev pub size_limit : ℕ
size_limit = scaled_limit + row_limit * max_entries

abbrev pub bound_limit : ℕ
bound_limit = (max_bits + 1) * size_limit

-- ---- lengths
-- where the code file's contents and bodies begin: "length is 4 + 4m + 2E bytes"
abbrev pub contents_end : ℕ → ℕ
contents_end m = 4 + 4 * m

abbrev pub file_length : ℕ → ℕ → ℕ
file_length m e = contents_end m + 2 * e

-- of q entries: "length 4 + 10q"
abbrev pub certificate_length : ℕ → ℕ
certificate_length q = 4 + 10 * q
