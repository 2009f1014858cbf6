-- What a call is lent, as the code has it: slices, as they come and as they are left, and the lengths that it tells. Definitions only. Assumes nothing.
use Rattle.std.specs.Prelude.{List, ℕ, length, ℤ}
use Rattle.std.specs.Borrow.{MutBor}
use denote.Triple.Both.{Both}
use Rattle.rules.specs.Buffers.{Buffers, by_name, lent, Lengths}
use Rattle.run.specs.declared.Lent.{Lent}

-- ---- a slice
abbrev pub Slice : Type 0 → Type 0
Slice A = Both (MutBor (List A)) (MutBor (List A))

abbrev pub came : {A : Type 0} → Slice A → List A
came x = x.entry.now

abbrev pub left : {A : Type 0} → Slice A → List A
left x = x.exit.now

-- ---- all buffers, in the order of a call's parameters
abbrev pub slices : Slice ℤ → Slice ℤ → Slice ℤ → Slice ℤ → Slice ℕ → Slice ℕ → Slice ℕ → Slice ℕ → Slice ℕ → Both Buffers Buffers
slices s z y x b k d w c = record {
  entry = lent s.entry.now z.entry.now y.entry.now x.entry.now b.entry.now k.entry.now d.entry.now w.entry.now c.entry.now;
  exit = lent s.exit.now z.exit.now y.exit.now x.exit.now b.exit.now k.exit.now d.exit.now w.exit.now c.exit.now;
}

-- their lengths: of copies z, offsets y and sums x they are read, of the others told
abbrev pub lent_of : Lent → List ℤ → List ℤ → List ℤ → Lengths
lent_of b z y x = by_name (record {
  spins = b.spins;
  copies = length z;
  offsets = length y;
  sums = length x;
  multipliers = b.multipliers;
  masks = b.masks;
  depths = b.depths;
  word = b.word;
  certificate = b.certificate;
})

-- what a call tells of them
abbrev pub told_of : Buffers → Lent
told_of b = record {
  spins = length b.spins;
  multipliers = length b.multipliers;
  masks = length b.masks;
  depths = length b.depths;
  word = length b.word;
  certificate = length b.certificate;
}
