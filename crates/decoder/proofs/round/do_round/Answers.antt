-- `do_round` meets its contract. Assumes nothing.
use mathlib.Core.Path.{◌≡◌, subst}
use mathlib.Core.List.{List}
use Prim.Native.Nat.{ℕ}
use Rattle.rules.specs.Table.{Table}
use Rattle.rules.specs.Sound.{Sound}
use Rattle.table.specs.Layout.{table_of, Holds}
use Rattle.decoder.proofs.DoRoundLaws.{spins-fit, pass_fits, gap-fits, done-law}
use Rattle.decoder.proofs.round.do_round.Goals as goal

-- the table is sound
sound : {n : ℕ} {ss ms : List ℕ} {t : Table} → Holds n ss ms → table_of n ss ms ≡ t → Sound t
sound h e = subst Sound e h.sound

pub find_spins-requires : goal.find_spins-requires
find_spins-requires c =
    spins-fit (sound c.table.invariant c.table.view_is) c.requires.given c.requires.ready

pub pass-requires : goal.pass-requires
pass-requires c =
    pass_fits (sound c.table.invariant c.table.view_is) c.requires.given c.requires.ready c.find_spins.ensures

pub find_word-gap-requires : goal.find_word-gap-requires
find_word-gap-requires c =
    gap-fits (sound c.table.invariant c.table.view_is) c.requires.given c.requires.ready c.find_spins.ensures c.pass.ensures

pub returns : goal.returns
returns c =
    done-law (sound c.table.invariant c.table.view_is) c.requires.given c.requires.ready c.find_spins.ensures c.pass.ensures c.find_word-gap.ensures c.record_after.ensures
