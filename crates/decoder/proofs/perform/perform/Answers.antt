-- `perform` meets its contract. Assumes nothing.
use mathlib.Core.Path.{◌≡◌, sym}
use mathlib.Core.List.{List, ◌++◌}
use Prim.Native.Nat.{ℕ, ◌≤◌}
use lib.ListN.{length, take, drop}
use lib.Seq.{length-take-le, length_front}
use borrow.Author.Rules.{rules}
use Rattle.rules.specs.Buffers.{spins, copies, offsets, sums, multipliers, masks, depths}
use Rattle.table.proofs.LayoutLaws.{members-fit}
use Rattle.decoder.proofs.PerformLaws.{given-all, parts-ready, room_after, finish-fits, performed}
use Rattle.decoder.proofs.perform.perform.Goals as goal

-- the rounds leave each buffer as long as it was, with `new` in the place of its first k elements: there is room for as many as before
kept-room : {A : Type 0} {n : ℕ} (k : ℕ) (old new : List A) → length new ≡ length (take k old) → n ≤ length old → n ≤ length (new ++ drop k old)
kept-room k old new e h = room_after (length_front _ _ _ e) h

pub count_degrees-degrees-requires : goal.count_degrees-degrees-requires
count_degrees-degrees-requires c =
    members-fit _ _ _ c.requires.holds

pub slice_bounds-run_rounds-end-2 : goal.slice_bounds-run_rounds-end-2
slice_bounds-run_rounds-end-2 c =
    c.requires.room spins

pub slice_bounds-run_rounds-end-3 : goal.slice_bounds-run_rounds-end-3
slice_bounds-run_rounds-end-3 c =
    sym (length-take-le _ _ (c.requires.room spins))

pub slice_bounds-run_rounds-end-4 : goal.slice_bounds-run_rounds-end-4
slice_bounds-run_rounds-end-4 c =
    c.requires.room copies

pub slice_bounds-run_rounds-end-5 : goal.slice_bounds-run_rounds-end-5
slice_bounds-run_rounds-end-5 c =
    sym (length-take-le _ _ (c.requires.room copies))

pub slice_bounds-run_rounds-end-6 : goal.slice_bounds-run_rounds-end-6
slice_bounds-run_rounds-end-6 c =
    c.requires.room offsets

pub slice_bounds-run_rounds-end-7 : goal.slice_bounds-run_rounds-end-7
slice_bounds-run_rounds-end-7 c =
    sym (length-take-le _ _ (c.requires.room offsets))

pub slice_bounds-run_rounds-end-8 : goal.slice_bounds-run_rounds-end-8
slice_bounds-run_rounds-end-8 c =
    c.requires.room sums

pub slice_bounds-run_rounds-end-9 : goal.slice_bounds-run_rounds-end-9
slice_bounds-run_rounds-end-9 c =
    sym (length-take-le _ _ (c.requires.room sums))

pub slice_bounds-run_rounds-end-10 : goal.slice_bounds-run_rounds-end-10
slice_bounds-run_rounds-end-10 c =
    c.requires.room multipliers

pub slice_bounds-run_rounds-end-11 : goal.slice_bounds-run_rounds-end-11
slice_bounds-run_rounds-end-11 c =
    sym (length-take-le _ _ (c.requires.room multipliers))

pub slice_bounds-run_rounds-end-12 : goal.slice_bounds-run_rounds-end-12
slice_bounds-run_rounds-end-12 c =
    c.requires.room masks

pub slice_bounds-run_rounds-end-13 : goal.slice_bounds-run_rounds-end-13
slice_bounds-run_rounds-end-13 c =
    sym (length-take-le _ _ (c.requires.room masks))

pub slice_bounds-run_rounds-end-14 : goal.slice_bounds-run_rounds-end-14
slice_bounds-run_rounds-end-14 c =
    c.requires.room depths

pub slice_bounds-run_rounds-end-15 : goal.slice_bounds-run_rounds-end-15
slice_bounds-run_rounds-end-15 c =
    sym (length-take-le _ _ (c.requires.room depths))

pub run_rounds-after-requires : goal.run_rounds-after-requires
run_rounds-after-requires c =
    record { given = given-all c.requires (search rules) c.count_degrees-degrees.ensures; ready = parts-ready c.requires }

pub slice_bounds-finish-end : goal.slice_bounds-finish-end
slice_bounds-finish-end c =
    kept-room _ _ _ c.run_rounds-after.auto.spins (c.requires.room spins)

pub slice_bounds-finish-end-2 : goal.slice_bounds-finish-end-2
slice_bounds-finish-end-2 c =
    sym (length-take-le _ _ (kept-room _ _ _ c.run_rounds-after.auto.spins (c.requires.room spins)))

pub slice_bounds-finish-end-3 : goal.slice_bounds-finish-end-3
slice_bounds-finish-end-3 c =
    kept-room _ _ _ c.run_rounds-after.auto.multipliers (c.requires.room multipliers)

pub slice_bounds-finish-end-4 : goal.slice_bounds-finish-end-4
slice_bounds-finish-end-4 c =
    sym (length-take-le _ _ (kept-room _ _ _ c.run_rounds-after.auto.multipliers (c.requires.room multipliers)))

pub slice_bounds-finish-end-5 : goal.slice_bounds-finish-end-5
slice_bounds-finish-end-5 c =
    kept-room _ _ _ c.run_rounds-after.auto.masks (c.requires.room masks)

pub slice_bounds-finish-end-6 : goal.slice_bounds-finish-end-6
slice_bounds-finish-end-6 c =
    sym (length-take-le _ _ (kept-room _ _ _ c.run_rounds-after.auto.masks (c.requires.room masks)))

pub finish-requires : goal.finish-requires
finish-requires c =
    finish-fits c.requires _ c.run_rounds-after.ensures

pub returns : goal.returns
returns c =
    performed c.requires _ c.run_rounds-after.ensures c.finish.ensures
