-- `rounds` meets its contract. A refusal as `admit` gives it, or the rounds that `perform` does. Assumes nothing.
use mathlib.Core.Path.{refl}
use Prim.Native.Nat.{◌≤◌, ◌<◌}
use native.Mathlib.Omega.{arith}
use Rattle.rules.specs.Limits.{max_checks, max_edges}
use Rattle.decoder.proofs.CallLaws.{found-refused, found-fit, found-call}
use Rattle.decoder.proofs.rounds.Goals as goal

-- the two arrays hold every table
starts-room : max_checks < 2049
starts-room = omega arith

members-room : max_edges ≤ 8192
members-room = omega arith

pub perform-after-requires : goal.perform-after-requires
perform-after-requires c =
    found-fit _ _ _ _ _ _ starts-room members-room _ _ _ c.admit-admitted.ensures _ c.in-Ok.is

pub returns-in-Err : goal.returns-in-Err
returns-in-Err c =
    found-refused _ _ _ _ _ _ starts-room members-room _ _ _ c.admit-admitted.ensures _ c.in-Err.is

pub returns-in-Ok : goal.returns-in-Ok
returns-in-Ok c =
    found-call _ _ _ _ _ _ starts-room members-room _ _ _ c.admit-admitted.ensures _ c.in-Ok.is _ _ c.perform-after.ensures refl
