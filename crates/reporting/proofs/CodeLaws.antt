-- How far reading on goes. Assumes nothing.
use mathlib.Core.Path.{◌≡◌}
use mathlib.Core.List.{List}
use Prim.Native.Nat.{ℕ, ◌+◌, ◌-◌, ◌≤◌, ◌<◌, max}
use native.Mathlib.Omega.{arith}
use lib.ListN.{length, take, drop, length-take, length-drop}
use Rattle.rules.proofs.AnnouncedLaws.{announced-most}
use Rattle.reporting.specs.ReadOn.{file_limit, between, ReadOn}

-- got of what is handed on
pub on-to : (size end got : ℕ) (old new : List ℕ) → size < end → end ≤ length old → got ≤ length new → length new ≡ length (between size end old)
    → size + got ≤ max size end
on-to size end got old new h k g e = omega (arith, length-take (end - size) (drop size old), length-drop size old)

pub read-most : (size r : ℕ) (new old : List ℕ) → size ≤ file_limit → ReadOn size r new old → r ≤ file_limit
read-most size r new old h k = omega (arith, k.to, announced-most (take size old))
