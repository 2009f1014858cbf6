-- One round more. Assumes nothing.
use mathlib.Core.Path.{◌≡◌, ap}
use mathlib.Core.Bool.{cond}
use Prim.Native.Nat.{ℕ, suc, ◌<◌}
use borrow.Author.Tests.{lt-ltb}
use Rattle.rules.specs.Limits.{round_limit}
use Rattle.run.specs.Ending.{counted}

pub counted_next : (k : ℕ) → k < round_limit → counted k ≡ suc k
counted_next k h = ap (λ b. cond b (suc k) k) (lt-ltb k round_limit h)
