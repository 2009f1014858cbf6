-- `Scan::with` meets its contract. Assumes nothing.
use mathlib.Core.Path.{◌≡◌, ◌∙◌, ap}
use Prim.Native.Nat.{ℕ, ◌*◌, ◌^◌}
use lib.IntN.{ℤ}
use mir.Syntax.{w32}
use mir.Val.{SFits}
use mir.Facts.{to_z-of_z}
use Rattle.integers.specs.Linear.{up}
use Rattle.integers.specs.Machine.{fit}
use Rattle.rules.specs.Mask.{digit}
use Rattle.rules.specs.Cut.{is_neg}
use Rattle.cut.proofs.ScanLaws.{with-higher, with-other}
use Rattle.cut.proofs.scan.Scan.with.Goals as goal

-- the sign's bit of a value that is read back
bit-is : {x y : ℤ} (k b : ℕ) → b ≡ digit (is_neg y) * 2 ^ k → y ≡ x → b ≡ digit (is_neg x) * 2 ^ k
bit-is k b e p = e ∙ ap (λ z. digit (is_neg z) * 2 ^ k) p

pub returns-then-self-h : goal.returns-then-self-h
returns-then-self-h c =
    let bit = bit-is _ _ c.sign_bit.ensures (to_z-of_z c.ranges.x) in
    let room = c.above.ensures ∙ ap up (to_z-of_z c.ranges.h) in
    let top : SFits w32 c.args.self.top = fit w32 c.args.self.top (search) in
    with-higher c.args.self c.args.x c.args.h c.args.k _ _ c.requires.1 bit room _ _ (to_z-of_z top)
    (to_z-of_z c.ranges.h) c.if-self-h.true

pub returns-else-self-h : goal.returns-else-self-h
returns-else-self-h c =
    let bit = bit-is _ _ c.sign_bit.ensures (to_z-of_z c.ranges.x) in
    let room = c.above.ensures ∙ ap up (to_z-of_z c.ranges.h) in
    let top : SFits w32 c.args.self.top = fit w32 c.args.self.top (search) in
    with-other c.args.self c.args.x c.args.h c.args.k _ _ c.requires.1 bit room _ _ (to_z-of_z top)
    (to_z-of_z c.ranges.h) c.if-self-h.false
