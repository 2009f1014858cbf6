-- `search_table` meets its contract: each return has the refusal or mask and depth. Assumes nothing.
use mathlib.Core.Path.{sym, ap}
use mathlib.Core.Bool.{Bool, cond}
use mathlib.Core.Option.{Option, some, none}
use Prim.Native.Nat.{ℕ}
use borrow.Author.Tests.{eq-eqb, ne_eqb}
use Rattle.rules.specs.Refusal.{Answer, gives}
use Rattle.rules.specs.Cut.{Violation}
use Rattle.limits.proofs.NumberLaws.{number-some, handed-on}
use Rattle.cut.proofs.ReplyLaws.{point-right, none-refused, search-turned, search-cut}
use Rattle.cut.proofs.search_table.Goals as goal

-- mask and depth as an answer, by whether the mask is 0
abbrev given : ℕ → ℕ → Bool → Answer (Option (Violation ℕ))
given m d b = gives (cond b none (some (record { set = m; depth = d })))

pub returns-in_err-admit : goal.returns-in_err-admit
returns-in_err-admit c = rw (handed-on _ c.from_residual.ensures) (search-turned _ _ _ _ c.in_err-admit.ensures (number-some _))

pub check_cut-mask-requires : goal.check_cut-mask-requires
check_cut-mask-requires c = (point-right _ _ (none-refused _ _ _ _ (sym c.in_ok-admit.ensures)).0).0

pub returns-then-mask-eq0 : goal.returns-then-mask-eq0
returns-then-mask-eq0 c =
    search-cut _ _ _ _ _ _ (sym c.in_ok-admit.ensures) c.check_cut-mask.ensures
    (ap (given c.check_cut-mask.result.mask c.check_cut-mask.result.depth) (sym (eq-eqb _ _ c.if-mask-eq0.true)))

pub returns : goal.returns
returns c =
    search-cut _ _ _ _ _ _ (sym c.in_ok-admit.ensures) c.check_cut-mask.ensures
    (ap (given c.check_cut-mask.result.mask c.check_cut-mask.result.depth) (sym (ne_eqb _ _ c.if-mask-eq0.false)))
