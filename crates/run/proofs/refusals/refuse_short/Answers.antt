-- `refuse_short` meets its contract: each test, where it fails, has its own numbers. Assumes nothing.
use native.Mathlib.Omega.{arith}
use borrow.Author.Rules.{rules}
use Rattle.std.proofs.Math.Logic.{⊎_elim}
use Rattle.run.proofs.AdmitLaws.{short, long}
use Rattle.run.proofs.refusals.refuse_short.Goals as goal

pub returns-then-lent-sizes : goal.returns-then-lent-sizes
returns-then-lent-sizes c =
    short _ _
    (λ f.
    ⊎_elim (λ h. omega arith)
    (⊎_elim (λ h. omega arith)
    (⊎_elim (λ h. omega arith)
    (⊎_elim (λ h. omega arith)
    (⊎_elim (λ h. omega arith)
    (⊎_elim (λ h. omega arith)
    (⊎_elim (λ h. omega arith)
    (⊎_elim (λ h. omega arith) (λ h. omega arith))))))))
    c.then-lent-sizes.branch-raw)

pub returns : goal.returns
returns c = long _ _ (search rules)
