-- `all_within` meets its contract: the closure's test is the definition's. Assumes nothing.
use mathlib.Core.Path.{◌∙◌}
use lib.Dec.{leb}
use lib.IntN.{nat_abs}
use borrow.Author.Rules.{rules}
use borrow.Author.Tests.{tests}
use Rattle.std.proofs.lemmas.Iterator.{YieldsList-from_slice}
use Rattle.std.proofs.lemmas.Iterator.Search.{all_from_yields_List}
use Rattle.run.proofs.BoundsLaws.{each_tested}
use Rattle.run.proofs.half_done.all_within.Goals as goal

pub returns : goal.returns
returns c =
    all_from_yields_List (λ x. leb (nat_abs x) c.args.limit) _ _ _ c.all.ensures.ran (YieldsList-from_slice c.args.xs.now cc) (λ x b q k. search (rules, tests))
    ∙ each_tested c.args.limit c.args.xs.now
