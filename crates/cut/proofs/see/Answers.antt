-- `see` meets its contract: the set of odd size with the least left side decides. Assumes nothing.
use mathlib.Core.Path.{◌∙◌}
use native.Mathlib.Omega.{arith}
use Rattle.cut.proofs.SeeLaws.{place-most, top-most, place-there, decides-seen}
use Rattle.cut.proofs.see.Goals as goal

pub decide-requires : goal.decide-requires
decide-requires c =
    let e = c.scan_values-s.ensures in
    (place-most _ _ _ (omega arith) _ e.0 e.1, top-most _ _ _ (omega arith) _ e.0 e.1, place-there _ _ _ (omega arith) _ e.0 e.1)

pub returns : goal.returns
returns c =
    let e = c.scan_values-s.ensures in
    c.decide.ensures ∙ decides-seen _ _ _ (omega arith) _ e.0 e.1 (omega arith)
