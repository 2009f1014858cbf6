-- `follows` meets its contract: the first entry follows none, each later one the entry before it. Assumes nothing.
use mathlib.Core.Path.{◌≡◌, refl, ◌∙◌}
use mathlib.Core.Bool.{Bool, true, false, cond, ◌&&◌, ◌||◌}
use lib.Dec.{ltb, eqb}
use Rattle.std.proofs.Common.{Less, Equal, Greater}
use Rattle.std.specs.Prelude.{Some}
use Rattle.std.specs.Ordering.{is_lt, is_some_and, partial_ordering_then}
use Rattle.rules.specs.Certificate.{follows}
use Rattle.judge.proofs.entries.follows.Goals as goal

-- the order of pairs, by the tests of their parts
pairs : (x y z u : Bool)
    → is_some_and is_lt (partial_ordering_then (Some (cond x Less (cond y Equal Greater))) (Some (cond z Less (cond u Equal Greater)))) ≡ x || (y && z)
pairs true y z u = refl
pairs false true true u = refl
pairs false true false true = refl
pairs false true false false = refl
pairs false false z u = refl

pub returns-in-None : goal.returns-in-None
unfolding follows
returns-in-None c = rw c.in-None.is refl

pub returns-in-Some : goal.returns-in-Some
unfolding follows
returns-in-Some c =
    let b = c.in-Some.b in
    let e = c.args.entry in
    rw c.in-Some.is (c.lt.ensures ∙ pairs (ltb b.check e.check) (eqb b.check e.check) (ltb b.mask e.mask) (eqb b.mask e.mask))
