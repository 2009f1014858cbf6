-- `read_part_by` meets its contract: an error of the reader is handed on. Assumes nothing.
use Rattle.std.proofs.Common.{refl, ap, inr, Result, Ok, Err}
use Rattle.std.specs.Result.{OnErr, is_err}
use Rattle.stream.proofs.read_part_by.Goals as goal

on_any : {T E P : Type 0} (r : Result T E) → P → OnErr r P
on_any (Ok a) p = tt
on_any (Err e) p = p

pub returns-in_err-read-clause-err : goal.returns-in_err-read-clause-err
returns-in_err-read-clause-err g c =
    on_any _ (inr (record { size = _; input = _; lent = _; answer = _; input_left = _; left = _; met = c.read.ensures; failed = ap is_err c.in_err-read.was; lends = refl; leaves = refl }))
