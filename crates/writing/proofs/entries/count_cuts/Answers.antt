-- `count_cuts` meets its contract: the masks that aren't 0, counted.
use Rattle.std.proofs.Common.{◌≡◌, ◌∙◌, sym, rules}
use Rattle.std.specs.List.{count_by}
use Rattle.writing.proofs.CertificateLaws.{is_cut, cuts-count}
use Rattle.writing.proofs.entries.count_cuts.Goals as goal

pub returns : goal.returns
returns c =
    let n : c.count.result ≡ count_by is_cut c.args.masks.now = search rules in
    n ∙ sym (cuts-count c.args.masks.now)
