-- `write_entries` meets its contract: its four parts are written one after the other. Assumes nothing.
use mathlib.Core.Path.{◌∙◌, ap}
use native.Mathlib.Omega.{arith}
use lib.Seq.{sets}
use Rattle.rules.specs.Bytes.{le16}
use Rattle.writing.proofs.CertificateLaws.{contents-stop, certificate-all}
use Rattle.writing.proofs.entries.write_entries.Goals as goal

pub write_bodies-requires : goal.write_bodies-requires
write_bodies-requires c =
    let args = c.args in
    omega (arith, contents-stop args.multipliers.now args.masks.now c.write_contents-at.result c.write_contents-at.ensures.1)

pub returns : goal.returns
returns c =
    let old = c.args.certificate.now in
    let bodies = c.write_bodies in
    let contents = c.write_contents-at in
    let scale = c.put16-2 in
    let count = c.put16 in
    let q = c.count_cuts in
    let first = count.ensures ∙ ap (λ n. sets old 0 (le16 n)) q.ensures in
    certificate-all c.requires.1 (record { count = first; scale = scale.ensures; contents = contents.ensures; bodies = bodies.ensures })
