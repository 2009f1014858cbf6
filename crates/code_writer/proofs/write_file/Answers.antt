-- `write_file` meets its contract: its four parts are written one after the other.
use Rattle.std.proofs.Common.{◌∙◌, ap}
use lib.Seq.{sets}
use Rattle.rules.specs.Bytes.{le16}
use Rattle.code_writer.proofs.WriterLaws.{file-all}
use Rattle.code_writer.proofs.write_file.Goals as goal

pub returns : goal.returns
returns c =
    let a = c.args in
    let first = c.put16.ensures ∙ ap (λ n. sets a.file.now 0 (le16 n)) c.from.ensures in
    file-all a.bits a.counts.now a.members.now a.file.now c.requires.2 c.put16.new.bytes c.put16-2.new.bytes first c.put16-2.ensures
    c.write_contents.new.file c.write_members.new.file c.write_contents.ensures c.write_members.ensures
