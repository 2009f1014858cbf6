-- `write` meets its contract: the size that it answers is the file's length.
use Rattle.std.proofs.Common.{◌∙◌, sym, ap₂, arith}
use Rattle.rules.specs.Refusal.{gives}
use Rattle.rules.proofs.FileBytesLaws.{file-length}
use Rattle.code_writer.proofs.WriterLaws.{whole}
use Rattle.code_writer.proofs.write.Goals as goal

pub returns : goal.returns
returns c =
    let a = c.args in
    ap₂ (λ k l. record { answer = gives k; bytes = l }) (sym (file-length a.bits a.counts.now a.members.now)) c.write_file.ensures
    ∙ sym (whole a.bits a.counts.now a.members.now a.file.now (omega arith) (omega arith) (omega arith))
