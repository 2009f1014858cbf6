-- `write_word` meets its contract: no spin is left, so the word is written from the front.
use Rattle.std.proofs.Common.{◌≤◌, ◌∙◌, sym, ap, length, arith}
use lib.ListN.{drop_of_length-le}
use lib.Seq.{sets}
use Rattle.rules.specs.Cut.{negatives}
use Rattle.rules.specs.Buffers.{bytes_of}
use Rattle.rules.proofs.StoreLaws.{sets_over}
use Rattle.writing.proofs.WordLaws.{bytes-length, word-whole}
use Rattle.writing.proofs.write_word.Goals as goal

pub returns : goal.returns
returns c =
    let spins = c.args.spins.now in
    let word = c.args.word.now in
    let loop = c.loop-i in
    let room : length spins ≤ length word = omega arith in
    let none = ap (λ l. sets loop.word loop.i (bytes_of (negatives l))) (sym (drop_of_length-le spins {i = loop.i} (omega arith))) in
    let all = none ∙ loop.invariant.1 ∙ sets_over word (bytes_of (negatives spins)) (omega (arith, bytes-length spins)) in
    ap (λ l. record { number = 0; bytes = l }) all ∙ sym (word-whole spins word room)
