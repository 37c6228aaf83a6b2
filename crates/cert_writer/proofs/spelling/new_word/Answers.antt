use Rattle.std.proofs.Common.{slice_index, refl, arith}
use Rattle.cert_writer.proofs.NewWords.{new-word}
use Rattle.cert_writer.proofs.spelling.new_word.Goals as goal

pub returns : goal.returns
returns c known l i is =
    let n = c.args.name in
    new-word c.args.universe.now known l i n (slice_index c.args.words.now n) c.initial.result _
    c.requires.sound (λ b. is.set n b) c.initial.ensures (omega (arith, c.type_inv.words n))
    c.initial.type_inv refl
