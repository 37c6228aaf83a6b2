use Rattle.std.proofs.Common.{arith}
use Rattle.std.proofs.lemmas.Bool.{lt-ltb}
use Rattle.deb_version.proofs.DigitLaws.{number-take}
use Rattle.deb_version.proofs.grammar.number_of.Goals as goal

pub returns-then-number-from : goal.returns-then-number-from
returns-then-number-from c =
    let front = number-take c.args.digits.now c.loop-digit.digit-index c.loop-digit-test.true in
    lt-ltb _ _ (omega (arith, front))
