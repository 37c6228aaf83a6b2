use Rattle.std.proofs.Common.{◌≤◌, ◌∙◌, arith, sym}
use Rattle.clause_kernel.proofs.Words.{word_has_above}
use Rattle.bit_rows.proofs.OneName.{tested_bit}
use Rattle.sat_rows.proofs.RangeLaws.{not_lt}
use Rattle.sat_rows.proofs.word.has_bit.Goals as goal

pub returns-then-bit-lt64 : goal.returns-then-bit-lt64
returns-then-bit-lt64 c = tested_bit c.args.word c.args.bit (omega (arith, c.if-bit-lt64.true))

pub returns-else-bit-lt64 : goal.returns-else-bit-lt64
returns-else-bit-lt64 c =
    let above : 64 ≤ c.args.bit = omega (arith, c.if-bit-lt64.false) in
    not_lt c.args.bit 64 above
    ∙ sym (word_has_above c.args.word 64 c.args.bit c.ranges.word.fits above)
