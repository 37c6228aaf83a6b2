use Rattle.std.proofs.Common.{◌-◌, ◌^◌, ap, ◌∙◌, arith}
use Rattle.clause_kernel.specs.Rows.{word_has}
use Rattle.sat_rows.proofs.RangeLaws.{bits_apart, powers_rise, bits_between}
use Rattle.sat_rows.proofs.word.bits_between.Goals as goal

pub overflow_sub-result : goal.overflow_sub-result
overflow_sub-result c =
    let rise = powers_rise c.args.low c.args.high c.requires.order in
    omega (arith, rise, c.bits_below.ensures, c.bits_below-2.ensures)

pub returns : goal.returns
returns c b =
    ap (λ k. word_has (k - c.bits_below-2.result) b) c.bits_below.ensures
    ∙ ap (λ k. word_has ((2 ^ c.args.high - 1) - k) b) c.bits_below-2.ensures
    ∙ ap (λ k. word_has k b) (bits_apart c.args.low c.args.high c.requires.order)
    ∙ bits_between c.args.low c.args.high b
