use Rattle.std.proofs.Common.{sym, ap, ◌∙◌}
use Rattle.std.specs.Prelude.{◌==◌, ◌&&◌, ◌||◌}
use Rattle.clause_kernel.specs.Rows.{word_has}
use Rattle.bit_rows.proofs.OneName.{joined_bit}
use Rattle.sat_rows.proofs.word.with_bit.Goals as goal

pub returns-then-holds : goal.returns-then-holds
returns-then-holds c b =
    joined_bit c.args.word c.args.bit b c.requires
    ∙ ap (λ holds. word_has c.args.word b || (holds && (b == c.args.bit))) (sym c.if-holds.true)
