use Rattle.std.proofs.Common.{arith}
use Rattle.sat_rows.proofs.RowLaws.{row_from_names}
use Rattle.sat_rows.proofs.row.row_of.Goals as goal

pub returns : goal.returns
returns g c =
    row_from_names c.args.universe.now
    (λ v. g.T.VariantTest.test c.args.universe.now c.args.test.now v) c.loop-name.row
    c.loop-name.invariant.0 (λ n b lt. c.loop-name.invariant.1 n b (omega arith))
