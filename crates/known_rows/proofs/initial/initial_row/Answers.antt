use Rattle.std.proofs.Common.{◌∙◌, arith}
use Rattle.farm_model.specs.Packages.{initial}
use Rattle.sat_rows.proofs.RowLaws.{row_from_names}
use Rattle.known_rows.proofs.InitialRow.{initial_more}
use Rattle.known_rows.proofs.initial.initial_row.Goals as goal

pub loop-name-preserved : goal.loop-name-preserved
loop-name-preserved c = (
  c.set_word.ensures.len ∙ c.loop-name.invariant.0,
  λ n b lt. initial_more c.args.universe.now c.loop-name.row c.set_word.new.self c.loop-name.name
      c.initial.result c.requires.sound c.initial.ensures c.in_ok-set_word.ensures.set
      c.loop-name.invariant.1 n b lt,
)

pub returns : goal.returns
returns c =
    row_from_names c.args.universe.now (initial c.args.universe.now) c.loop-name.row
    c.loop-name.invariant.0 (λ n b lt. c.loop-name.invariant.1 n b (omega arith))
