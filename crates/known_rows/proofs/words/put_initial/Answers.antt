use Rattle.std.proofs.Common.{length-set, ◌∙◌, arith}
use Rattle.bit_rows.proofs.Writes.{replaces-set}
use Rattle.farm_model.specs.Packages.{initial}
use Rattle.sat_rows.proofs.RowLaws.{row_from_names}
use Rattle.known_rows.proofs.InitialRow.{initial_more}
use Rattle.known_rows.proofs.words.put_initial.Goals as goal

pub loop-name-preserved : goal.loop-name-preserved
loop-name-preserved c =
    let words = c.loop-name.words in
    let n = c.loop-name.name in
    let word = c.initial.result in (
      length-set words n word ∙ c.loop-name.invariant.0,
      λ m b lt. initial_more c.args.universe.now words _ n word c.requires.sound c.initial.ensures
          (replaces-set words n word (omega arith)) c.loop-name.invariant.1 m b lt,
    )

pub returns : goal.returns
returns c =
    row_from_names c.args.universe.now (initial c.args.universe.now) c.loop-name.words
    c.loop-name.invariant.0 (λ n b lt. c.loop-name.invariant.1 n b (omega arith))
