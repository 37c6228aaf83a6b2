use Rattle.std.proofs.Common.{◌∙◌}
use Rattle.std.proofs.lemmas.Result.{err_from_is_err_and}
use Rattle.plan_reader.proofs.PlaceLaws.{read-placed, read-fails}
use Rattle.plan_reader.proofs.TraceLaws.{traced}
use Rattle.plan_reader.specs.LineErrors.{refusal_of_line}
use Rattle.plan_reader.proofs.placing.place_read.Goals as goal

pub returns-in_err-said-clause-reading : goal.returns-in_err-said-clause-reading
returns-in_err-said-clause-reading c line read =
    let from = c.from_residual in
    let p = err_from_is_err_and from.result from.ensures.1 in
    rw (p.1, p.2)
    (read-fails c.args.universe.now c.args.number c.args.so_far.now.reading refusal_of_line
    c.in_err-said.field-0.0 line (rw c.in_err-said.was at read))

pub returns-in_err-place-clause-reading : goal.returns-in_err-place-clause-reading
returns-in_err-place-clause-reading c line read =
    let from = c.from_residual-in_err-place in
    let p = err_from_is_err_and from.result from.ensures.1 in
    rw (
      p.1,
      p.2,
      read-placed c.args.universe.now c.args.number c.args.so_far.now.reading line _
          (rw c.in_ok-said.was at read),
    ) c.in_err-place.ensures

pub returns-clause-reading : goal.returns-clause-reading
returns-clause-reading c line read =
    read-placed c.args.universe.now c.args.number c.args.so_far.now.reading line _
    (rw c.in_ok-said.was at read)
    ∙ c.in_ok-place.ensures

pub returns-clause-lines : goal.returns-clause-lines
returns-clause-lines c line read =
    rw (
      traced c.args.universe.now c.args.number c.args.so_far.now.lines line _
          (rw c.in_ok-said.was at read),
      ← c.kind-kind.ensures,
      ← c.replace-before.ensures.value,
    ) c.in_ok-so_far.ensures
