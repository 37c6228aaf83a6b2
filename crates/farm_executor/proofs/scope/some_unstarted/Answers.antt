use Rattle.std.proofs.Common.{◌∙◌, sym, ap, arith}
use Rattle.std.specs.Prelude.{Some}
use Rattle.std.proofs.lemmas.Option.{slice_get-get_or}
use Rattle.farm_executor.proofs.scope.some_unstarted.Goals as goal

pub returns-then-is_unstarted : goal.returns-then-is_unstarted
returns-then-is_unstarted g c = λ told.
    let e = c.is_unstarted.ensures c.if-is_unstarted.true in
    let i = c.loop-number.number in (
      i,
      e.0,
      slice_get-get_or c.args.handles.now i c.index-handles-number.result
          (omega (arith, c.loop-number-test.true))
          ∙ ap (λ x. Some x) (sym c.index-handles-number.is ∙ e.1),
      e.2,
    )
