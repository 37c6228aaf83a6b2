use Rattle.std.proofs.Common.{◌≡◌, Some, length, inl, inr, [], ◌∷◌, sym, ap, subst, ◌∙◌, arith}
use Rattle.std.proofs.lemmas.Bool.{cases_eq, eq-eqb, ne_eqb}
use Rattle.std.proofs.lemmas.List.{length-append}
use Rattle.std.proofs.lemmas.Option.{slice_get-get_or}
use Rattle.std.specs.Prelude.{slice_get}
use Rattle.farm_executor.specs.Turned.{IsStopIn}
use Rattle.farm_executor.proofs.Pairs.{at_push_place}
use Rattle.farm_executor.proofs.turned.stops_of.Goals as goal

pub stop_of-requires : goal.stop_of-requires
stop_of-requires g c = record {
  running = c.requires.running c.loop-number.number c.index-lanes-number.result
      (slice_get-get_or c.args.lanes.now c.loop-number.number c.index-lanes-number.result
      (omega (arith, c.loop-number-test.true))
      ∙ ap (λ x. Some x) (sym c.index-lanes-number.is));
}

pub loop-number-preserved : goal.loop-number-preserved
loop-number-preserved g c =
    let old = c.loop-number.stops.items in
    let stop = c.stop_of.result in
    let i = c.loop-number.number in
    record {
      long = (let a = ap length c.push_reserved.ensures.items in
          let b = length-append old (stop ∷ []) in
          omega (arith, a, b, c.loop-number.invariant.long));
      room = omega (arith, c.loop-number.invariant.room, c.push_reserved.ensures.capacity);
      each = λ k e at.
          elim (at_push_place old stop e k
          (sym (ap (λ xs. slice_get xs k) c.push_reserved.ensures.items) ∙ at)) [
            | inl before ↦ c.loop-number.invariant.each k e before
            | inr last ↦
                let here = last.0 ∙ c.loop-number.invariant.long in
                subst (IsStopIn c.args.cause k) last.1 (elim (cases_eq k c.args.cause) [
                  | inl is ↦ inl (is, c.stop_of.ensures.cause (eq-eqb _ _ (omega (arith, here, is))))
                  | inr other ↦
                      inr (
                        other,
                        c.stop_of.ensures.other (ne_eqb _ _ (λ e.
                            other (omega (arith, here, e)))),
                      )
                ])
          ];
    }
