use Rattle.std.proofs.Common.{◌≡◌, inl, inr, sym, ap, subst, ◌∙◌}
use Rattle.std.specs.Prelude.{Some, Err, slice_get}
use Rattle.farm_executor.specs.declared.lanes.LaneEnd.{LaneEnd}
use Rattle.farm_executor.proofs.scope.in_scope.Goals.{then-some_unstarted, else-some_unstarted}
use Rattle.farm_executor.proofs.Pairs.{some_at}
use Rattle.farm_executor.proofs.scope.in_scope.Goals as goal

pub returns-clause-each : goal.returns-clause-each
returns-clause-each g c k j e is there =
    let h = some_at c.args.prepared.jobs.items c.start_all-handles.result.items k j
    c.start_all-handles.ensures.long is in
    c.join_all.ensures.each k h.0 e h.1 there j c.args.setting.now.gate.now
    (c.start_all-handles.ensures.each k j h.0 is h.1)

pub returns-clause-base : goal.returns-clause-base
returns-clause-base g c =
    elim c.if-some_unstarted.branch [
      | then-some_unstarted w ↦
          let s = c.some_unstarted.ensures w.if-some_unstarted.true in
          let handles = c.start_all-handles.result.items in
          let here : slice_get handles s.0 ≡ Some (Err s.1) =
          ap (λ xs. slice_get xs s.0) (sym c.as_slice.ensures.value) ∙ s.2 in
          let e = some_at handles c.join_all.result.items s.0 (Err s.1) c.join_all.ensures.long
          here in
          let same : e.0 ≡ s.1 = c.join_all.ensures.refused s.0 (Err s.1) e.0 here e.1 in
          inr (
            subst (λ b. g.B.Base.stops c.args.base b) (sym w.base-is) w.stop.ensures,
            (s.0, e.0, e.1, ap (λ (x : LaneEnd _). x.stop.code) same ∙ s.3),
          )
      | else-some_unstarted w ↦ inl w.base-is
    ]
