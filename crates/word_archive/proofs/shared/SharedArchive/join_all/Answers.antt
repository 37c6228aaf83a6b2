use Rattle.word_archive.proofs.shared.SharedArchive.join_all.Goals as goal
use Rattle.std.proofs.Common.{Some, [], ap, arith, length-set, slice_get, subst, sym, ◌++◌, ◌+◌, ◌∙◌, ◌∷◌, ◌≡◌}
use Rattle.word_archive.specs.Seats.{SeatsInPlace, back}
use Rattle.word_archive.specs.Views.{base_view}
use Rattle.word_archive.proofs.Backs.{back_take}
use Rattle.word_archive.proofs.Lists.{get_set_other, get_some}
use Rattle.word_archive.proofs.SeatPlaces.{in_place_one}

pub join-requires-clause-seat : goal.join-requires-clause-seat
join-requires-clause-seat c =
    let inv = c.loop-lane.invariant in
    let lane = c.loop-lane.lane in
    let there : slice_get c.loop-lane.seats.items lane ≡ Some c.take-seat.result =
    get_some c.loop-lane.seats.items lane c.index_mut.result.now (omega arith)
    ∙ ap (λ o. Some o) (sym c.index_mut.ensures.value ∙ sym c.take-seat.ensures.value) in
    let at = sym (inv.2 lane (omega arith)) ∙ there in
    let zero : 0 + lane ≡ lane = omega arith in
    subst (λ t. SeatsInPlace t c.args.self.now.accepted.now lane (c.take-seat.result ∷ []))
    (sym inv.0)
    (subst (λ n. SeatsInPlace c.args.base.now.table_id c.args.self.now.accepted.now n
    (c.take-seat.result ∷ [])) zero (in_place_one c.args.base.now.table_id
    c.args.self.now.accepted.now 0 c.args.seats.items lane c.take-seat.result
    c.requires.seats at))

pub loop-lane-preserved : goal.loop-lane-preserved
loop-lane-preserved c =
    let inv = c.loop-lane.invariant in
    let lane = c.loop-lane.lane in
    let p = c.args.self.now.accepted.now in
    let v = c.args.base.now.me.0 in
    let o = c.take-seat.result in
    let there : slice_get c.loop-lane.seats.items lane ≡ Some o =
    get_some c.loop-lane.seats.items lane c.index_mut.result.now (omega arith)
    ∙ ap (λ o. Some o) (sym c.index_mut.ensures.value ∙ sym c.take-seat.ensures.value) in
    let at = sym (inv.2 lane (omega arith)) ∙ there in (
      c.join.ensures.0 ∙ inv.0,
      c.join.ensures.1 ∙ (ap (λ m. (
        base_view p m.0.next m.0.stopped
            (m.0.mine ++ back lane (o ∷ [])),
        [],
      )) inv.1
          ∙ ap (λ l. (base_view p v.next v.stopped l, []))
          (sym (back_take c.args.seats.items lane o at))),
      (λ k ge. get_set_other c.loop-lane.seats.items lane k c.take-seat.new.self
          (λ e. omega arith) ∙ inv.2 k (omega arith)),
      length-set c.loop-lane.seats.items lane c.take-seat.new.self ∙ inv.3,
    )
