use Rattle.word_archive.proofs.seats.LaneSeats.take.Goals as goal
use Rattle.std.proofs.Common.{IfSome, None, Some, [], ap, arith, inr, length-set, map, set, slice_get, subst, sym, ◌∙◌, ◌≡◌}
use Rattle.word_archive.specs.Seats.{LaneSeatsOf, SeatsInPlace, log_of, seat_of}
use Rattle.word_archive.specs.Views.{base_view}
use Rattle.word_archive.proofs.Lists.{get_some}
use Rattle.word_archive.proofs.SeatPlaces.{in_place_out, none_there, seats_of, took}

pub invariant_of-self : goal.invariant_of-self
invariant_of-self c =
    let items = c.self.inside.seats.items in
    let v = c.self.inside.base.me.0 in
    let fit = c.self.invariant in
    let long = length-set items c.args.lane c.take.new.self in (
      fit.0 ∙ ap (λ n. (base_view v.about n v.stopped [], [])) (sym long),
      subst (λ o. SeatsInPlace c.self.inside.base.table_id v.about 0 (set items c.args.lane o))
          (sym c.take.ensures.after) (in_place_out c.self.inside.base.table_id v.about 0 items
          c.args.lane fit.1),
      long ∙ fit.2,
    )

pub returns-clause-none : goal.returns-clause-none
returns-clause-none c is =
    let items = c.self.inside.seats.items in
    let v = c.self.inside.base.me.0 in
    let at : slice_get items c.args.lane ≡ Some c.take.result =
    get_some items c.args.lane c.index_mut.result.now (omega arith)
    ∙ ap (λ o. Some o) (sym c.index_mut.ensures.value ∙ sym c.take.ensures.value) in
    let r = none_there c.self.inside.base.table_id v.about v.stopped items c.args.lane
    c.take.result c.take.new.self at c.take.ensures.after is in (
      r.0 ∙ c.self.view_is,
      inr (ap (λ s. slice_get s.logs c.args.lane) (sym c.self.view_is)
          ∙ r.1),
    )

pub returns-clause-seat : goal.returns-clause-seat
returns-clause-seat c =
    let items = c.self.inside.seats.items in
    let v = c.self.inside.base.me.0 in
    let at : slice_get items c.args.lane ≡ Some c.take.result =
    get_some items c.args.lane c.index_mut.result.now (omega arith)
    ∙ ap (λ o. Some o) (sym c.index_mut.ensures.value ∙ sym c.take.ensures.value) in
    subst (λ (s : LaneSeatsOf). IfSome c.take.result
    (λ q. (q ≡ seat_of s.table s.about c.args.lane q.log)
    × (slice_get s.logs c.args.lane ≡ Some (Some q.log))
    × (seats_of c.self.inside.base.table_id v.about v.stopped
    (map log_of (set items c.args.lane c.take.new.self))
    ≡ seats_of s.table s.about s.stopped (set s.logs c.args.lane None))))
    c.self.view_is (took c.self.inside.base.table_id v.about v.stopped items c.args.lane
    c.take.result c.take.new.self c.self.invariant.1 at c.take.ensures.after)
