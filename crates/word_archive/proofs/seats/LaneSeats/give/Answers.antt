use Rattle.word_archive.proofs.seats.LaneSeats.give.Goals as goal
use Rattle.std.proofs.Common.{Some, [], ap, arith, length-set, map, set, subst, sym, ◌+◌, ◌∙◌, ◌≡◌}
use Rattle.word_archive.specs.Seats.{LaneSeatOf, LaneSeatsOf, log_of, seat_of}
use Rattle.word_archive.specs.Views.{base_view}
use Rattle.word_archive.proofs.SeatPlaces.{gave, in_place_put, seats_of}

pub invariant_of-self : goal.invariant_of-self
invariant_of-self c =
    let items = c.self.inside.seats.items in
    let v = c.self.inside.base.me.0 in
    let t = c.self.inside.base.table_id in
    let lane = c.seat.inside.lane in
    let q : LaneSeatOf = c.args.seat in
    let fit = c.self.invariant in
    let long = length-set items lane (Some q) in
    let table = c.requires.table ∙ sym (ap (λ s. s.table) c.self.view_is) in
    let about = c.requires.about ∙ sym (ap (λ s. s.about) c.self.view_is) in
    let place : q.lane ≡ 0 + lane = let z : lane ≡ 0 + lane = omega arith in
    sym (ap (λ s. s.lane) c.seat.view_is) ∙ z in
    let is : q ≡ seat_of t v.about (0 + lane) q.log =
    λ i. record { table = table i; about = about i; lane = place i; log = q.log } in (
      fit.0 ∙ ap (λ n. (base_view v.about n v.stopped [], [])) (sym long),
      in_place_put t v.about 0 items lane q is fit.1,
      long ∙ fit.2,
    )

pub returns : goal.returns
returns c =
    let items = c.self.inside.seats.items in
    let v = c.self.inside.base.me.0 in
    let t = c.self.inside.base.table_id in
    let q : LaneSeatOf = c.args.seat in
    let lane = ap (λ s. s.lane) c.seat.view_is in
    subst (λ (s : LaneSeatsOf). seats_of t v.about v.stopped
    (map log_of (set items c.seat.inside.lane (Some q)))
    ≡ seats_of s.table s.about s.stopped (set s.logs q.lane (Some q.log))) c.self.view_is
    (gave t v.about v.stopped items c.seat.inside.lane q
    ∙ ap (λ l. seats_of t v.about v.stopped (set (map log_of items) l (Some q.log))) lane)
