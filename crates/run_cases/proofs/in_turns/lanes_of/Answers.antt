use Rattle.std.proofs.Common.{◌≡◌, length, slice_get, ap, ◌∙◌, arith}
use Rattle.word_archive.specs.Seats.{opened_seats}
use Rattle.run_cases.proofs.SeatedLanes.{from_ok, seated}
use Rattle.run_cases.proofs.in_turns.lanes_of.Goals as goal

pub returns-clause-first : goal.returns-clause-first
returns-clause-first c =
    let t = c.args.archive.now.table.shared.table_id in
    let b = c.args.accepted.now in
    let lane = c.in_ok-a.a in
    let value = c.in_ok-lanes.ensures.value in
    let there = ap (λ xs. slice_get xs 0) c.in_ok-a.ensures in
    let long = from_ok _ _ _ value c.lanes_in_turns.ensures.long in
    let two : length c.in_ok-lanes.lanes.items ≡ 2 = ap length c.in_ok-a.ensures in
    seated lane.accepted.now b lane.runner lane.chroot t 0 lane.end.seat c.args.seats
    c.in_ok-lanes.seats (from_ok _ _ _ value c.lanes_in_turns.ensures.running 0 lane there)
    (from_ok _ _ _ value c.lanes_in_turns.ensures.each 0 lane there)
    (c.requires.seats ∙ ap (opened_seats t) c.requires.about)
    (from_ok _ _ _ value c.lanes_in_turns.ensures.seats) (omega (arith, long, two))

pub returns-clause-second : goal.returns-clause-second
returns-clause-second c =
    let t = c.args.archive.now.table.shared.table_id in
    let b = c.args.accepted.now in
    let lane = c.in_ok-a.b in
    let value = c.in_ok-lanes.ensures.value in
    let there = ap (λ xs. slice_get xs 1) c.in_ok-a.ensures in
    let long = from_ok _ _ _ value c.lanes_in_turns.ensures.long in
    let two : length c.in_ok-lanes.lanes.items ≡ 2 = ap length c.in_ok-a.ensures in
    seated lane.accepted.now b lane.runner lane.chroot t 1 lane.end.seat c.args.seats
    c.in_ok-lanes.seats (from_ok _ _ _ value c.lanes_in_turns.ensures.running 1 lane there)
    (from_ok _ _ _ value c.lanes_in_turns.ensures.each 1 lane there)
    (c.requires.seats ∙ ap (opened_seats t) c.requires.about)
    (from_ok _ _ _ value c.lanes_in_turns.ensures.seats) (omega (arith, long, two))
