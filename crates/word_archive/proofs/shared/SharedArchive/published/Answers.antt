use Rattle.word_archive.proofs.shared.SharedArchive.published.Goals as goal
use Rattle.word_archive.proofs.shared.SharedArchive.published.Goals.{in-Some+in_ok-add_published, in_default}
use Rattle.std.proofs.Common.{ap, arith, ◌∙◌}
use Rattle.word_archive.proofs.PublishedSeats.{more_published, none_published, seat_is}

pub add_published-requires : goal.add_published-requires
add_published-requires c =
    record {
      lane = ap (λ s. s.lane)
          (seat_is _ c.args.self.now.accepted.now c.args.seats.now c.loop-lane.lane
          c.index-seats-lane.result c.in-Some.seat c.requires.seats (omega arith)
          c.index-seats-lane.is c.in-Some.is);
    }

pub loop-lane-preserved : goal.loop-lane-preserved
loop-lane-preserved c =
    elim c.match-seats-lane.branch [
      | in-Some+in_ok-add_published w ↦ more_published _ c.args.self.now.accepted.now
          c.args.seats.now c.loop-lane.lane c.index-seats-lane.result w.in-Some.seat
          c.loop-lane.history.items c.match-seats-lane.history.items c.requires.seats
          (omega arith) c.index-seats-lane.is w.in-Some.is c.loop-lane.invariant
          (ap (λ h. h.items) w.history-is ∙ w.in_ok-add_published.ensures)
      | in_default w ↦ ap (λ h. h.items) w.history-is
          ∙ none_published c.args.self.now.accepted.now c.args.seats.now c.loop-lane.lane
          c.index-seats-lane.result c.loop-lane.history.items (omega arith) c.index-seats-lane.is
          w.in_default.is c.loop-lane.invariant
    ]
