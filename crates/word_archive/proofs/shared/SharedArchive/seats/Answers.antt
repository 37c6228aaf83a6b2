use Rattle.word_archive.proofs.shared.SharedArchive.seats.Goals as goal
use Rattle.std.proofs.Common.{ap, arith, length, ◌∙◌, ◌≡◌}
use Rattle.plan_model.specs.Plan.{lane}
use Rattle.archive_laws.specs.Records.{blank}
use Rattle.word_archive.specs.Seats.{seat_of}
use Rattle.word_archive.proofs.SplitOff.{seats_fit, seats_shown, split_more, split_none}

pub invariant_of-result : goal.invariant_of-result
invariant_of-result c =
    let h = c.loop-lane.invariant in
    let all : c.loop-lane.lane ≡ length c.args.self.now.accepted.now.plan =
    omega (arith, ap length c.plan-plan.ensures.lanes) in
    seats_fit _ _ c.args.self.now.accepted.now c.loop-lane.lane c.loop-lane.base.me
    c.loop-lane.seats.items h.1 all h.0 h.2

pub returns : goal.returns
returns c =
    let h = c.loop-lane.invariant in
    let all : c.loop-lane.lane ≡ length c.args.self.now.accepted.now.plan =
    omega (arith, ap length c.plan-plan.ensures.lanes) in
    seats_shown _ _ c.args.self.now.accepted.now c.loop-lane.lane c.loop-lane.base.me
    c.loop-lane.seats.items h.1 all h.0 h.2

pub loop-lane-init : goal.loop-lane-init
loop-lane-init c = (c.requires.table, c.requires.base, split_none _ _ _ c.new-seats.ensures.items)

pub loop-lane-preserved : goal.loop-lane-preserved
loop-lane-preserved c =
    let h = c.loop-lane.invariant in
    let q = c.split.ensures in (
      q.base.0 ∙ h.0,
      q.base.1,
      split_more _ c.args.self.now.accepted.now c.loop-lane.lane c.loop-lane.seats.items
          c.push.new.self.items c.split.result
          (omega (arith, ap length c.plan-plan.ensures.lanes)) (q.seat
          ∙ ap (λ t. seat_of t c.args.self.now.accepted.now c.loop-lane.lane
          (blank c.args.self.now.accepted.now.universe
          (lane c.args.self.now.accepted.now.plan c.loop-lane.lane))) h.0)
          c.in_ok-push.ensures.items h.2,
    )
