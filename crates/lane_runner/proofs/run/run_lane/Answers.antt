use Rattle.std.proofs.Common.{◌≡◌, suc, ◌+◌, refl, ap, subst, arith}
use Rattle.lane_runner.specs.Calls.{IsBranched, IsPicked}
use Rattle.lane_runner.specs.OnWay.{IsEnded}
use Rattle.lane_runner.specs.declared.runner.Runner.{Runner}
use Rattle.plan_verifier.specs.Accepted.{known_rows}
use Rattle.lane_runner.proofs.Ends.{ends}
use Rattle.lane_runner.proofs.run.run_lane.Goals as goal

pub loop-init : goal.loop-init
loop-init g c =
    let fresh = c.requires.fresh in
    record {
      can = tt;
      finite = tt;
      same = record { home_is = refl; about_is = refl; lane_is = refl };
      unhalted = fresh.unhalted;
      unseen = fresh.unseen;
      number = ap (λ (w : Runner). w.lane) c.new-runner.ensures.started;
      running = c.new-runner.ensures.running;
    }

pub returns-then-has_ended-clause-ended : goal.returns-then-has_ended-clause-ended
returns-then-has_ended-clause-ended g c =
    let a = c.args.accepted.now in
    let w = c.loop.runner in
    subst (λ l. IsEnded a.universe a.plan l w.spent c.loop.chroot
    (g.A.LaneArchive.log c.loop.archive))
    c.loop.invariant.number
    (ends a.universe a.plan (known_rows a) w c.loop.chroot _ c.loop.invariant.running.on
    (c.has_ended.ensures.ends c.if-has_ended.true))

pub published-requires-clause-there : goal.published-requires-clause-there
published-requires-clause-there g c =
    c.turn.ensures.last c.in-Published.publication c.in-Published.is

pub before-requires : goal.before-requires
before-requires g c = record {
  ahead = record {
    runner = c.loop.runner;
    running = c.loop.invariant.running;
    lane_is = c.loop.invariant.number;
    number_is = omega arith;
    left = c.has_ended.ensures.left c.if-has_ended.false;
  };
}

pub unpacked-requires : goal.unpacked-requires
unpacked-requires g c =
    let w = c.loop.runner in
    let next : suc w.done ≡ w.done + 1 = omega arith in
    record {
      picked = subst (λ n. IsPicked c.args.accepted.now c.args.lane n c.turn.new.chroot
          (g.A.LaneArchive.log c.turn.new.archive) c.in-Unpacked.variant)
          next
          (subst (λ l. IsPicked c.args.accepted.now l (suc w.done) c.turn.new.chroot
          (g.A.LaneArchive.log c.turn.new.archive) c.in-Unpacked.variant)
          c.loop.invariant.number
          (c.turn.ensures.picked c.in-Unpacked.variant c.in-Unpacked.is).2);
    }

pub give_up-requires-then-eq-2 : goal.give_up-requires-then-eq-2
give_up-requires-then-eq-2 g c = (c.turn.ensures.picked c.in-Unpacked.variant c.in-Unpacked.is).1

pub branched-requires : goal.branched-requires
branched-requires g c =
    let w = c.loop.runner in
    let next : suc w.done ≡ w.done + 1 = omega arith in
    let holds = c.in-Branched.holds in
    record {
      branched = subst (λ n. IsBranched c.args.accepted.now c.args.lane n
          (g.A.LaneArchive.log c.turn.new.archive) holds)
          next
          (subst (λ l. IsBranched c.args.accepted.now l (suc w.done)
          (g.A.LaneArchive.log c.turn.new.archive) holds)
          c.loop.invariant.number
          (c.turn.ensures.branched holds c.in-Branched.is).1);
    }
