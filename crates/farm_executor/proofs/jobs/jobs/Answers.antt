use Rattle.std.proofs.Common.{◌∙◌, sym, ap, subst}
use Rattle.atomic_table.specs.Seated.{TableId}
use Rattle.chroot_state.specs.Held.{Held, IsHeld}
use Rattle.plan_verifier.specs.Accepted.{AcceptedPlan}
use Rattle.word_archive.specs.Seats.{LaneSeatsOf}
use Rattle.farm_executor.specs.Seated.{IsSeatedAt}
use Rattle.farm_executor.proofs.Pairs.{some_at}
use Rattle.farm_executor.proofs.jobs.jobs.Goals as goal

pub returns-clause-each : goal.returns-clause-each
returns-clause-each c k j is =
    let d = some_at c.seated.result.0.items c.in_ok-chroots.chroots.items k j
    (sym c.seated.ensures.long) is in
    let s = c.seated.ensures.each k d.0 j d.1 is in
    let b = c.in_ok-chroots.ensures.each k d.0 d.1 in
    let table = ap (λ (x : LaneSeatsOf). x.table) c.requires.seats in
    let about = ap (λ (x : LaneSeatsOf). x.about) c.requires.seats ∙ c.requires.about in
    record {
      seated = subst (λ (m : TableId × AcceptedPlan × Held). IsSeatedAt m.0 m.1 k m.2 j.lane
          j.chroot
          j.end.seat) (λ i. (table i, about i, b.0 i)) s;
      held = subst (IsHeld c.args.accepted.now.universe) (sym s.chroot_is) b.1;
    }
