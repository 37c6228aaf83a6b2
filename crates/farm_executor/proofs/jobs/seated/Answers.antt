use Rattle.std.proofs.Common.{◌≡◌, ◌∷◌, [], ℕ, suc, length, length-append, length-set, drop, slice_get, None, ◌∙◌, sym, ap, subst, arith}
use Rattle.std.specs.Vec.Iter.{into_iter_items}
use Rattle.atomic_table.specs.Seated.{TableId}
use Rattle.plan_verifier.specs.Accepted.{AcceptedPlan}
use Rattle.word_archive.proofs.Lists.{get_set_other}
use Rattle.word_archive.specs.Seats.{LaneSeatsOf}
use Rattle.farm_executor.specs.Seated.{IsSeatedAt}
use Rattle.farm_executor.proofs.Pairs.{drop_more, paired_at}
use Rattle.farm_executor.proofs.jobs.seated.Goals as goal

pub loop-chroot-preserved : goal.loop-chroot-preserved
loop-chroot-preserved c =
    let h = c.loop-chroot.invariant in
    let step = c.in-Some.ensures.steps in
    let more = c.push_reserved.ensures in
    let chroots = c.args.chroots.items in
    let jobs = c.loop-chroot.jobs.items in
    let done = length jobs in
    let rest = into_iter_items c.next.new.self in
    let at : drop done chroots ≡ c.in-Some.chroot ∷ rest = sym h.rest ∙ step.0 in
    let seats = c.seated_at.ensures.seats in
    let logs = ap (λ (s : LaneSeatsOf). s.logs) seats in
    let number : c.len-lane.result ≡ done =
    (let e = c.len-lane.ensures in let l = c.loop-chroot.jobs.ok.0 in omega (arith, e, l)) in
    let job = subst (λ (m : TableId × AcceptedPlan × ℕ). IsSeatedAt m.0 m.1 m.2 c.in-Some.chroot
    c.seated_at.result.lane c.seated_at.result.chroot c.seated_at.result.end.seat)
    (λ i. (h.taken.table i, h.taken.about i, number i)) c.seated_at.ensures.job in
    let long : length c.push_reserved.new.self.items ≡ suc done =
    ap length more.items
    ∙ (let l = length-append jobs (c.seated_at.result ∷ []) in omega arith) in
    record {
      left = omega (arith, long, h.left, step.1);
      rest = sym (ap (λ n. drop n chroots) long ∙ drop_more done chroots c.in-Some.chroot rest at);
      room = omega (arith, more.capacity, h.room);
      taken = record {
        table = ap (λ (s : LaneSeatsOf). s.table) seats ∙ h.taken.table;
        about = ap (λ (s : LaneSeatsOf). s.about) seats ∙ h.taken.about;
        stopped = ap (λ (s : LaneSeatsOf). s.stopped) seats ∙ h.taken.stopped;
        logs = ap length logs ∙ length-set c.loop-chroot.seats.logs _ None ∙ h.taken.logs;
      };
      logs = λ k le lt. ap (λ xs. slice_get xs k) logs
          ∙ get_set_other c.loop-chroot.seats.logs _ k None
          (λ same. omega (arith, le, same, long, number))
          ∙ h.logs k (omega (arith, le, long)) lt;
      each = λ k d j is there. paired_at
          (λ k d j. IsSeatedAt c.args.seats.table c.args.seats.about k d j.lane j.chroot j.end.seat)
          chroots jobs c.in-Some.chroot rest c.seated_at.result at job h.each k d j is
          (sym (ap (λ l. slice_get l k) more.items) ∙ there);
    }
