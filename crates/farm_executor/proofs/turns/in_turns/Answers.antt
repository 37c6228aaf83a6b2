use Rattle.std.proofs.Common.{◌≡◌, ◌∷◌, [], suc, length, length-append, drop, slice_get, ◌∙◌, sym, ap, arith}
use Rattle.std.specs.Vec.Iter.{into_iter_items}
use Rattle.archive_laws.proofs.Settles.{next_of}
use Rattle.farm_executor.proofs.Pairs.{paired_more, drop_more}
use Rattle.farm_executor.proofs.turns.in_turns.Goals as goal

pub new-requires-clause-lane : goal.new-requires-clause-lane
new-requires-clause-lane g c =
    let done = length c.loop-job.lanes.items in
    let at = sym c.loop-job.invariant.rest ∙ c.in-Some.ensures.steps.0 in
    let ready = c.requires.ready done c.in-Some.job
    (next_of c.args.jobs.items done c.in-Some.job (into_iter_items c.next.new.self) at).0 in
    ready.in_plan

pub new-requires-clause-ours : goal.new-requires-clause-ours
new-requires-clause-ours g c =
    let done = length c.loop-job.lanes.items in
    let at = sym c.loop-job.invariant.rest ∙ c.in-Some.ensures.steps.0 in
    let ready = c.requires.ready done c.in-Some.job
    (next_of c.args.jobs.items done c.in-Some.job (into_iter_items c.next.new.self) at).0 in
    (ready.about_is, ready.lane_is)

pub new-requires-clause-chroot : goal.new-requires-clause-chroot
new-requires-clause-chroot g c =
    let done = length c.loop-job.lanes.items in
    let at = sym c.loop-job.invariant.rest ∙ c.in-Some.ensures.steps.0 in
    let ready = c.requires.ready done c.in-Some.job
    (next_of c.args.jobs.items done c.in-Some.job (into_iter_items c.next.new.self) at).0 in
    (ready.chroot, ready.held)

pub new-requires-clause-fresh : goal.new-requires-clause-fresh
new-requires-clause-fresh g c =
    let done = length c.loop-job.lanes.items in
    let at = sym c.loop-job.invariant.rest ∙ c.in-Some.ensures.steps.0 in
    let ready = c.requires.ready done c.in-Some.job
    (next_of c.args.jobs.items done c.in-Some.job (into_iter_items c.next.new.self) at).0 in
    ready.fresh

pub loop-job-preserved : goal.loop-job-preserved
loop-job-preserved g c =
    let h = c.loop-job.invariant in
    let step = c.in-Some.ensures.steps in
    let jobs = c.args.jobs.items in
    let lanes = c.loop-job.lanes.items in
    let done = length lanes in
    let rest = into_iter_items c.next.new.self in
    let at : drop done jobs ≡ c.in-Some.job ∷ rest = sym h.rest ∙ step.0 in
    let more = c.in_ok-push.ensures.items in
    let long : length c.push.new.self.items ≡ suc done =
    ap length more ∙ (let l = length-append lanes (c.new.result ∷ []) in omega arith) in
    record {
      left = omega (arith, long, h.left, step.1);
      rest = sym (ap (λ n. drop n jobs) long ∙ drop_more done jobs c.in-Some.job rest at);
      each = λ k j t is there. paired_more _ jobs lanes c.in-Some.job rest c.new.result at
          (c.new.ensures.end, c.new.ensures.running) h.each k j t is
          (sym (ap (λ l. slice_get l k) more) ∙ there);
    }
