use Rattle.std.proofs.Common.{◌≡◌, ◌∷◌, [], suc, length, length-append, drop, slice_get, ◌∙◌, sym, ap, arith}
use Rattle.std.specs.Vec.Iter.{into_iter_items}
use Rattle.archive_laws.proofs.Settles.{next_of}
use Rattle.farm_executor.proofs.Pairs.{paired_more, drop_more}
use Rattle.farm_executor.proofs.lanes.start_all.Goals as goal

pub start_next-started-requires-clause-ready : goal.start_next-started-requires-clause-ready
start_next-started-requires-clause-ready g c = λ κs lives.
    let h = c.loop-job.invariant in
    let rest = into_iter_items c.next.new.self in
    let done = length c.loop-job.handles.items in
    let at : drop done c.args.jobs.items ≡ c.in-Some.job ∷ rest =
    sym h.rest ∙ c.in-Some.ensures.steps.0 in
    c.requires.ready done c.in-Some.job (next_of c.args.jobs.items done c.in-Some.job rest at).0

pub loop-job-preserved : goal.loop-job-preserved
loop-job-preserved g c =
    let h = c.loop-job.invariant in
    let step = c.in-Some.ensures.steps in
    let more = c.push_reserved.ensures in
    let done = length c.loop-job.handles.items in
    let long : length c.push_reserved.new.self.items ≡ suc done =
    ap length more.items
    ∙ (let l = length-append c.loop-job.handles.items (c.start_next-started.result ∷ []) in
    omega arith) in
    let rest = into_iter_items c.next.new.self in
    let at : drop done c.args.jobs.items ≡ c.in-Some.job ∷ rest = sym h.rest ∙ step.0 in
    record {
      left = omega (arith, long, h.left, step.1);
      rest = sym (ap (λ n. drop n c.args.jobs.items) long
          ∙ drop_more done c.args.jobs.items c.in-Some.job rest at);
      room = omega (arith, more.capacity, h.room);
      each = λ k j q is there. paired_more _ c.args.jobs.items c.loop-job.handles.items
          c.in-Some.job
          rest c.start_next-started.result at c.start_next-started.ensures h.each k j q is
          (sym (ap (λ l. slice_get l k) more.items) ∙ there);
    }
