use Rattle.std.proofs.Common.{◌≡◌, ◌∷◌, [], suc, length, length-append, drop, slice_get, ◌∙◌, sym, ap, arith}
use Rattle.std.specs.Vec.Iter.{into_iter_items}
use Rattle.farm_executor.proofs.Pairs.{paired_more, drop_more}
use Rattle.farm_executor.proofs.lanes.join_all.Goals as goal

pub loop-started-preserved : goal.loop-started-preserved
loop-started-preserved g c =
    let h = c.loop-started.invariant in
    let step = c.in-Some.ensures.steps in
    let more = c.push_reserved.ensures in
    let done = length c.loop-started.ends.items in
    let long : length c.push_reserved.new.self.items ≡ suc done =
    ap length more.items
    ∙ (let l = length-append c.loop-started.ends.items (c.finish.result ∷ []) in omega arith) in
    let rest = into_iter_items c.next.new.self in
    let at : drop done c.args.handles.items ≡ c.in-Some.started ∷ rest = sym h.rest ∙ step.0 in
    record {
      left = omega (arith, long, h.left, step.1);
      rest = sym (ap (λ n. drop n c.args.handles.items) long
          ∙ drop_more done c.args.handles.items c.in-Some.started rest at);
      room = omega (arith, more.capacity, h.room);
      refused = λ k s e is there. paired_more _ c.args.handles.items c.loop-started.ends.items
          c.in-Some.started rest c.finish.result at c.finish.ensures.refused h.refused k s e is
          (sym (ap (λ l. slice_get l k) more.items) ∙ there);
      each = λ k s e is there. paired_more _ c.args.handles.items c.loop-started.ends.items
          c.in-Some.started rest c.finish.result at c.finish.ensures.ended h.each k s e is
          (sym (ap (λ l. slice_get l k) more.items) ∙ there);
    }
