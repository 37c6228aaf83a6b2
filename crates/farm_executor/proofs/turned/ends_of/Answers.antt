use Rattle.std.proofs.Common.{◌≡◌, ◌∷◌, [], suc, length, length-append, drop, slice_get, ◌∙◌, sym, ap, arith}
use Rattle.std.specs.Vec.Iter.{into_iter_items}
use Rattle.farm_executor.proofs.Pairs.{paired_more, drop_more}
use Rattle.farm_executor.proofs.turned.ends_of.Goals as goal

pub loop-lane-preserved : goal.loop-lane-preserved
loop-lane-preserved g c =
    let h = c.loop-lane.invariant in
    let step = c.in-Some.ensures.steps in
    let more = c.push_reserved.ensures in
    let lanes = c.args.lanes.items in
    let ends = c.loop-lane.ends.items in
    let done = length ends in
    let of = c.end_of.ensures in
    let rest = into_iter_items c.next.new.self in
    let at : drop done lanes ≡ c.in-Some.lane ∷ rest = sym h.rest ∙ step.0 in
    let long : length c.push_reserved.new.self.items ≡ suc done =
    ap length more.items ∙ (let l = length-append ends (c.end_of.result ∷ []) in omega arith) in
    record {
      left = omega (arith, long, h.left, step.1);
      rest = sym (ap (λ n. drop n lanes) long ∙ drop_more done lanes c.in-Some.lane rest at);
      room = omega (arith, more.capacity, h.room);
      each = λ k t e is there. paired_more _ lanes ends c.in-Some.lane rest c.end_of.result at
          (of.stop.0, of.stop.1, of.spent, of.chroot, of.end) h.each k t e is
          (sym (ap (λ l. slice_get l k) more.items) ∙ there);
    }
