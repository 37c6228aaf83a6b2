use Rattle.std.proofs.Common.{◌≡◌, ◌∷◌, ◌++◌, [], suc, length, length-append, length-set, drop, map, take, Some, ◌∙◌, sym, ap, arith}
use Rattle.std.proofs.lemmas.Option.{slice_get_within}
use Rattle.std.specs.Prelude.{slice_set}
use Rattle.std.specs.Vec.Iter.{into_iter_items}
use Rattle.archive_laws.proofs.Settles.{next_of}
use Rattle.word_archive.specs.Seats.{LaneSeatOf, LaneSeatsOf}
use Rattle.farm_executor.proofs.GivenBack.{more_mapped, take_set}
use Rattle.farm_executor.proofs.Pairs.{drop_more}
use Rattle.farm_executor.proofs.outcomes.give_back.Goals as goal

pub give-requires-clause-table : goal.give-requires-clause-table
give-requires-clause-table c =
    let h = c.loop-end.invariant in
    let done = length c.loop-end.outcomes.stops.items in
    let at = sym h.rest ∙ c.in-Some.ensures.steps.0 in
    let there = (next_of c.args.ends.items done c.in-Some.end _ at).0 in
    ap (λ (q : LaneSeatOf). q.table) (c.requires.seats done c.in-Some.end there) ∙ sym h.table

pub give-requires-clause-about : goal.give-requires-clause-about
give-requires-clause-about c =
    let h = c.loop-end.invariant in
    let done = length c.loop-end.outcomes.stops.items in
    let at = sym h.rest ∙ c.in-Some.ensures.steps.0 in
    let there = (next_of c.args.ends.items done c.in-Some.end _ at).0 in
    ap (λ (q : LaneSeatOf). q.about) (c.requires.seats done c.in-Some.end there) ∙ sym h.about

pub give-requires-clause-lane : goal.give-requires-clause-lane
give-requires-clause-lane c =
    let h = c.loop-end.invariant in
    let done = length c.loop-end.outcomes.stops.items in
    let at = sym h.rest ∙ c.in-Some.ensures.steps.0 in
    let there = (next_of c.args.ends.items done c.in-Some.end _ at).0 in
    let lane = ap (λ (q : LaneSeatOf). q.lane) (c.requires.seats done c.in-Some.end there) in
    let lt = slice_get_within c.args.ends.items done c.in-Some.end there in
    omega (arith, lane, lt, h.long)

pub loop-end-preserved : goal.loop-end-preserved
loop-end-preserved c =
    let h = c.loop-end.invariant in
    let step = c.in-Some.ensures.steps in
    let ends = c.args.ends.items in
    let end = c.in-Some.end in
    let done = length c.loop-end.outcomes.stops.items in
    let left = into_iter_items c.loop-end.end-iterator in
    let rest = into_iter_items c.next.new.self in
    let at : drop done ends ≡ end ∷ rest = sym h.rest ∙ step.0 in
    let there = (next_of ends done end rest at).0 in
    let lt = slice_get_within ends done end there in
    let lane = ap (λ (q : LaneSeatOf). q.lane) (c.requires.seats done end there) in
    let stops = c.push_reserved.ensures in
    let chroots = c.push_reserved-in-loop-end.ensures in
    let spent = c.push_reserved-in-loop-end-2.ensures in
    let logs = c.loop-end.seats.logs in
    let given = ap (λ (s : LaneSeatsOf). s.logs) c.give.ensures in
    let long : length c.push_reserved.new.self.items ≡ suc done =
    ap length stops.items
    ∙ (let l = length-append c.loop-end.outcomes.stops.items (end.stop ∷ []) in omega arith) in
    let taken : take (length c.push_reserved.new.self.items) c.give.new.self.logs
    ≡ take done logs ++ Some end.end.seat.log ∷ [] =
    ap (λ n. take n c.give.new.self.logs) long ∙ ap (take (suc done)) given
    ∙ ap (λ k. take (suc done) (slice_set logs k (Some end.end.seat.log))) lane
    ∙ take_set logs done (Some end.end.seat.log) (omega (arith, lt, h.long)) in
    record {
      count = omega (arith, long, h.count, step.1);
      rest = sym (ap (λ n. drop n ends) long ∙ drop_more done ends end rest at);
      stops_room = omega (arith, stops.capacity, h.stops_room);
      chroots_room = omega (arith, chroots.capacity, h.chroots_room);
      spent_room = omega (arith, spent.capacity, h.spent_room);
      chroots_even = ap length chroots.items
          ∙ (let l = length-append c.loop-end.outcomes.chroots.items (end.chroot ∷ []) in
          omega (arith, l, long, h.chroots_even));
      spent_even = ap length spent.items
          ∙ (let l = length-append c.loop-end.outcomes.spent.items (end.spent ∷ []) in
          omega (arith, l, long, h.spent_even));
      stops = ap (λ xs. xs ++ map (λ e. e.stop) rest) stops.items
          ∙ more_mapped (λ e. e.stop) c.loop-end.outcomes.stops.items left end rest _
          step.0 h.stops;
      chroots = ap (λ xs. xs ++ map (λ e. e.chroot) rest) chroots.items
          ∙ more_mapped (λ e. e.chroot) c.loop-end.outcomes.chroots.items left end rest _ step.0
          h.chroots;
      spent = ap (λ xs. xs ++ map (λ e. e.spent) rest) spent.items
          ∙ more_mapped (λ e. e.spent) c.loop-end.outcomes.spent.items left end rest _
          step.0 h.spent;
      table = ap (λ (s : LaneSeatsOf). s.table) c.give.ensures ∙ h.table;
      about = ap (λ (s : LaneSeatsOf). s.about) c.give.ensures ∙ h.about;
      stopped = ap (λ (s : LaneSeatsOf). s.stopped) c.give.ensures ∙ h.stopped;
      long = ap length given ∙ length-set logs _ (Some end.end.seat.log) ∙ h.long;
      logs = ap (λ xs. xs ++ map (λ e. Some e.end.seat.log) rest) taken
          ∙ more_mapped (λ e. Some e.end.seat.log) (take done logs) left end rest _ step.0 h.logs;
    }
