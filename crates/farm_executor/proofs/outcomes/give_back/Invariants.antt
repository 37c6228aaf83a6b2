use Rattle.std.proofs.Common.{◌≡◌, ◌+◌, ◌≤◌, ◌++◌, length, drop, map, take, Some}
use Rattle.std.specs.Vec.{vec_capacity}
use Rattle.std.specs.Vec.Iter.{into_iter_items, into_iter_len}
use Rattle.farm_executor.proofs.outcomes.give_back.Given as goal

abbrev pub invariant-loop-end : goal.invariant-loop-end
invariant-loop-end l =
    let done = length l.outcomes.stops.items in
    let ends = l.fn.ends.items in
    let left = into_iter_items l.end-iterator in
    record {
      count : done + into_iter_len l.end-iterator ≡ length ends;
      rest : left ≡ drop done ends;
      stops_room : length ends ≤ vec_capacity l.outcomes.stops;
      chroots_room : length ends ≤ vec_capacity l.outcomes.chroots;
      spent_room : length ends ≤ vec_capacity l.outcomes.spent;
      chroots_even : length l.outcomes.chroots.items ≡ done;
      spent_even : length l.outcomes.spent.items ≡ done;
      stops : l.outcomes.stops.items ++ map (λ e. e.stop) left ≡ map (λ e. e.stop) ends;
      chroots : l.outcomes.chroots.items ++ map (λ e. e.chroot) left ≡ map (λ e. e.chroot) ends;
      spent : l.outcomes.spent.items ++ map (λ e. e.spent) left ≡ map (λ e. e.spent) ends;
      table : l.seats.table ≡ l.fn.seats.table;
      about : l.seats.about ≡ l.fn.seats.about;
      stopped : l.seats.stopped ≡ l.fn.seats.stopped;
      long : length l.seats.logs ≡ length ends;
      logs : take done l.seats.logs ++ map (λ e. Some e.end.seat.log) left
          ≡ map (λ e. Some e.end.seat.log) ends;
    }
