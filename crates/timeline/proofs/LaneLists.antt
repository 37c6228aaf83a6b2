-- Lanes with one more behind them, and behind one event more.
use Rattle.std.proofs.Common.{◌≡◌, ℕ, ◌+◌, ◌<◌, ◌≤◌, List, [], ◌∷◌, ◌++◌, length, length-append, length-set, Some, slice_get, slice_set, get_or, take, refl, sym, ◌∙◌, subst, arith}
use Rattle.std.proofs.lemmas.Option.{none-some, slice_get_within}
use Rattle.timed_run.specs.declared.event.Event.{Event}
use Rattle.timed_run.proofs.Lists.{At, Before, Last, at_more, AtSet, Same, Other, at_set}
use Rattle.timeline.specs.declared.lanes.LaneFacts.{LaneFacts}
use Rattle.timeline.specs.LaneTimes.{lane_time, time_with, AreBehind, AreLanes}
use Rattle.timeline.proofs.Times.{lane_time_next, time-other}

pub lanes-none : (events : List Event) → AreLanes events 0 []
lanes-none events = record {
  long = refl;
  each = λ l lane is. absurd (none-some lane is);
}

each_of : (events : List Event) (lanes : List LaneFacts) (lane : LaneFacts)
    → ((l : ℕ) (x : LaneFacts) → slice_get lanes l ≡ Some x → x.time ≡ lane_time l events)
    → lane.time ≡ lane_time (length lanes) events → (l : ℕ) (x : LaneFacts)
    → At lanes lane l x → x.time ≡ lane_time l events
each_of events lanes lane each is l x (Before lt at) = each l x at
each_of events lanes lane each is l x (Last here same) =
    subst (λ (y : LaneFacts). y.time ≡ lane_time l events) same
    (subst (λ n. lane.time ≡ lane_time n events) (sym here) is)

pub lanes-more : (events : List Event) (count : ℕ) (lanes : List LaneFacts) (lane : LaneFacts)
    → AreLanes events count lanes → lane.time ≡ lane_time count events
    → AreLanes events (count + 1) (lanes ++ lane ∷ [])
lanes-more events count lanes lane are is = record {
  long = let long = length-append lanes (lane ∷ []) in omega (arith, are.long, long);
  each = λ l x at.
      each_of events lanes lane are.each
      (subst (λ n. lane.time ≡ lane_time n events) (sym are.long) is) l x
      (at_more lanes lane l x at);
}

-- the lane of the event goes on, and no other
pub behind-lane : (e : Event) (old : List LaneFacts) (before lane : LaneFacts)
    → slice_get old e.lane ≡ Some before → lane.time ≡ time_with e.lane before.time e
    → AreBehind e old (slice_set old e.lane lane)
behind-lane e old before lane at is = record {
  long = length-set old e.lane lane;
  each = λ l x there. behind-at l x (at_set old e.lane lane l x there);
}
  where
    behind-at : (l : ℕ) (x : LaneFacts) → AtSet old e.lane lane l x → (before : LaneFacts)
        × (slice_get old l ≡ Some before) × (x.time ≡ time_with l before.time e)
    behind-at l x (Same here same) = (
      before,
      subst (λ k. slice_get old k ≡ Some before) (sym here) at,
      subst (λ (y : LaneFacts). y.time ≡ time_with l before.time e) same
          (subst (λ k. lane.time ≡ time_with k before.time e) (sym here) is),
    )
    behind-at l x (Other other there) = (x, there, sym (time-other l x.time e (λ h. other (sym h))))

-- an event of none of them
pub behind-none : (e : Event) (lanes : List LaneFacts) → length lanes ≤ e.lane
    → AreBehind e lanes lanes
behind-none e lanes past = record {
  long = refl;
  each = λ l x there. (
    x,
    there,
    let within = slice_get_within lanes l x there in
        sym (time-other l x.time e (λ h. absurd (omega (arith, within, past, h)))),
  );
}

pub lanes-behind : (events : List Event) (count i : ℕ) (old new : List LaneFacts) (e : Event)
    → AreLanes (take i events) count old → AreBehind e old new → i < length events
    → e ≡ get_or events i e → AreLanes (take (i + 1) events) count new
lanes-behind events count i old new e are behind lt is = record {
  long = behind.long ∙ are.long;
  each = λ l x there.
      let was = behind.each l x there in
      was.2 ∙ lane_time_next l events i was.0.time e (are.each l was.0 was.1) lt is;
}
