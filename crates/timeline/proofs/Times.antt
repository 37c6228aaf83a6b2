-- The times of a lane behind one event more.
use Rattle.std.proofs.Common.{◌≡◌, ℕ, ◌+◌, ◌-◌, ◌<◌, Bool, true, false, List, length, get_or, refl, sym, subst, arith, take}
use Rattle.std.specs.Prelude.{◌==◌, if◌then◌else◌}
use Rattle.std.proofs.lemmas.Bool.{cond-false, ne_eqb}
use Rattle.std.proofs.lemmas.List.Sums.{fold_more, sum_by_more}
use Rattle.timed_run.specs.declared.event.Event.{Event}
use Rattle.timed_run.specs.Timed.{free_at}
use Rattle.timeline.specs.declared.lanes.LaneTime.{LaneTime}
use Rattle.timeline.specs.LaneTimes.{told, times_of, work_of, waits_of, lane_time, time_with}

told_more : (n m : ℕ) → told (n + m) ≡ told (told n + m)
told_more n m = omega arith

-- whether the event is of the lane or not
with_one : (b : Bool) (e : Event) (free work waits : ℕ)
    → times_of (if b then e.end else free) (work + (if b then e.end - e.begin else 0))
    (waits + (if b then e.begin - e.free else 0))
    ≡ (if b
    then record {
      end = e.end;
      busy = told (told work + (e.end - e.begin));
      idle = told (told waits + (e.begin - e.free));
    }
    else times_of free work waits)
with_one true e free work waits =
    rw (told_more work (e.end - e.begin), told_more waits (e.begin - e.free)) refl
with_one false e free work waits =
    let work_same : work + 0 ≡ work = omega arith in
    let waits_same : waits + 0 ≡ waits = omega arith in rw (work_same, waits_same) refl

pub lane_time_more : (l : ℕ) (events : List Event) (i : ℕ) (d : Event) → i < length events
    → lane_time l (take (i + 1) events)
    ≡ time_with l (lane_time l (take i events)) (get_or events i d)
unfolding lane_time
lane_time_more l events i d lt =
    rw (
      fold_more (λ at (e : Event). if e.lane == l then e.end else at) 0 events i d lt,
      sum_by_more (λ (e : Event). if e.lane == l then e.end - e.begin else 0) events i d lt,
      sum_by_more (λ (e : Event). if e.lane == l then e.begin - e.free else 0) events i d lt,
    )
    (with_one ((get_or events i d).lane == l) (get_or events i d) (free_at 0 l (take i events))
    (work_of l (take i events)) (waits_of l (take i events)))

pub lane_time_next : (l : ℕ) (events : List Event) (i : ℕ) (time : LaneTime) (e : Event)
    → time ≡ lane_time l (take i events) → i < length events → e ≡ get_or events i e
    → time_with l time e ≡ lane_time l (take (i + 1) events)
lane_time_next l events i time e same lt is =
    let next = lane_time l (take (i + 1) events) in
    subst (λ t. time_with l t e ≡ next) (sym same)
    (subst (λ x. time_with l (lane_time l (take i events)) x ≡ next) (sym is)
    (sym (lane_time_more l events i e lt)))

-- an event of another lane
pub time-other : (l : ℕ) (time : LaneTime) (e : Event) → (e.lane ≡ l → ⊥)
    → time_with l time e ≡ time
time-other l time e other = cond-false (e.lane == l) _ time (ne_eqb e.lane l other)
