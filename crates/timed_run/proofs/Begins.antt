-- A timed run at its beginning, and at its end.
use Rattle.std.proofs.Common.{◌≡◌, ℕ, ◌^◌, ◌<◌, ◌++◌, true, false, inl, inr, List, [], length, map, Some, slice_get, refl, sym, ◌∙◌, ap, arith}
use Rattle.std.specs.Prelude.{nat_lt}
use Rattle.std.proofs.lemmas.Bool.{cases_lt, cond-false, le-ltb, false≢true, cases_Bool, cond-true, lt-ltb}
use Rattle.std.proofs.lemmas.Option.{none-some, slice_get-get_or}
use Rattle.std.proofs.Math.Bool.{or-false}
use Rattle.farm_model.specs.Universe.{Universe}
use Rattle.plan_model.specs.Common.{Plan, IsSafe, Turn, Goes, Gives, Waits, Ends, Fails, State, archive, Reachable, Moved, Unknown, outcome, step, is_finished}
use Rattle.timed_run.specs.Beginning.{Beginning, first_free}
use Rattle.timed_run.specs.declared.clock.Clock.{Clock}
use Rattle.timed_run.specs.declared.event.Event.{Event}
use Rattle.timed_run.specs.Timed.{rests}
use Rattle.timed_run.specs.Clocks.{fresh, AreFresh, archive_behind, IsClock, IsTiming}
use Rattle.timed_run.proofs.Moves.{whole_of}

begins-clock : (u : Universe) (p : Plan) (b : Beginning) (l : ℕ) (c : Clock)
    → c ≡ fresh (first_free b l) → c.free < 2 ^ 64 → IsClock u p b [] b.state 0 0 l c
begins-clock u p b l c is small = record {
  free = ap (λ (x : Clock). x.free) is;
  ahead = omega (arith, next);
  small = omega (arith, next, small);
  later = λ up. (omega arith, λ same. omega arith);
  known = λ up. inl next;
  rested = λ up m from to. absurd (omega (arith, next, from, to));
  asleep = λ down. absurd (false≢true (sym down ∙ ap (λ (x : Clock). x.awake) is));
}
  where
    next : c.next ≡ c.free
    next = ap (λ (x : Clock). x.next) is ∙ sym (ap (λ (x : Clock). x.free) is)

pub timing-begins : (u : Universe) (p : Plan) (b : Beginning) (clocks : List Clock)
    → Reachable u p b.state → AreFresh b.free (length p) clocks
    → IsTiming u p b [] b.state clocks
unfolding archive_behind
timing-begins u p b clocks reached all = record {
  reached = reached;
  now = 0;
  last = 0;
  run = refl;
  made = λ v. sym (or-false (archive u b.state.published v));
  past = λ k d lt. absurd (omega (arith, lt));
  timed = λ k e at. absurd (none-some e at);
  ordered = λ j k a b lt at_a at_b. absurd (none-some a at_a);
  long = all.long;
  each = λ l c at.
      let here = all.each l c at in begins-clock u p b l c here.0 here.1;
}

-- a lane that rests does not move
rested-stays : (turn : Turn) → rests turn ≡ true → (s next : State) (l : ℕ)
    → outcome s l turn ≡ Moved next → ⊥
rested-stays (Goes n) h s next l e = false≢true h
rested-stays (Gives n v) h s next l e = false≢true h
rested-stays Waits h s next l e = cc
rested-stays Ends h s next l e = cc
rested-stays (Fails t) h s next l e = false≢true h

-- no lane moves that the plan does not have
in_plan : (u : Universe) (p : Plan) (s next : State) (l : ℕ) → step u p s l ≡ Moved next
    → l < length p
unfolding step
in_plan u p s next l e = elim (cases_lt l (length p)) [
  | inl lt ↦ lt
  | inr ge ↦ absurd (unmoved (sym (cond-false (nat_lt l (length p)) _ Unknown
      (le-ltb l (length p) ge)) ∙ e))
]
  where
    unmoved : Unknown ≡ Moved next → ⊥
    unmoved h = cc

-- where all lanes are asleep, all have ended
pub timing-ends : (u : Universe) (p : Plan) (b : Beginning) (events : List Event) (s : State)
    (clocks : List Clock) → IsTiming u p b events s clocks → IsSafe u p
    → ((l : ℕ) (c : Clock) → slice_get clocks l ≡ Some c → c.awake ≡ false)
    → is_finished p s ≡ true
unfolding step
timing-ends u p b events s clocks t safe all = elim (cases_Bool (is_finished p s)) [
  | inl ended ↦ ended
  | inr left ↦ absurd (stuck (safe.goes_on (t.reached.0 ++ map (λ (e : Event). e.lane) events) s
      (whole_of u p b events s clocks t) left))
]
  where
    stuck : ((l : ℕ) × (next : State) × (step u p s l ≡ Moved next)) → ⊥
    stuck (l, next, e) =
        let lt = in_plan u p s next l e in
        let at = slice_get-get_or clocks l (fresh 0) (omega (arith, lt, t.long)) in
        let down = all l _ at in
        rested-stays _ ((t.each l _ at).asleep down) s next l
        (sym (cond-true (nat_lt l (length p)) _ Unknown (lt-ltb l (length p) lt)) ∙ e)
