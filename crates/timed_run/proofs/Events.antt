-- What an event makes of a timed run on its way.
use Rattle.std.proofs.Common.{◌≡◌, ℕ, ◌+◌, ◌*◌, ◌<◌, ◌≤◌, true, ◌⊎◌, inl, inr, List, [], ◌∷◌, ◌++◌, take, Some, None, slice_get, sym, ap, ◌∙◌, subst, arith}
use Rattle.std.specs.Prelude.{◌==◌, if◌then◌else◌}
use Rattle.std.proofs.lemmas.Bool.{cases_Bool, cond-true, cond-false, eq-eqb, ne_eqb}
use Rattle.std.proofs.lemmas.List.{take_at, take-append-le}
use Rattle.std.proofs.lemmas.Grind.{fold-append}
use Rattle.farm_model.specs.Universe.{Universe}
use Rattle.farm_model.specs.declared.types.Variant.{Variant}
use Rattle.plan_model.specs.Common.{Plan, instruction_at, State, lane_state, is_publish}
use Rattle.timed_run.specs.Beginning.{Beginning}
use Rattle.timed_run.specs.declared.event.Event.{Event}
use Rattle.timed_run.specs.Timed.{archive_at, free_at, turn_over, rests, Takes, IsTimed, AreTimed, IsInOrder, AreInOrder}
use Rattle.timed_run.specs.Clocks.{moment_of}
use Rattle.timed_run.proofs.Archives.{archive_at-more}
use Rattle.timed_run.proofs.Lists.{At, Before, Last, at_more}

-- when a lane is free behind one event more
pub free_here : (first l : ℕ) (events : List Event) (x : Event) → x.lane ≡ l
    → free_at first l (events ++ x ∷ []) ≡ x.end
free_here first l events x here =
    fold-append (λ at (e : Event). if e.lane == l then e.end else at) first events (x ∷ [])
    ∙ cond-true (x.lane == l) x.end _ (eq-eqb x.lane l here)

pub free_other : (first l : ℕ) (events : List Event) (x : Event) → (x.lane ≡ l → ⊥)
    → free_at first l (events ++ x ∷ []) ≡ free_at first l events
free_other first l events x other =
    fold-append (λ at (e : Event). if e.lane == l then e.end else at) first events (x ∷ [])
    ∙ cond-false (x.lane == l) x.end _ (ne_eqb x.lane l other)

-- an event is at the time of its lane, or one step later
pub moment_low : (p : Plan) (s : State) (l time : ℕ) → 2 * time + 1 ≤ moment_of p s l time
moment_low p s l time =
    elim (cases_Bool (is_publish (instruction_at p l (lane_state s l).done))) [
      | inl gives ↦ rw gives (omega arith)
      | inr goes ↦ rw goes (omega arith)
    ]

-- an event is as it was timed, with one more behind it
pub timed-more : (u : Universe) (p : Plan) (b : Beginning) (events before : List Event) (e x : Event)
    → ((m : ℕ) → m ≤ e.begin → (x.output ≡ None) ⊎ (m < x.end)) → IsTimed u p b events before e
    → IsTimed u p b (events ++ x ∷ []) before e
timed-more u p b events before e x later t =
    let same : (m : ℕ) → m ≤ e.begin
    → archive_at u b events m ≡ archive_at u b (events ++ x ∷ []) m =
    λ m le. sym (archive_at-more u b events x m (later m le)) in record {
      state = t.state;
      run = t.run;
      place = t.place;
      free = t.free;
      later = t.later;
      rested = λ m from to. subst (λ there. rests (turn_over u p t.state e.lane there) ≡ true)
          (same m (omega (arith, to))) (t.rested m from to);
      takes = subst (λ there. Takes e (lane_state t.state e.lane)
          (turn_over u p t.state e.lane there)) (same e.begin (omega arith)) t.takes;
      seen = λ none v. t.seen none v
          ∙ ap (λ (there : Variant → _). there v) (same e.begin (omega arith));
    }

-- all events are timed, with one more that is
pub all-timed : (u : Universe) (p : Plan) (b : Beginning) (events : List Event) (x : Event)
    → ((k : ℕ) (e : Event) → slice_get events k ≡ Some e → (m : ℕ) → m ≤ e.begin
    → (x.output ≡ None) ⊎ (m < x.end))
    → AreTimed u p b events → IsTimed u p b (events ++ x ∷ []) events x
    → AreTimed u p b (events ++ x ∷ [])
all-timed u p b events x later old new k e is = by (at_more events x k e is)
  where
    by : At events x k e → IsTimed u p b (events ++ x ∷ []) (take k (events ++ x ∷ [])) e
    by (Before lt at) =
        subst (λ before. IsTimed u p b (events ++ x ∷ []) before e)
        (sym (take-append-le k events (x ∷ []) (omega (arith, lt))))
        (timed-more u p b events (take k events) e x (later k e at) (old k e at))
    by (Last here same) =
        subst (λ y. IsTimed u p b (events ++ x ∷ []) (take k (events ++ x ∷ [])) y) same
        (subst (λ before. IsTimed u p b (events ++ x ∷ []) before x)
        (sym (take_at events (x ∷ []) k (sym here))) new)

-- events in order, with one more that comes no sooner than any
pub order-more : (events : List Event) (x : Event)
    → ((k : ℕ) (e : Event) → slice_get events k ≡ Some e → IsInOrder e x) → AreInOrder events
    → AreInOrder (events ++ x ∷ [])
order-more events x last old j k a b lt at_a at_b =
    by (at_more events x j a at_a) (at_more events x k b at_b)
  where
    by : At events x j a → At events x k b → IsInOrder a b
    by (Before _ at_j) (Before _ at_k) = old j k a b lt at_j at_k
    by (Before _ at_j) (Last here same) = subst (IsInOrder a) same (last j a at_j)
    by (Last here same) (Before within at_k) = absurd (omega (arith, lt, here, within))
    by (Last here same) (Last there also) = absurd (omega (arith, lt, here, there))
