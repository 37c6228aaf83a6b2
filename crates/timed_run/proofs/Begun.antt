-- A timed run at its beginning: lanes that are free from some times on, and from time 0 on.
use Rattle.std.proofs.Common.{◌≡◌, ℕ, zero, suc, ◌+◌, ◌^◌, ◌<◌, ◌≤◌, inl, inr, List, [], ◌∷◌, ◌++◌, length, replicate, Some, slice_get, slice_index_or, take, refl, sym, ap, ◌∙◌, subst, arith, Result, Ok, Err, IfOk}
use Rattle.std.specs.Prelude.{All}
use Rattle.std.proofs.lemmas.List.{length_push}
use Rattle.std.proofs.lemmas.Option.{none-some, same_Some}
use Rattle.farm_model.specs.Universe.{Universe}
use Rattle.plan_model.specs.Common.{Plan, State, start, Reachable}
use Rattle.timed_run.specs.Beginning.{beginning, from_start}
use Rattle.timed_run.specs.declared.clock.Clock.{Clock}
use Rattle.timed_run.specs.declared.event.Event.{Event}
use Rattle.timed_run.specs.Clocks.{fresh, AreFresh, IsTiming}
use Rattle.timed_run.specs.Timed.{archive_at, free_at, AreTimed, IsReached, IsTimedRun}
use Rattle.timed_run.proofs.Begins.{timing-begins}
use Rattle.timed_run.proofs.Lists.{At, Before, Last, at_more}

-- a lane more
pub fresh-none : (free : List ℕ) → AreFresh free 0 []
fresh-none free = record { long = refl; each = λ l c at. absurd (none-some c at) }

pub fresh-more : (free : List ℕ) (n : ℕ) (clocks : List Clock) (c : Clock) → AreFresh free n clocks
    → c ≡ fresh (slice_index_or free n 0) → c.free < 2 ^ 64
    → AreFresh free (n + 1) (clocks ++ c ∷ [])
fresh-more free n clocks c are is small = record {
  long = let long = length_push clocks c in omega (arith, long, are.long);
  each = λ l d at. by l d (at_more clocks c l d at);
}
  where
    by : (l : ℕ) (d : Clock) → At clocks c l d
        → (d ≡ fresh (slice_index_or free l 0)) × (d.free < 2 ^ 64)
    by l d (Before lt at) = are.each l d at
    by l d (Last here same) =
        subst (λ (x : Clock). (x ≡ fresh (slice_index_or free l 0)) × (x.free < 2 ^ 64)) same
        (is ∙ ap (λ i. fresh (slice_index_or free i 0)) (sym (here ∙ are.long)), small)

pub begun : (u : Universe) (p : Plan) (s : State) (free : List ℕ) (clocks : List Clock)
    (events : List Event) → Reachable u p s → length free ≡ length p
    → AreFresh free (length free) clocks → events ≡ []
    → IsTiming u p (beginning s free) events s clocks
begun u p s free clocks events reached long are none =
    subst (λ es. IsTiming u p (beginning s free) es s clocks) (sym none)
    (timing-begins u p (beginning s free) clocks reached
    (subst (λ n. AreFresh free n clocks) long are))

-- ---- lanes that are all free from time 0 on

zero-at : (n l : ℕ) → ◌≡◌ {A = ℕ} (slice_index_or (replicate n 0) l 0) 0
zero-at zero l = refl
zero-at (suc n) zero = refl
zero-at (suc n) (suc l) = zero-at n l

zero-some : (n l time : ℕ) → slice_get (replicate n 0) l ≡ Some time → time ≡ 0
zero-some zero l time at = absurd (none-some time at)
zero-some (suc n) zero time at = sym (same_Some 0 time at)
zero-some (suc n) (suc l) time at = zero-some n l time at

module _ (u : Universe) (p : Plan) (n : ℕ) (events : List Event) (end : ℕ)
    (r : IsTimedRun u p (beginning (start u p) (replicate n 0)) events end) where
  timed : AreTimed u p (from_start u p) events
  unfolding archive_at
  timed k e at =
      let t = r.timed k e at in record {
        state = t.state;
        run = t.run;
        place = t.place;
        free = t.free ∙ ap (λ first. free_at first e.lane (take k events)) (zero-at n e.lane);
        later = t.later;
        rested = t.rested;
        takes = t.takes;
        seen = t.seen;
      }

  -- an event ends at time 0, if there is any and none ends later
  some-end : (es : List Event) → All (λ (e : Event). e.end ≤ end) es → end ≡ 0
      → IsReached (from_start u p) es end
  some-end [] all none = inl (refl, none)
  some-end (e ∷ es) all none =
      let first = all 0 e (omega arith) in inr (inr (0, e, refl, omega (arith, first, none)))

  pub begins-start : IsTimedRun u p (from_start u p) events end
  begins-start = record {
    last = r.last;
    run = r.run;
    finished = r.finished;
    schedule = r.schedule;
    timed = timed;
    ordered = r.ordered;
    greatest = r.greatest;
    free = λ k d lt. absurd (omega (arith, lt));
    reached = elim r.reached [
      | inl empty ↦ inl empty
      | inr reached ↦ elim reached [
        | inl begins ↦ some-end events r.greatest (zero-some n begins.0 end begins.1)
        | inr last ↦ inr (inr last)
      ]
    ];
  }

pub start-run : (u : Universe) (p : Plan) (s : State) (n : ℕ) (free : List ℕ) (events : List Event)
    (end : ℕ) → s ≡ start u p → free ≡ replicate n 0
    → IsTimedRun u p (beginning s free) events end → IsTimedRun u p (from_start u p) events end
start-run u p s n free events end begins all r =
    begins-start u p n events end
    (subst (λ x. IsTimedRun u p (beginning x (replicate n 0)) events end) begins
    (subst (λ xs. IsTimedRun u p (beginning s xs) events end) all r))

-- what is answered, if it is
pub answered : {X E : Type 0} (P Q : X → Type 0) → ((x : X) → P x → Q x) → (r : Result X E)
    → IfOk r P → IfOk r Q
answered P Q so (Ok x) h = so x h
answered P Q so (Err e) h = tt
