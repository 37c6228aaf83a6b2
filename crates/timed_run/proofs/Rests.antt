-- A timed run whose lane was found waiting or finished, and which lanes rest on behind an output.
use Rattle.std.proofs.Common.{◌≡◌, ℕ, Bool, true, false, ◌&&◌, ◌||◌, inl, inr, List, Some, slice_get, slice_set, refl, sym, ap, ◌∙◌, subst, length-set}
use Rattle.std.proofs.lemmas.Bool.{false≢true, cases_Bool, and_parts, and_from, or_cases}
use Rattle.deb_relation.specs.Relations.{Entry}
use Rattle.farm_model.specs.Common.{Universe, variant, same, names, variants, satisfies_entry}
use Rattle.farm_model.specs.declared.types.Variant.{Variant}
use Rattle.farm_model.proofs.BelowLaws.{some_below-mono}
use Rattle.farm_model.proofs.VariantLaws.{same-true}
use Rattle.plan_model.specs.Common.{Plan, lane, instruction_at, passes, turn_of, State, archive, lane_state}
use Rattle.plan_model.specs.declared.instructions.Instruction.TheVariants.{Wait}
use Rattle.timed_run.specs.Beginning.{Beginning}
use Rattle.timed_run.specs.declared.clock.Clock.{Clock}
use Rattle.timed_run.specs.declared.event.Event.{Event}
use Rattle.timed_run.specs.Timed.{turn_over, rests}
use Rattle.timed_run.specs.Clocks.{IsClock, IsTiming, StaysOver}
use Rattle.timed_run.proofs.Lists.{AtSet, Same, Other, at_set}

module _ (u : Universe) (p : Plan) (b : Beginning) (events : List Event) (s : State) (clocks : List Clock)
    (t : IsTiming u p b events s clocks) (l : ℕ) (c : Clock) (is : slice_get clocks l ≡ Some c)
    (turn_rests : rests (turn_over u p s l (archive u s.published)) ≡ true) where
  abbrev asleep : Clock
  asleep = record { free = c.free; next = c.next; awake = false }

  pub timing-rests : IsTiming u p b events s (slice_set clocks l asleep)
  timing-rests = record {
    reached = t.reached;
    now = t.now;
    last = t.last;
    run = t.run;
    made = t.made;
    past = t.past;
    timed = t.timed;
    ordered = t.ordered;
    long = length-set clocks l asleep ∙ t.long;
    each = λ k d at. by k d (at_set clocks l asleep k d at);
  }
    where
      own : IsClock u p b events s t.now t.last l c
      own = t.each l c is

      mine : IsClock u p b events s t.now t.last l asleep
      mine = record {
        free = own.free;
        ahead = own.ahead;
        small = own.small;
        later = λ up. absurd (false≢true up);
        known = λ up. absurd (false≢true up);
        rested = λ up. absurd (false≢true up);
        asleep = λ _. turn_rests;
      }

      by : (k : ℕ) (d : Clock) → AtSet clocks l asleep k d → IsClock u p b events s t.now t.last k d
      by k d (Same same new) = subst (λ n. IsClock u p b events s t.now t.last n d) (sym same)
          (subst (IsClock u p b events s t.now t.last l) new mine)
      by k d (Other other at) = t.each k d at

-- a variant that does not satisfy the entry lets no wait pass
waits-on : (u : Universe) (there : Variant → Bool) (e : Entry) (v : Variant)
    → satisfies_entry u e v ≡ false → passes u (λ w. there w || same v w) e ≡ true
    → passes u there e ≡ true
waits-on u there e v unmet =
    let lift : (w : Variant) → ((there w || same v w) && satisfies_entry u e w) ≡ true
    → (there w && satisfies_entry u e w) ≡ true =
    λ w k. let parts = and_parts (there w || same v w) (satisfies_entry u e w) k in
    elim (or_cases (there w) (same v w) parts.0) [
      | inl here ↦ and_from (there w) (satisfies_entry u e w) here parts.1
      | inr it ↦ absurd (false≢true (sym unmet
          ∙ (ap (satisfies_entry u e) (same-true v w it) ∙ parts.1)))
    ] in
    some_below-mono (names u) _ _ (λ n lt. some_below-mono (variants u n) _ _
    (λ b lt' k. lift (variant n b) k))

pub stays-wait : (u : Universe) (p : Plan) (s : State) (l : ℕ) (v : Variant) (e : Entry)
    → instruction_at p l (lane_state s l).done ≡ Some (Wait e)
    → satisfies_entry u e v ≡ false → StaysOver u p s l v
stays-wait u p s l v e is unmet there r =
    let at : (a : Variant → Bool) → turn_over u p s l a
    ≡ turn_of u a (lane p l) (lane_state s l) (Some (Wait e)) =
    λ a. ap (turn_of u a (lane p l) (lane_state s l)) is in
    subst (λ turn. rests turn ≡ true) (sym (at (λ w. there w || same v w)))
    (still (subst (λ turn. rests turn ≡ true) (at there) r))
  where
    waiting : passes u there e ≡ true
        → rests (turn_of u there (lane p l) (lane_state s l) (Some (Wait e))) ≡ true → ⊥
    waiting passed h = false≢true (rw passed at h)

    still : rests (turn_of u there (lane p l) (lane_state s l) (Some (Wait e))) ≡ true
        → rests (turn_of u (λ w. there w || same v w) (lane p l) (lane_state s l)
        (Some (Wait e))) ≡ true
    still h = elim (cases_Bool (passes u (λ w. there w || same v w) e)) [
      | inl passed ↦ absurd (waiting (waits-on u there e v unmet passed) h)
      | inr waits ↦ rw waits refl
    ]
