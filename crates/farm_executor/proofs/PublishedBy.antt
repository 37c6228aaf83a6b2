-- What a reachable state has published: exactly the outputs that its lanes have made.
use Rattle.std.proofs.Common.{◌≡◌, ◌⊎◌, inl, inr, ℕ, zero, suc, ◌<◌, List, [], ◌∷◌, ◌++◌, length, Some, slice_get, Option, None, refl, sym, ap, subst, ◌∙◌, arith, get_or-set_same, get_or-set_other}
use Rattle.std.proofs.lemmas.Bool.{cases_eq, cases_lt}
use Rattle.std.proofs.lemmas.Option.{same_Some}
use Rattle.farm_model.specs.Universe.{Universe}
use Rattle.farm_model.specs.declared.types.Variant.{Variant}
use Rattle.plan_model.specs.Common.{Plan, lane, instruction_at, lane_outputs, LaneState, Turn, Goes, Gives, Waits, Ends, Fails, turn_of, Publication, publication, archive, State, start, lane_state, no_state, step, Moved, Reachable, IsSound}
use Rattle.plan_model.specs.declared.instructions.Instruction.{Instruction}
use Rattle.farm_laws.specs.EventsLeft.{InPlaces}
use Rattle.farm_laws.proofs.EventsLeft.{places_at_start, state_at_start, step_places}
use Rattle.farm_laws.proofs.Steps.{put, put_output, turn_at, After, step_keeps, run_keeps}
use Rattle.archive_laws.specs.LaneMoves.{outputs_made}
use Rattle.archive_laws.proofs.Counted.{goes_count, gives_count}

-- one more at the end of a list
at_push : {X : Type 0} (xs : List X) (y z : X) (k : ℕ) → slice_get (xs ++ y ∷ []) k ≡ Some z
    → (slice_get xs k ≡ Some z) ⊎ (y ≡ z)
at_push [] y z zero e = inr (same_Some y z e)
at_push [] y z (suc k) e = absurd (cc)
at_push (x ∷ xs) y z zero e = inl e
at_push (x ∷ xs) y z (suc k) e = at_push xs y z k e

stays_at : {X : Type 0} (xs ys : List X) (z : X) (k : ℕ) → slice_get xs k ≡ Some z
    → slice_get (xs ++ ys) k ≡ Some z
stays_at [] ys z k e = absurd (cc)
stays_at (x ∷ xs) ys z zero e = e
stays_at (x ∷ xs) ys z (suc k) e = stays_at xs ys z k e

last_at : {X : Type 0} (xs : List X) (y : X) → slice_get (xs ++ y ∷ []) (length xs) ≡ Some y
last_at [] y = refl
last_at (x ∷ xs) y = last_at xs y

module _ (u : Universe) (p : Plan) (sound : IsSound u p) where
  -- how many outputs lane l has made
  abbrev made_in : State → ℕ → ℕ
  made_in s l = outputs_made u (lane p l) (lane_state s l)

  -- the publication is an output that its lane has made
  pub record IsMade (s : State) (q : Publication) : Type 0 where
    pub in_plan : q.lane < length p
    pub place : ℕ
    pub made : place < outputs_made u (lane p q.lane) (lane_state s q.lane)
    pub output : slice_get (lane_outputs u (lane p q.lane)) place ≡ Some q.variant

  -- what was published is what the lanes have made
  pub record ArePublished (s : State) : Type 0 where
    pub each : (k : ℕ) (q : Publication) → slice_get s.published k ≡ Some q → IsMade s q
    pub all : (l i : ℕ) (v : Variant) → l < length p
        → i < outputs_made u (lane p l) (lane_state s l)
        → slice_get (lane_outputs u (lane p l)) i ≡ Some v
        → (k : ℕ) × (slice_get s.published k ≡ Some (publication l v))

  module _ (s : State) (l : ℕ) (in_plan : l < length p) (long : length s.lanes ≡ length p) where
    -- of each lane the turn of one leaves as many, or one more
    others_made : (next : LaneState) (k : ℕ) → ¬ (k ≡ l)
        → made_in (put s l next) k ≡ made_in s k
    others_made next k other =
        ap (outputs_made u (lane p k)) (get_or-set_other s.lanes l k next no_state other)

    this_made : (next : LaneState) → made_in (put s l next) l ≡ outputs_made u (lane p l) next
    this_made next =
        ap (outputs_made u (lane p l))
        (get_or-set_same s.lanes l next no_state (omega (arith, long)))

    same_made : (next : LaneState)
        → outputs_made u (lane p l) next ≡ made_in s l → (k : ℕ)
        → made_in (put s l next) k ≡ made_in s k
    same_made next same k =
        elim (cases_eq k l) [
          | inl is ↦ subst (λ j. made_in (put s l next) j ≡ made_in s j) (sym is)
              (this_made next ∙ same)
          | inr other ↦ others_made next k other
        ]

    goes_published : (next : LaneState) → outputs_made u (lane p l) next ≡ made_in s l
        → ArePublished s → ArePublished (put s l next)
    goes_published next same h = record {
      each = λ k q e. let m = h.each k q e in record {
        in_plan = m.in_plan;
        place = m.place;
        made = omega (arith, m.made, same_made next same q.lane);
        output = m.output;
      };
      all = λ j i v lt less e. h.all j i v lt (omega (arith, same_made next same j)) e;
    }

    module _ (next : LaneState) (v : Variant)
        (more : outputs_made u (lane p l) next ≡ suc (made_in s l))
        (output : slice_get (lane_outputs u (lane p l)) (made_in s l) ≡ Some v) where
      grows : (k : ℕ) → ¬ (made_in (put s l next) k < made_in s k)
      grows k less =
          elim (cases_eq k l) [
            | inl is ↦ (let t = ap (made_in (put s l next)) is in let o = ap (made_in s) is in
                omega (arith, less, t, o, this_made next, more))
            | inr other ↦ omega (arith, less, others_made next k other)
          ]

      each_made : (k : ℕ) (q : Publication) → ArePublished s
          → slice_get (s.published ++ publication l v ∷ []) k ≡ Some q
          → IsMade (put_output s l next v) q
      each_made k q h e =
          elim (at_push s.published (publication l v) q k e) [
            | inl old ↦ let m = h.each k q old in record {
              in_plan = m.in_plan;
              place = m.place;
              made = elim (cases_lt m.place (made_in (put s l next) q.lane)) [
                | inl lt ↦ lt
                | inr ge ↦ absurd (grows q.lane (omega (arith, ge, m.made)))
              ];
              output = m.output;
            }
            | inr new ↦ subst (IsMade (put_output s l next v)) new (record {
              in_plan = in_plan;
              place = made_in s l;
              made = omega (arith, this_made next, more);
              output = output;
            })
          ]

      all_made : (j i : ℕ) (w : Variant) → ArePublished s → j < length p
          → i < made_in (put s l next) j → slice_get (lane_outputs u (lane p j)) i ≡ Some w
          → (k : ℕ) × (slice_get (s.published ++ publication l v ∷ []) k ≡ Some (publication j w))
      all_made j i w h lt less e =
          elim (cases_lt i (made_in s j)) [
            | inl old ↦ let o = h.all j i w lt old e in
                (o.0, stays_at s.published (publication l v ∷ []) (publication j w) o.0 o.1)
            | inr ge ↦ elim (cases_eq j l) [
              | inl is ↦
                  let t = ap (made_in (put s l next)) is in
                  let o = ap (made_in s) is in
                  let at : i ≡ made_in s l = omega (arith, less, ge, t, o, this_made next, more) in
                  let same : v ≡ w =
                  same_Some v w (sym output
                  ∙ ap (slice_get (lane_outputs u (lane p l))) (sym at)
                  ∙ ap (λ n. slice_get (lane_outputs u (lane p n)) i) (sym is) ∙ e) in (
                    length s.published,
                    last_at s.published (publication l v)
                        ∙ ap (λ n. Some (publication n v)) (sym is)
                        ∙ ap (λ x. Some (publication j x)) same,
                  )
              | inr other ↦ absurd (omega (arith, less, ge, others_made next j other))
            ]
          ]

      gives_published : ArePublished s → ArePublished (put_output s l next v)
      gives_published h = record {
        each = λ k q e. each_made k q h e;
        all = λ j i w lt less e. all_made j i w h lt less e;
      }

    turn_published : (x : Instruction) (turn : Turn) → ArePublished s → InPlaces u p s
        → instruction_at p l (lane_state s l).done ≡ Some x
        → turn_of u (archive u s.published) (lane p l) (lane_state s l) (Some x) ≡ turn
        → After ArePublished s l turn
    turn_published x (Goes next) h places at is =
        goes_published next (goes_count u (lane p l) (sound.plan.branched l in_plan)
        (archive u s.published) (lane_state s l) next x at (places.each l in_plan) is) h
    turn_published x (Gives next v) h places at is =
        let g = gives_count u (lane p l) (sound.plan.branched l in_plan) (archive u s.published)
        (lane_state s l) next x v at (places.each l in_plan) is in
        gives_published next v g.0 g.1 h
    turn_published x Waits h places at is = tt
    turn_published x Ends h places at is = tt
    turn_published x (Fails trap) h places at is = tt

  record Holds (s : State) : Type 0 where
    pub places : InPlaces u p s
    pub published : ArePublished s

  turns : (s : State) (l : ℕ) → l < length p → Holds s → (o : Option Instruction)
      → instruction_at p l (lane_state s l).done ≡ o → (turn : Turn)
      → turn_of u (archive u s.published) (lane p l) (lane_state s l) o ≡ turn
      → After ArePublished s l turn
  turns s l lt h None at turn is = subst (After ArePublished s l) is tt
  turns s l lt h (Some x) at turn is =
      turn_published s l lt h.places.long x turn h.published h.places at is

  step_published : (s t : State) (l : ℕ) → Holds s → step u p s l ≡ Moved t → Holds t
  unfolding turn_at
  step_published s t l h e = record {
    places = (step_places u p sound s t l h.places e).0;
    published = step_keeps u p ArePublished s t l e
        (λ lt. turns s l lt h (instruction_at p l (lane_state s l).done) refl (turn_at u p s l)
        refl);
  }

  none_made : (l : ℕ) → l < length p → made_in (start u p) l ≡ 0
  none_made l lt = ap (outputs_made u (lane p l)) (state_at_start u p sound l lt)

  at_start : Holds (start u p)
  at_start = record {
    places = places_at_start u p sound;
    published = record {
      each = λ k q e. absurd (cc);
      all = λ l i v lt less e. absurd (omega (arith, less, none_made l lt));
    };
  }

  -- a reachable state has published exactly what its lanes have made
  pub publications_are_made : (s : State) → Reachable u p s → ArePublished s
  publications_are_made s r =
      (run_keeps u p Holds (λ a b l h e. step_published a b l h e) r.0 (start u p) s r.1
      at_start).published
