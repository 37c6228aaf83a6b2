-- The next output of a lane leads from a world that is reached to one.
use Rattle.std.proofs.Common.{◌≡◌, ◌≢◌, inl, ℕ, suc, ◌<◌, length, Option, Some, None, slice_get, refl, sym, ap, subst, ◌∙◌, arith}
use Rattle.std.proofs.lemmas.Option.{slice_get_within, get_or_from_slice_get}
use Rattle.farm_model.specs.Common.{Universe, outputs, has_bit, IsKnown, first_trap}
use Rattle.farm_model.specs.declared.types.Variant.{Variant}
use Rattle.farm_model.specs.declared.types.Trap.{Trap}
use Rattle.plan_model.specs.Common.{Rows, Lane, Plan, lane, instruction_at, next_place, lane_outputs, IsAnnotation, IsSound, LaneState, Turn, Gives, Fails, unless, publish_traps, publishes, turn_of, World, world_after, archive_step}
use Rattle.plan_model.specs.declared.instructions.Instruction.{Instruction}
use Rattle.plan_model.specs.declared.instructions.Instruction.TheVariants.{Publish}
use Rattle.archive_laws.specs.LaneMoves.{output_of, behind_output}
use Rattle.archive_laws.specs.Reaching.{with_output, OutputReaches, OutputsReach}
use Rattle.archive_laws.specs.Shown.{IsReached, ready_lane}
use Rattle.archive_laws.proofs.Counted.{gives_count, ready_count, ready_place}
use Rattle.archive_laws.proofs.Foreseen.{worlds_are_ready}
use Rattle.archive_laws.proofs.OutputPlaces.{before_next, before_arrives}
use Rattle.archive_laws.proofs.Settles.{each_lane_steps}

-- a turn that meets no trap is the turn itself
no_trap : (o : Option Trap) (turn : Turn) → ((trap : Trap) → unless o turn ≢ Fails trap)
    → unless o turn ≡ turn
no_trap None turn h = refl
no_trap (Some trap) turn h = absurd (h trap refl)

module _ (u : Universe) (p : Plan) (rows : Rows) (sound : IsSound u p)
    (annotation : IsAnnotation u p rows) (w : World) (r : IsReached u p w) (l : ℕ)
    (in_plan : l < length p) where
  abbrev of : Lane
  of = lane p l

  abbrev st : LaneState
  st = ready_lane u p w l

  -- the turn of a publish gives its next output
  publish_gives : (recipe : ℕ) (v : Variant) → instruction_at p l st.done ≡ Some (Publish recipe)
      → slice_get (outputs u recipe) st.made ≡ Some v
      → turn_of u (has_bit w.words) of st (Some (Publish recipe))
      ≡ Gives (behind_output u of st (Some (Publish recipe))) v
  publish_gives recipe v at out =
      let next = behind_output u of st (Some (Publish recipe)) in
      let traps = first_trap (publish_traps u of st recipe) in
      let turn_is : turn_of u (has_bit w.words) of st (Some (Publish recipe))
      ≡ unless traps (Gives next v) =
      ap (publishes u of st recipe) out in
      turn_is
      ∙ no_trap traps (Gives next v)
      (λ trap e. (worlds_are_ready u p rows sound annotation w r l in_plan).no_trap trap
      (ap (turn_of u (has_bit w.words) of st) at ∙ (turn_is ∙ e)))

  publish_reaches : (recipe : ℕ) (v : Variant)
      → instruction_at p l st.done ≡ Some (Publish recipe)
      → slice_get (outputs u recipe) st.made ≡ Some v
      → OutputReaches u p w l v (behind_output u of st (Some (Publish recipe)))
  unfolding archive_step
  publish_reaches recipe v at out =
      let next = behind_output u of st (Some (Publish recipe)) in
      let gives = publish_gives recipe v at out in
      let place = ready_place u p sound l in_plan w r in
      let branched = sound.plan.branched l in_plan in
      let counts = gives_count u of branched (has_bit w.words) st next (Publish recipe) v at place
      gives in
      let same = ready_count u p sound l in_plan w r in
      let within = slice_get_within (outputs u recipe) st.made v out in
      record {
        reached = (each_lane_steps u p sound w r l in_plan).archive (with_output w l v next)
            (ap (world_after w l) (ap (turn_of u (has_bit w.words) of st) at ∙ gives));
        made = counts.0 ∙ ap suc same;
        output = ap (slice_get (lane_outputs u of)) (sym same) ∙ counts.1;
        there =
            let b = before_next u of.instructions st.done (Publish recipe) at in
            let d = before_arrives u of branched st.done (Publish recipe) (next_place of st.done) at
            (inl refl) in
            (omega arith, omega arith);
        known = subst (IsKnown u) (get_or_from_slice_get (outputs u recipe) st.made v v out)
            (sound.universe.outputs_known recipe st.made v within);
      }

  output_given : (x : Option Instruction) (v : Variant) → instruction_at p l st.done ≡ x
      → output_of u st.made x ≡ Some v → OutputReaches u p w l v (behind_output u of st x)
  output_given (Some (Publish recipe)) v at out = publish_reaches recipe v at out
  output_given _ v at out = absurd (cc)

-- the next output of a lane leads to a world that is reached
pub outputs_reach : OutputsReach
outputs_reach u p rows sound annotation w r l v lt out =
    output_given u p rows sound annotation w r l lt
    (instruction_at p l (ready_lane u p w l).done) v refl out
