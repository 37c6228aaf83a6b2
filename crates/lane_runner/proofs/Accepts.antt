-- Archive steps of a runner of an accepted plan, as the calls of its end tell them.
use Rattle.std.proofs.Common.{◌≡◌, ◌⊎◌, ℕ, suc, ◌+◌, ◌<◌, ◌≤◌, Bool, true, false, ◌&&◌, List, length, Option, Some, None, slice_get, get_or-set_same, refl, sym, ap, subst, ◌∙◌}
use Rattle.std.specs.Option.{is_some}
use Rattle.std.proofs.lemmas.Option.{slice_get_within}
use Rattle.archive_laws.specs.LaneMoves.{outputs_made}
use Rattle.chroot_state.specs.Held.{Held, IsHeld, room, with_slots}
use Rattle.deb_relation.specs.Relations.{Entry}
use Rattle.deb_relation.specs.declared.operator.Op.{Op}
use Rattle.farm_archive.specs.declared.publication.Publication.{Publication}
use Rattle.farm_model.specs.Common.{highest_below, slot, last_of, base, outputs, variant, variants, is_wanted, word_has, first_trap, unpack_traps, unpacked, Universe}
use Rattle.farm_model.specs.declared.types.Variant.{Variant}
use Rattle.farm_model.specs.declared.types.Slot.TheVariants.{Absent}
use Rattle.archive_laws.specs.Bounds.{IsInBounds}
use Rattle.archive_laws.specs.Records.{Record, next_output, after_load, after_draw, after_publish}
use Rattle.plan_reader.specs.declared.error.TheConstants.{MOST_INSTRUCTIONS}
use Rattle.plan_model.specs.Common.{lane, instruction_at, capacity, unpack_cost, LaneState, first_only}
use Rattle.plan_model.specs.declared.instructions.Instruction.{Instruction}
use Rattle.plan_model.specs.declared.instructions.Instruction.TheVariants.{Unpack, Publish, Wait, When}
use Rattle.plan_verifier.proofs.Promises.{annotation}
use Rattle.plan_verifier.specs.Accepted.{AcceptedPlan, IsAccepted, known_rows}
use Rattle.lane_runner.specs.Calls.{IsRunning, IsLastOutput, IsPicked, IsBranched}
use Rattle.lane_runner.specs.OnWay.{gone_to, passed, given_one, branch_place, CanPass}
use Rattle.lane_runner.specs.declared.runner.Runner.{Runner}
use Rattle.lane_runner.proofs.Unpacks.{some_newest, unpack_free, unpack_recorded, unpack_goes}
use Rattle.lane_runner.proofs.Whens.{when_goes, when_recorded}
use Rattle.lane_runner.proofs.Waits.{one_word, waits_on, passes_on}
use Rattle.lane_runner.proofs.Publishes.{given_lane, output_left, output_next, one_drawn, output_paid, publishes_on, is_last}

-- what an end tells of a load, of the runner's plan and lane
pub loaded : (a b : AcceptedPlan) (l m : ℕ) → b ≡ a → m ≡ l → (name found : ℕ) (r q : Record)
    → q ≡ after_load b.universe b.plan m name found r
    → q ≡ after_load a.universe a.plan l name found r
loaded a b l m e f name found r q h =
    subst (λ (x : AcceptedPlan × ℕ). q ≡ after_load x.0.universe x.0.plan x.1 name found r)
    (λ i. (e i, f i)) h

pub bounded : (a b : AcceptedPlan) (l m : ℕ) → b ≡ a → m ≡ l → (name found : ℕ) (r : Record)
    → IsInBounds b.universe b.plan (known_rows b) m r.at name found
    → IsInBounds a.universe a.plan (known_rows a) l r.at name found
bounded a b l m e f name found r h =
    subst (λ (x : AcceptedPlan × ℕ).
    IsInBounds x.0.universe x.0.plan (known_rows x.0) x.1 r.at name found) (λ i. (e i, f i)) h

module _ (a : AcceptedPlan) (accepted : IsAccepted a) (w : Runner) (c : Held) (b : AcceptedPlan)
    (l : ℕ) (r : Record) (run : IsRunning a w c b l r) where
  abbrev u : Universe
  u = a.universe

  -- a place with an instruction is one of the lane
  pub place_below : (x : Instruction) → instruction_at a.plan w.lane w.done ≡ Some x
      → w.done < length (lane a.plan w.lane).instructions
  place_below x here = slice_get_within (lane a.plan w.lane).instructions w.done x here

  module _ (name : ℕ) (wanted : Option (Op × List ℕ))
      (here : instruction_at a.plan w.lane w.done ≡ Some (Unpack name wanted)) (found : ℕ)
      (bounds : IsInBounds b.universe b.plan (known_rows b) l r.at name found) (o : Option ℕ)
      (picked : o ≡ highest_below (variants u name)
      (λ k. word_has found k && is_wanted u wanted (variant name k))) where
    within : IsInBounds u a.plan (known_rows a) w.lane r.at name found
    within = bounded a b w.lane l run.about_is run.lane_is name found r bounds

    pub takes_some : o ≡ None → ⊥
    takes_some none =
        some_newest u a.plan (known_rows a) accepted.sound (annotation a accepted) w c r run.on name
        wanted here found within o picked none

    module _ (k : ℕ) (some : o ≡ Some k) where
      pub can_take : length (lane a.plan w.lane).instructions ≤ MOST_INSTRUCTIONS
          → CanPass (lane a.plan w.lane) w (unpack_cost u (variant name k))
          (unpack_traps u (room u c) c.slots (variant name k))
      unfolding capacity
      can_take short =
          let free = unpack_free u a.plan (known_rows a) accepted.sound
          (annotation a accepted) w c r
          run.on name wanted here found within o picked k some in
          record {
            next = place_below (Unpack name wanted) here;
            short = short;
            free = ap (λ n. first_trap
                (unpack_traps u (base u n).capacity c.slots (variant name k)))
                run.on.base
                ∙ free.none;
            fits = free.fits;
          }

      pub takes : (v : Runner) (d : Held) (q : Record) (b' : AcceptedPlan) (l' : ℕ)
          → v ≡ passed (lane a.plan w.lane) w (unpack_cost u (variant name k))
          → d ≡ with_slots u c (unpacked c.slots (variant name k)) → IsHeld u d
          → q ≡ after_load b.universe b.plan l name found r → b' ≡ b → l' ≡ l
          → IsRunning a v d b' l' q
      takes v d q b' l' v_is d_is held q_is same_plan same_lane = record {
        about_is = same_plan ∙ run.about_is;
        lane_is = same_lane ∙ run.lane_is ∙ sym (ap (λ (x : Runner). x.lane) v_is);
        on = unpack_goes u a.plan (known_rows a) accepted.sound (annotation a accepted) w c r run.on
            name wanted here found within o picked k some v d q v_is
            (ap (λ (x : Held). x.slots) d_is) (ap (λ (x : Held). x.base) d_is) held
            (loaded a b w.lane l run.about_is run.lane_is name found r q q_is);
      }

      -- it is what the unpack has picked
      pub picks : (d : Held) (q : Record)
          → d ≡ with_slots u c (unpacked c.slots (variant name k))
          → q ≡ after_load b.universe b.plan l name found r
          → IsPicked a w.lane (suc w.done) d q (variant name k)
      picks d q d_is q_is = record {
        place = w.done;
        number_is = refl;
        wanted = wanted;
        here = here;
        word = found;
        loaded = record {
          before = r;
          after = loaded a b w.lane l run.about_is run.lane_is name found r q q_is;
          bounds = within;
        };
        highest = sym some ∙ picked;
        last = last_of (slot c.slots name);
        holds =
            ap (λ (x : Held). slot x.slots name) d_is
            ∙ get_or-set_same c.slots name _ Absent (subst (λ n. name < n)
            (sym run.on.held.slots.long)
            (accepted.sound.plan.instructions w.lane w.done _ run.on.in_plan here));
        recorded =
            unpack_recorded u a.plan (known_rows a) accepted.sound (annotation a accepted) w c r
            run.on name wanted here found within o picked k some d q
            (ap (λ (x : Held). x.slots) d_is)
            (loaded a b w.lane l run.about_is run.lane_is name found r q q_is);
      }

  -- a `when` of the runner: where its record stands
  pub branched : (name : ℕ) (wanted : Option (Op × List ℕ))
      → instruction_at a.plan w.lane w.done ≡ Some (When name wanted) → (found : ℕ)
      → IsInBounds b.universe b.plan (known_rows b) l r.at name found → (holds : Bool)
      → holds ≡ is_some (highest_below (variants u name)
      (λ k. word_has found k && is_wanted u wanted (variant name k)))
      → (q : Record) → q ≡ after_load b.universe b.plan l name found r
      → IsBranched a w.lane (suc w.done) q holds
  branched name wanted here found bounds holds is q q_is = record {
    place = w.done;
    number_is = refl;
    name = name;
    wanted = wanted;
    here = here;
    word = found;
    loaded = record {
      before = r;
      after = loaded a b w.lane l run.about_is run.lane_is name found r q q_is;
      bounds = bounded a b w.lane l run.about_is run.lane_is name found r bounds;
    };
    found = is;
    recorded =
        when_recorded u a.plan (known_rows a) accepted.sound (annotation a accepted) w c r run.on
        name wanted here found (bounded a b w.lane l run.about_is run.lane_is name found r bounds)
        holds is q (loaded a b w.lane l run.about_is run.lane_is name found r q q_is);
  }

  -- a `when` of the runner
  pub branches : (name : ℕ) (wanted : Option (Op × List ℕ))
      → instruction_at a.plan w.lane w.done ≡ Some (When name wanted) → (found : ℕ)
      → IsInBounds b.universe b.plan (known_rows b) l r.at name found → (holds : Bool)
      → holds ≡ is_some (highest_below (variants u name)
      (λ k. word_has found k && is_wanted u wanted (variant name k)))
      → (v : Runner) (q : Record) (b' : AcceptedPlan) (l' : ℕ)
      → v ≡ gone_to w (branch_place (lane a.plan w.lane) w.done holds)
      → q ≡ after_load b.universe b.plan l name found r → b' ≡ b → l' ≡ l
      → IsRunning a v c b' l' q
  branches name wanted here found bounds holds is v q b' l' v_is q_is same_plan same_lane = record {
    about_is = same_plan ∙ run.about_is;
    lane_is = same_lane ∙ run.lane_is ∙ sym (ap (λ (x : Runner). x.lane) v_is);
    on = when_goes u a.plan (known_rows a) accepted.sound (annotation a accepted) w c r run.on name
        wanted here found (bounded a b w.lane l run.about_is run.lane_is name found r bounds) holds
        is v q v_is (loaded a b w.lane l run.about_is run.lane_is name found r q q_is);
  }

  module _ (e : Entry) (here : instruction_at a.plan w.lane w.done ≡ Some (Wait e))
      (name found : ℕ) (q : Record) (b' : AcceptedPlan) (l' : ℕ)
      (q_is : q ≡ after_load b.universe b.plan l name found r) (same_plan : b' ≡ b)
      (same_lane : l' ≡ l) where
    q_told : q ≡ after_load a.universe a.plan w.lane name found r
    q_told = loaded a b w.lane l run.about_is run.lane_is name found r q q_is

    -- whether some variant of the name in its word satisfies the entry
    abbrev pub word_passes : Bool
    word_passes =
        one_word u a.plan (known_rows a) accepted.sound (annotation a accepted) w c r run.on e here
        name found

    pub waits : word_passes ≡ false → IsRunning a w c b' l' q
    waits fails = record {
      about_is = same_plan ∙ run.about_is;
      lane_is = same_lane ∙ run.lane_is;
      on = waits_on u a.plan (known_rows a) accepted.sound (annotation a accepted) w c r run.on e
          here
          name found q q_told fails;
    }

    pub passes : (v : Runner) → v ≡ passed (lane a.plan w.lane) w 0
        → IsInBounds b.universe b.plan (known_rows b) l r.at name found → word_passes ≡ true
        → IsRunning a v c b' l' q
    passes v v_is bounds found_one =
        subst (λ x. IsRunning a x c b' l' q) (sym v_is) (record {
          about_is = same_plan ∙ run.about_is;
          lane_is = same_lane ∙ run.lane_is;
          on = passes_on u a.plan (known_rows a) accepted.sound (annotation a accepted) w c r run.on
              e
              here name found (bounded a b w.lane l run.about_is run.lane_is name found r bounds)
              found_one
              q q_told;
        })

  module _ (recipe : ℕ) (here : instruction_at a.plan w.lane w.done ≡ Some (Publish recipe)) where
    -- an output comes next, also once its serial is drawn
    pub some_output : (b' : AcceptedPlan) (l' : ℕ) (q : Record) → b' ≡ b → l' ≡ l → q.at ≡ r.at
        → (v : Variant) × (next_output b'.universe b'.plan l' q.at ≡ Some v)
    some_output b' l' q same_plan same_lane at =
        subst (λ (x : AcceptedPlan × ℕ × LaneState).
        (v : Variant) × (next_output x.0.universe x.0.plan x.1 x.2 ≡ Some v))
        (λ i. (sym (same_plan ∙ run.about_is) i, sym (same_lane ∙ run.lane_is) i, sym at i))
        (output_next u a.plan (known_rows a) accepted.sound (annotation a accepted) w c r run.on
        recipe
        here)

    pub all_used : length r.serials ≡ outputs_made b.universe (lane b.plan l) r.at
    all_used =
        subst (λ (x : AcceptedPlan × ℕ).
        length r.serials ≡ outputs_made x.0.universe (lane x.0.plan x.1) r.at)
        (λ i. (sym run.about_is i, sym run.lane_is i)) run.on.drawn

    module _ (serial : ℕ) (q : Record) (drawn : q ≡ after_draw serial r) (b' : AcceptedPlan)
        (l' : ℕ) (same_plan : b' ≡ b) (same_lane : l' ≡ l) where
      pub one_unused : (length q.serials ≡ suc (outputs_made b'.universe (lane b'.plan l') q.at))
          × (slice_get q.serials (outputs_made b'.universe (lane b'.plan l') q.at) ≡ Some serial)
      one_unused =
          subst (λ (x : AcceptedPlan × ℕ).
          (length q.serials ≡ suc (outputs_made x.0.universe (lane x.0.plan x.1) q.at))
          × (slice_get q.serials (outputs_made x.0.universe (lane x.0.plan x.1) q.at)
          ≡ Some serial))
          (λ i. (sym (same_plan ∙ run.about_is) i, sym (same_lane ∙ run.lane_is) i))
          (one_drawn u a.plan (known_rows a) accepted.sound (annotation a accepted) w c r run.on
          recipe
          here serial q drawn)

      pub publishes : (q' : Record) (b'' : AcceptedPlan) (l'' : ℕ)
          → q' ≡ after_publish b'.universe b'.plan l' q → b'' ≡ b' → l'' ≡ l' → (v : Runner)
          → v ≡ given_one (lane a.plan w.lane) (length (outputs u recipe)) w
          (first_only w.made (length (outputs u recipe))) → IsRunning a v c b'' l'' q'
      publishes q' b'' l'' q_is next_plan next_lane v v_is =
          let plan_is = same_plan ∙ run.about_is in
          let lane_is = same_lane ∙ run.lane_is in
          let told : q' ≡ after_publish a.universe a.plan w.lane q =
          subst (λ (x : AcceptedPlan × ℕ). q' ≡ after_publish x.0.universe x.0.plan x.1 q)
          (λ i. (plan_is i, lane_is i)) q_is in
          record {
            about_is = next_plan ∙ plan_is;
            lane_is = next_lane ∙ lane_is
                ∙ sym (given_lane (lane a.plan w.lane) (length (outputs u recipe)) w _ v v_is);
            on = publishes_on u a.plan (known_rows a) accepted.sound (annotation a accepted) w c r
                run.on recipe here serial q q' drawn told v v_is;
          }

      -- what was published is the lane's last output
      pub last : (q' : Record) (l'' : ℕ) → q' ≡ after_publish b'.universe b'.plan l' q → l'' ≡ l'
          → (h : Publication) → h.lane ≡ w.lane → h.serial ≡ serial
          → slice_get (outputs u recipe) w.made ≡ Some h.variant → IsLastOutput u a.plan l'' q' h
      last q' l'' q_is next_lane h lane_here serial_is variant_is =
          let plan_is = same_plan ∙ run.about_is in
          let lane_is = same_lane ∙ run.lane_is in
          let told : q' ≡ after_publish a.universe a.plan w.lane q =
          subst (λ (x : AcceptedPlan × ℕ). q' ≡ after_publish x.0.universe x.0.plan x.1 q)
          (λ i. (plan_is i, lane_is i)) q_is in
          subst (λ (m : ℕ). IsLastOutput u a.plan m q' h) (sym (next_lane ∙ lane_is))
          (is_last u a.plan (known_rows a) accepted.sound
          (annotation a accepted) w c r run.on recipe
          here serial q q' drawn told h lane_here serial_is variant_is)

    -- what the output costs is within the budget, or nothing
    pub can_give : (w.spent + first_only w.made (length (outputs u recipe))
        ≤ (lane a.plan w.lane).budget) ⊎ (first_only w.made (length (outputs u recipe)) ≡ 0)
    can_give =
        output_paid u a.plan (known_rows a) accepted.sound (annotation a accepted) w c r run.on
        recipe
        here

    pub more_left : w.made < length (outputs u recipe)
    more_left =
        output_left u a.plan (known_rows a) accepted.sound (annotation a accepted) w c r run.on
        recipe
        here
