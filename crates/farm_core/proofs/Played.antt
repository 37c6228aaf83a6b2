-- A schedule, event by event.
use Rattle.std.proofs.Common.{◌≡◌, ℕ, suc, ◌+◌, ◌<◌, List, length, drop, Some, refl, sym, ap, ◌∙◌, get_or, add-one}
use Rattle.std.proofs.lemmas.List.{drop_more}
use Rattle.farm_model.specs.declared.types.Trap.{Trap}
use Rattle.plan_model.specs.Run as run
use Rattle.plan_model.specs.Run.{State, Ending, lane_state, step, play_on, play}
use Rattle.farm_core.specs.Endings.{ended}
use Rattle.farm_core.specs.Farm.{Farm, with_state, step_told, state_after}
use Rattle.farm_core.specs.declared.answer.Step.{Step}
use Rattle.farm_core.specs.declared.answer.Step.TheVariants.{Trapped}

-- an event that meets no trap
goes_on : (k : ℕ) (s : State) (l : ℕ) (o : run.Outcome) (rest : State → Ending)
    → ((t : Trap) → step_told o ≡ Trapped t → ⊥) → play_on k s l o rest ≡ rest (state_after s o)
goes_on k s l (run.Moved m) rest free = refl
goes_on k s l run.Blocked rest free = refl
goes_on k s l run.Finished rest free = refl
goes_on k s l run.Unknown rest free = refl
goes_on k s l (run.Trapped t) rest free = absurd (free t refl)

-- the place of a trap, and the state that it leaves
abbrev stopped : ℕ → State → ℕ → Trap → Ending
stopped k s l t = record {
  state = s;
  stop = Some (record { step = k; lane = l; instruction = suc (lane_state s l).done; trap = t });
}

-- an event that meets a trap
stops : (k : ℕ) (s : State) (l : ℕ) (o : run.Outcome) (rest : State → Ending) (t : Trap)
    → step_told o ≡ Trapped t → play_on k s l o rest ≡ stopped k (state_after s o) l t
stops k s l (run.Moved m) rest t e = cc
stops k s l run.Blocked rest t e = cc
stops k s l run.Finished rest t e = cc
stops k s l run.Unknown rest t e = cc
stops k s l (run.Trapped x) rest t e = let same : x ≡ t = cc in ap (stopped k s l) same

-- the farm after so many events, and what is left of the schedule
pub record PlayedTo (start : Farm) (schedule : List ℕ) (i : ℕ) (f : Farm) : Type 0 where
  pub same : f ≡ with_state start f.state
  pub rest : play start.universe start.plan.lanes (i + 1) f.state (drop i schedule)
      ≡ play start.universe start.plan.lanes 1 start.state schedule

-- one event more
module _ (start : Farm) (schedule : List ℕ) (i : ℕ) (f next : Farm) (answer : Step)
    (there : i < length schedule) (so_far : PlayedTo start schedule i f) where
  abbrev this : ℕ
  this = get_or schedule i 0

  abbrev comes_to : run.Outcome
  comes_to = step start.universe start.plan.lanes f.state (get_or schedule i 0)

  module _ (is_told : answer ≡ step_told (step f.universe f.plan.lanes f.state
      (get_or schedule i 0)))
      (is_after : next ≡ with_state f
      (state_after f.state (step f.universe f.plan.lanes f.state (get_or schedule i 0)))) where
    told_here : answer ≡ step_told comes_to
    told_here = is_told
        ∙ ap (λ (g : Farm). step_told (step g.universe g.plan.lanes f.state (get_or schedule i 0)))
        so_far.same

    next_is : next ≡ with_state start (state_after f.state comes_to)
    next_is = is_after
        ∙ ap (λ (g : Farm). with_state g
        (state_after f.state (step g.universe g.plan.lanes f.state (get_or schedule i 0))))
        so_far.same

    state_is : next.state ≡ state_after f.state comes_to
    state_is = ap (λ (g : Farm). g.state) next_is

    pub kept : next ≡ with_state start next.state
    kept = next_is ∙ ap (with_state start) (sym state_is)

    -- the schedule from this event on
    from_here : play_on (i + 1) f.state (get_or schedule i 0) comes_to
        (λ m. play start.universe start.plan.lanes (suc (i + 1)) m (drop (i + 1) schedule))
        ≡ play start.universe start.plan.lanes 1 start.state schedule
    from_here =
        ap (play start.universe start.plan.lanes (i + 1) f.state)
        (sym (drop_more schedule i 0 there))
        ∙ so_far.rest

    pub played-more : ((t : Trap) → answer ≡ Trapped t → ⊥) → PlayedTo start schedule (i + 1) next
    played-more free = record {
      same = kept;
      rest =
          ap (λ k. play start.universe start.plan.lanes k next.state (drop (i + 1) schedule))
          (add-one (i + 1))
          ∙ (ap (λ s. play start.universe start.plan.lanes (suc (i + 1)) s (drop (i + 1) schedule))
          state_is
          ∙ (sym (goes_on (i + 1) f.state (get_or schedule i 0) comes_to _
          (λ t e. free t (told_here ∙ e)))
          ∙ from_here));
    }

    pub played-stopped : (t : Trap) → answer ≡ Trapped t → (n : ℕ)
        → n ≡ (lane_state next.state (get_or schedule i 0)).done
        → ended next.state (Some (record {
          step = i + 1;
          lane = get_or schedule i 0;
          instruction = n + 1;
          trap = t;
        })) ≡ play start.universe start.plan.lanes 1 start.state schedule
    played-stopped t is n done =
        let l : ℕ = get_or schedule i 0 in
        let number : n + 1 ≡ suc (lane_state next.state l).done = add-one n ∙ ap suc done in
        ap (λ k. ended next.state
        (Some (record { step = i + 1; lane = l; instruction = k; trap = t }))) number
        ∙ (ap (λ s. stopped (i + 1) s l t) state_is
        ∙ (sym (stops (i + 1) f.state l comes_to _ t (sym told_here ∙ is)) ∙ from_here))
