-- A lane's way to its next archive step.
use Rattle.std.proofs.Common.{◌≡◌, true, false, true≢false, List, [], ◌∷◌, drop, Some, refl, sym, ap, ◌∙◌}
use Rattle.farm_model.specs.Universe.{Universe}
use Rattle.plan_model.specs.Common.{Lane, next_place, LaneState, Turn, Goes, Ends, turn_of, nothing, goes_on, settled, ready, is_archive_step}
use Rattle.plan_model.specs.declared.instructions.Instruction.{Instruction}
use Rattle.plan_model.specs.declared.instructions.Instruction.TheVariants.{Unpack, Configure, Deconfigure, Remove, Build, Publish, Wait, When, Otherwise, EndWhen}
use Rattle.archive_laws.proofs.Skips.{ready_behind}
use Rattle.archive_laws.specs.Laws.{LocalStepsLeadOn}

module _ (u : Universe) (of : Lane) where
  -- at an archive step, and at its end, a lane is where it goes
  pub ready_there : (st : LaneState) (x : Instruction) (rest : List Instruction)
      → drop st.done of.instructions ≡ x ∷ rest → is_archive_step x ≡ true → ready u of st ≡ st
  ready_there st x rest at is = ap (λ xs. settled u of false xs st) at ∙ stays x is
    where
      stays : (x : Instruction) → is_archive_step x ≡ true → settled u of false (x ∷ rest) st ≡ st
      stays (Unpack name wanted) is = refl
      stays (Publish r) is = refl
      stays (Wait e) is = refl
      stays (When name wanted) is = refl
      stays _ is = absurd (true≢false (sym is))

  pub ready_end : (st : LaneState) → drop st.done of.instructions ≡ [] → ready u of st ≡ st
  ready_end st at = ap (λ xs. settled u of false xs st) at

  goes : (st next : LaneState) (rest : List Instruction) (turn : Turn) → turn ≡ Goes next
      → goes_on st turn (λ n. settled u of false rest n) ≡ settled u of false rest next
  goes st next rest turn e = ap (λ t. goes_on st t (λ n. settled u of false rest n)) e

  -- a local instruction that goes on leaves a lane on its way
  pub ready_next : (st next : LaneState) (x : Instruction) (rest : List Instruction)
      → drop st.done of.instructions ≡ x ∷ rest → is_archive_step x ≡ false
      → turn_of u nothing of st (Some x) ≡ Goes next → next.done ≡ next_place of st.done
      → ready u of next ≡ ready u of st
  ready_next st next x rest at is e done =
      ready_behind u of st.done next x rest at done
      ∙ sym (ap (λ xs. settled u of false xs st) at ∙ go x is e)
    where
      ends : Ends ≡ Goes next → ⊥
      ends e = cc

      go : (x : Instruction) → is_archive_step x ≡ false → turn_of u nothing of st (Some x)
          ≡ Goes next
          → settled u of false (x ∷ rest) st ≡ settled u of false rest next
      go (Configure members) is e = goes st next rest _ e
      go (Deconfigure members) is e = goes st next rest _ e
      go (Remove members) is e = goes st next rest _ e
      go (Build r) is e = goes st next rest _ e
      go Otherwise is e = absurd (ends e)
      go EndWhen is e = absurd (ends e)
      go _ is e = absurd (true≢false is)

-- local instructions lead on
pub local_steps_lead_on : LocalStepsLeadOn
local_steps_lead_on u of st =
    record {
      end = ready_end u of st;
      there = λ x rest at is. ready_there u of st x rest at is;
      next = λ x rest after at is e done. ready_next u of st after x rest at is e done;
    }
