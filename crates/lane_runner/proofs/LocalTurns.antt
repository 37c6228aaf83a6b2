-- A lane on its way over local instructions comes to the archive step that comes next.
use Rattle.std.proofs.Common.{◌≡◌, ℕ, zero, suc, Bool, true, false, true≢false, inl, inr, List, ◌∷◌, drop, Option, Some, None, slice_get, cond, refl, sym, ap, ◌∙◌}
use Rattle.std.proofs.lemmas.Bool.{cases_Bool, cond-true, cond-false}
use Rattle.chroot_state.specs.Held.{Held}
use Rattle.farm_laws.proofs.Branches.{drop_some}
use Rattle.farm_model.specs.Universe.{Universe}
use Rattle.farm_model.specs.declared.types.Trap.{Trap}
use Rattle.archive_laws.specs.Records.{Record, ready_in}
use Rattle.archive_laws.proofs.Ways.{ready_next}
use Rattle.plan_model.specs.Common.{Rows, Lane, Plan, lane, next_place, LaneState, Turn, Goes, Gives, Waits, Ends, Fails, unless, turn_of, nothing, goes_on, ready, is_archive_step}
use Rattle.plan_model.specs.declared.instructions.Instruction.{Instruction}
use Rattle.plan_model.specs.declared.instructions.Instruction.TheVariants.{Unpack, Configure, Deconfigure, Remove, Build, Publish, Wait, When, Otherwise, EndWhen}
use Rattle.lane_runner.specs.OnWay.{state_of, local_turn, local_turns, IsOnWay}
use Rattle.lane_runner.specs.declared.runner.Runner.{Runner}

-- a turn that goes on comes to this place
abbrev GoesTo : ℕ → Turn → Type 0
GoesTo k (Goes next) = next.done ≡ k
GoesTo k _ = Unit {0}

goes_unless : (k : ℕ) (o : Option Trap) (next : LaneState) → next.done ≡ k
    → GoesTo k (unless o (Goes next))
goes_unless k None next e = e
goes_unless k (Some t) next e = tt

module _ (u : Universe) (of : Lane) where
  -- where a local instruction goes on, the lane comes behind it
  goes_behind : (st : LaneState) (x : Instruction) → is_archive_step x ≡ false
      → GoesTo (next_place of st.done) (turn_of u nothing of st (Some x))
  goes_behind st (Configure members) is = goes_unless _ _ _ refl
  goes_behind st (Deconfigure members) is = goes_unless _ _ _ refl
  goes_behind st (Remove members) is = goes_unless _ _ _ refl
  goes_behind st (Build r) is = goes_unless _ _ _ refl
  goes_behind st Otherwise is = tt
  goes_behind st EndWhen is = tt
  goes_behind st _ is = absurd (true≢false is)

  pub local_goes : (st next : LaneState) (x : Instruction)
      → slice_get of.instructions st.done ≡ Some x → is_archive_step x ≡ false
      → turn_of u nothing of st (Some x) ≡ Goes next
      → local_turn u of st (slice_get of.instructions st.done) ≡ next
  local_goes st next x here is e =
      ap (local_turn u of st) here
      ∙ (cond-false (is_archive_step x) st _ is ∙ ap (λ t. goes_on st t (λ n. n)) e)

  -- one turn leaves the next archive step as it was,
  one_turn : (st : LaneState) (o : Option Instruction) → slice_get of.instructions st.done ≡ o
      → ready u of (local_turn u of st o) ≡ ready u of st
  one_turn st None here = refl
  one_turn st (Some x) here = elim (cases_Bool (is_archive_step x)) [
    | inl is ↦ ap (ready u of) (cond-true (is_archive_step x) st _ is)
    | inr is ↦ ap (ready u of) (cond-false (is_archive_step x) st _ is)
        ∙ by is (turn_of u nothing of st (Some x)) refl (goes_behind st x is)
  ]
    where
      by : is_archive_step x ≡ false → (t : Turn) → turn_of u nothing of st (Some x) ≡ t
          → GoesTo (next_place of st.done) t
          → ready u of (goes_on st t (λ n. n)) ≡ ready u of st
      by is (Goes next) e place =
          ready_next u of st next x (drop (suc st.done) of.instructions)
          (drop_some of.instructions st.done x here) is e place
      by is (Gives next v) e place = refl
      by is Waits e place = refl
      by is Ends e place = refl
      by is (Fails t) e place = refl

  -- and so do many
  pub all_turns : (n : ℕ) (st : LaneState) → ready u of (local_turns u of n st) ≡ ready u of st
  all_turns zero st = refl
  all_turns (suc n) st =
      let here = local_turns u of n st in
      one_turn here (slice_get of.instructions here.done) refl ∙ all_turns n st

-- from where the runner stands the same archive step comes next as from where the record stands
pub on_way : (u : Universe) (p : Plan) (rows : Rows) (w : Runner) (c : Held) (r : Record)
    (on : IsOnWay u p rows w c r)
    → ready_in u p w.lane (state_of w c on.built) ≡ ready_in u p w.lane r.at
on_way u p rows w c r on =
    ap (ready_in u p w.lane) on.came ∙ all_turns u (lane p w.lane) on.turns r.at
