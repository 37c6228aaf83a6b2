-- Lanes after steps and turns: where they stand, and what they have asked.
use Rattle.std.proofs.Common.{◌≡◌, ◌≢◌, ◌⊎◌, inl, inr, ◌<◌, ◌+◌, ◌-◌, ℕ, suc, min, Bool, true, false, Option, Some, None, refl, sym, ap, subst, ◌∙◌, arith}
use Rattle.std.specs.Prelude.{◌^◌, not}
use Rattle.archive_laws.specs.Records.{Record}
use Rattle.atomic_table.specs.Seated.{TableId}
use Rattle.chroot_state.specs.Held.{Held}
use Rattle.farm_model.specs.declared.types.Variant.{Variant}
use Rattle.lane_runner.specs.Calls.{IsPicked, IsRunning, IsSameEnd}
use Rattle.lane_runner.specs.declared.runner.Runner.{Runner}
use Rattle.lane_runner.specs.declared.turn.Turn.{Turn}
use Rattle.lane_runner.specs.declared.turn.Turn.TheVariants as turn
use Rattle.plan_verifier.specs.Accepted.{AcceptedPlan}
use Rattle.drive_run.specs.Asking.{IsAtMostAsked, IsSilent, IsStaged, Outgoing, wanted_by}
use Rattle.drive_run.specs.LaneDesks.{Desks}
use Rattle.drive_run.specs.LaneStages.{LaneStages, IsAtTurn, OthersStay, StaysAtPick, stage_at, stage_of}
use Rattle.drive_run.specs.Questions.{Standing, Wanted}
use Rattle.drive_run.specs.declared.known.Known.{Known}
use Rattle.drive_run.specs.declared.stage.Stage.{Stage}
use Rattle.drive_run.specs.declared.stage.Stage.TheVariants.{Due, Unpacked}
use Rattle.drive_run.proofs.StageLaws.{due_no_pick, seen_pick}

-- a lane keeps its number
pub same_lane : (home : TableId) (a : AcceptedPlan) (l : ℕ) (home' : TableId) (a' : AcceptedPlan)
    (l' : ℕ) (of of' : AcceptedPlan) (w w' : Runner) (c c' : Held) (r r' : Record)
    → IsSameEnd home a l home' a' l' → IsRunning of w c a l r → IsRunning of' w' c' a' l' r'
    → w'.lane ≡ w.lane
same_lane home a l home' a' l' of of' w w' c c' r r' same before after =
    sym after.lane_is ∙ (same.lane_is ∙ before.lane_is)

pub others_on : (l l' : ℕ) (a b c : LaneStages) → l' ≡ l → OthersStay l a b → OthersStay l' b c
    → OthersStay l a c
others_on l l' a b c same p q k other = q k (λ e. other (e ∙ same)) ∙ p k other

-- nothing is asked
pub silent_asked : (k : Known) (q : Option Wanted) (d d' : Desks) (old new : Outgoing)
    → IsSilent old new → IsAtMostAsked k q d d' old new
silent_asked k None d d' old new silent = silent
silent_asked k (Some q) d d' old new silent = inl silent

-- it has picked what its stage tells, after a turn from where it was due
pub staged_turn : (a : AcceptedPlan) (l l' number done done' : ℕ) (c : Held) (r : Record)
    (did : Option Turn) (s s' : LaneStages) → stage_of s l ≡ Due → l' ≡ l
    → number ≡ min (done + 1) (2 ^ 32 - 1) → done' < 2 ^ 32
    → ((v : Variant) → did ≡ Some (turn.Unpacked v)
    → (done < done') × IsPicked a l (suc done) c r v)
    → IsAtTurn l number did s s' → IsStaged a l' c r (stage_at s' l')
staged_turn a l l' number done done' c r did s s' due same number_is short picked is n v at =
    elim (is.own n v (ap (stage_at s') (sym same) ∙ at)) [
      | inl was ↦ absurd (due_no_pick s.rings n v (stage_at s l) due was)
      | inr did_so ↦
          let p = picked v did_so.1 in
          let next : suc done ≡ n = omega (arith, did_so.0, number_is, short, p.0) in
          subst (λ m. IsPicked a m n c r v) (sym same)
          (subst (λ m. IsPicked a l m c r v) next p.1)
    ]

-- what its stage tells stays so while the lane stays
pub staged_stay : (a : AcceptedPlan) (l : ℕ) (c : Held) (r : Record) (s s' : LaneStages)
    → StaysAtPick l s s' → IsStaged a l c r (stage_at s l) → IsStaged a l c r (stage_at s' l)
staged_stay a l c r s s' stays staged n v at = staged n v (stays.own n v at)

-- and is seen so
pub staged_seen : (a : AcceptedPlan) (l : ℕ) (c : Held) (r : Record) (s : LaneStages)
    → IsStaged a l c r (stage_at s l) → IsStaged a l c r (stage_of s l)
staged_seen a l c r s staged n v at = staged n v (seen_pick s.rings n v (stage_at s l) at)

-- what is asked where the lane stands
pub asked_there : (k : Known) (p p' : Standing) (st st' : Stage) (d d' : Desks)
    (old new : Outgoing) → p ≡ p' → st ≡ st' → IsAtMostAsked k (wanted_by p st) d d' old new
    → IsAtMostAsked k (wanted_by p' st') d d' old new
asked_there k p p' st st' d d' old new same same' is =
    subst (λ (q : Standing). IsAtMostAsked k (wanted_by q st') d d' old new) same
    (subst (λ (x : Stage). IsAtMostAsked k (wanted_by p x) d d' old new) same' is)

-- a lane that waits for a reply has asked
pub not_idle : (has idle : Bool) → has ≡ not idle → has ≡ false → idle ≡ false → ⊥
not_idle has true is none busy = cc
not_idle has false is none busy = cc
