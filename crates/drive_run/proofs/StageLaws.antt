-- Stages after calls.
use Rattle.std.proofs.Common.{◌≡◌, ◌≢◌, ◌⊎◌, inl, inr, ℕ, zero, suc, Bool, true, false, List, [], ◌∷◌, Option, Some, slice_set, slice_index_or, get_or-set_other, refl, sym, ap, subst, ◌∙◌}
use Rattle.std.specs.Prelude.{◌==◌, map, if◌then◌else◌}
use Rattle.farm_model.specs.declared.types.Variant.{Variant}
use Rattle.lane_runner.specs.declared.turn.Turn.{Turn}
use Rattle.lane_runner.specs.declared.turn.Turn.TheVariants as turn
use Rattle.drive_run.specs.LaneStages.{LaneStages, stage_at, seen, stage_of, with_stage, passed, all_closed, StaysAtPick, IsAtTurn}
use Rattle.drive_run.specs.Replies.{IsHeeded}
use Rattle.drive_run.specs.declared.office.Reply.{Reply}
use Rattle.drive_run.specs.declared.office.Reply.TheVariants as reply
use Rattle.drive_run.specs.declared.stage.Stage.{Stage}
use Rattle.drive_run.specs.declared.stage.Stage.TheVariants.{Closed, Ahead, Due, Unpacked, Waiting, Ended}

-- ---- one stage

-- it follows an unpack
abbrev pub is_pick : Stage → Bool
is_pick (Unpacked n v) = true
is_pick st = false

no_pick : (st : Stage) (n : ℕ) (v : Variant) → is_pick st ≡ false → st ≢ Unpacked n v
no_pick Closed n v none is = absurd (cc)
no_pick Ahead n v none is = absurd (cc)
no_pick Due n v none is = absurd (cc)
no_pick (Unpacked m w) n v none is = absurd (cc)
no_pick (Waiting at) n v none is = absurd (cc)
no_pick Ended n v none is = absurd (cc)

passed_none : (st : Stage) → is_pick (passed st) ≡ false
passed_none Closed = refl
passed_none Ahead = refl
passed_none Due = refl
passed_none (Unpacked n v) = refl
passed_none (Waiting at) = refl
passed_none Ended = refl

-- ---- the stages of all lanes

own_set : (lanes : List Stage) (l : ℕ) (st : Stage)
    → (slice_index_or (slice_set lanes l st) l Ended ≡ st)
    ⊎ (slice_index_or (slice_set lanes l st) l Ended ≡ Ended)
own_set [] l st = inr refl
own_set (x ∷ lanes) zero st = inl refl
own_set (x ∷ lanes) (suc l) st = own_set lanes l st

others_stay : (l : ℕ) (s s' : LaneStages) (st : Stage) → s' ≡ with_stage s l st
    → (k : ℕ) → k ≢ l → stage_at s' k ≡ stage_at s k
others_stay l s s' st e k other =
    ap (λ (x : LaneStages). stage_at x k) e ∙ get_or-set_other s.lanes l k st Ended other

own_is : (l : ℕ) (s s' : LaneStages) (st : Stage) → s' ≡ with_stage s l st
    → (stage_at s' l ≡ st) ⊎ (stage_at s' l ≡ Ended)
own_is l s s' st e =
    let same : stage_at s' l ≡ stage_at (with_stage s l st) l =
    ap (λ (x : LaneStages). stage_at x l) e in
    elim (own_set s.lanes l st) [ inl is ↦ inl (same ∙ is) | inr is ↦ inr (same ∙ is) ]

moved_stays : (l : ℕ) (s s' : LaneStages) (st : Stage) → s' ≡ with_stage s l st
    → is_pick st ≡ false → StaysAtPick l s s'
moved_stays l s s' st e none = record {
  others = others_stay l s s' st e;
  own = λ n v at. elim (own_is l s s' st e) [
    | inl is ↦ absurd (no_pick st n v none (sym is ∙ at))
    | inr is ↦ absurd (no_pick Ended n v refl (sym is ∙ at))
  ];
}

pub ended_stays : (l : ℕ) (s s' : LaneStages) → s' ≡ with_stage s l Ended → StaysAtPick l s s'
ended_stays l s s' e = moved_stays l s s' Ended e refl

pub due_stays : (l : ℕ) (s s' : LaneStages) → s' ≡ with_stage s l Due → StaysAtPick l s s'
due_stays l s s' e = moved_stays l s s' Due e refl

pub ahead_stays : (l : ℕ) (s s' : LaneStages) → s' ≡ with_stage s l Ahead → StaysAtPick l s s'
ahead_stays l s s' e = moved_stays l s s' Ahead e refl

pub waiting_stays : (l at : ℕ) (s s' : LaneStages) → s' ≡ with_stage s l (Waiting at)
    → StaysAtPick l s s'
waiting_stays l at s s' e = moved_stays l s s' (Waiting at) e refl

pub passed_stays : (l k : ℕ) (s s' : LaneStages) → k ≡ l
    → s' ≡ with_stage s k (passed (stage_of s k)) → StaysAtPick l s s'
passed_stays l k s s' same e =
    subst (λ m. StaysAtPick m s s') same
    (moved_stays k s s' (passed (stage_of s k)) e (passed_none (stage_of s k)))

pub same_stays : (l : ℕ) (s s' : LaneStages) → s' ≡ s → StaysAtPick l s s'
same_stays l s s' e = record {
  others = λ k other. ap (λ (x : LaneStages). stage_at x k) e;
  own = λ n v at. ap (λ (x : LaneStages). stage_at x l) (sym e) ∙ at;
}

-- the bell has rung
pub rung_stays : (l : ℕ) (s s' : LaneStages) → s'.lanes ≡ s.lanes → StaysAtPick l s s'
rung_stays l s s' e = record {
  others = λ k other. ap (λ lanes. slice_index_or lanes k Ended) e;
  own = λ n v at. ap (λ lanes. slice_index_or lanes l Ended) (sym e) ∙ at;
}

pub stays_on : (l : ℕ) (a b c : LaneStages) → StaysAtPick l a b → StaysAtPick l b c
    → StaysAtPick l a c
stays_on l a b c p q = record {
  others = λ k other. q.others k other ∙ p.others k other;
  own = λ n v at. p.own n v (q.own n v at);
}

-- ---- replies and turns

lost_stays : (lost : Bool) (l : ℕ) (s s' : LaneStages)
    → s' ≡ with_stage s l (if lost then Ended else passed (stage_of s l)) → StaysAtPick l s s'
lost_stays true l s s' e = ended_stays l s s' e
lost_stays false l s s' e = passed_stays l l s s' refl e

pub heeded_stays : (r : Reply) (lost goes_on : Bool) (l : ℕ) (s s' : LaneStages)
    → IsHeeded r lost goes_on l s s' → StaysAtPick l s s'
heeded_stays (reply.Done answered) lost goes_on l s s' is = lost_stays lost l s s' is.1
heeded_stays (reply.Failed n) lost goes_on l s s' is = ended_stays l s s' is.1
heeded_stays reply.None lost goes_on l s s' is = ended_stays l s s' is.1
heeded_stays reply.Open lost goes_on l s s' is = same_stays l s s' is.1

pub turn_stays : (l number : ℕ) (did : Option Turn) (s s' : LaneStages) → StaysAtPick l s s'
    → IsAtTurn l number did s s'
turn_stays l number did s s' is = record {
  others = is.others;
  own = λ n v at. inl (is.own n v at);
}

pub turn_picks : (l number : ℕ) (v : Variant) (did : Option Turn) (s s' : LaneStages)
    → did ≡ Some (turn.Unpacked v) → s' ≡ with_stage s l (Unpacked number v)
    → IsAtTurn l number did s s'
turn_picks l number v did s s' picked e = record {
  others = others_stay l s s' (Unpacked number v) e;
  own = λ n w at. elim (own_is l s s' (Unpacked number v) e) [
    | inl is ↦
        let same : Unpacked number v ≡ Unpacked n w = sym is ∙ at in
        let number_is : n ≡ number = cc in
        let variant_is : v ≡ w = cc in
        inr (number_is, picked ∙ ap (λ x. Some (turn.Unpacked x)) variant_is)
    | inr is ↦ absurd (no_pick Ended n w refl (sym is ∙ at))
  ];
}

-- ---- at the beginning

none_closed : (lanes : List Stage) (l n : ℕ) (v : Variant)
    → slice_index_or (map (λ (stage : Stage). Closed) lanes) l Ended ≢ Unpacked n v
none_closed [] l n v at = no_pick Ended n v refl at
none_closed (x ∷ lanes) zero n v at = no_pick Closed n v refl at
none_closed (x ∷ lanes) (suc l) n v at = none_closed lanes l n v at

pub closed_no_pick : (s s' : LaneStages) → s' ≡ all_closed s → (l n : ℕ) (v : Variant)
    → stage_at s' l ≢ Unpacked n v
closed_no_pick s s' e l n v at =
    none_closed s.lanes l n v (sym (ap (λ (x : LaneStages). stage_at x l) e) ∙ at)

-- a lane that is due follows no unpack
pub due_no_pick : (rings n : ℕ) (v : Variant) (st : Stage) → seen rings st ≡ Due
    → st ≢ Unpacked n v
due_no_pick rings n v st due at =
    let is : Unpacked n v ≡ Due = ap (seen rings) (sym at) ∙ due in absurd (cc)

not_waiting : (same : Bool) (at n : ℕ) (v : Variant)
    → (if same then Waiting at else Due) ≢ Unpacked n v
not_waiting true at n v is = absurd (cc)
not_waiting false at n v is = absurd (cc)

pub seen_pick : (rings n : ℕ) (v : Variant) (st : Stage) → seen rings st ≡ Unpacked n v
    → st ≡ Unpacked n v
seen_pick rings n v Closed is = is
seen_pick rings n v Ahead is = is
seen_pick rings n v Due is = is
seen_pick rings n v (Unpacked m w) is = is
seen_pick rings n v (Waiting at) is = absurd (not_waiting (at == rings) at n v is)
seen_pick rings n v Ended is = is

pub ruleset stages_stay = (ended_stays, due_stays, ahead_stays, waiting_stays, passed_stays, same_stays, rung_stays, stays_on, turn_stays, turn_picks)
