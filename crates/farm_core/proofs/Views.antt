-- What a farm at work shows of its lanes.
use Rattle.std.proofs.Common.{◌≡◌, ℕ, ◌<◌, ◌≤◌, Bool, true, false, inl, inr, List, length, Some, slice_get, sym, ap, ◌∙◌, subst, arith, get_or}
use Rattle.std.specs.Prelude.{nat_lt, nat_le, slice_index}
use Rattle.std.proofs.lemmas.Bool.{cond-false, le-ltb, lt-leb, cases_Bool, both_ways}
use Rattle.farm_model.specs.Common.{every_below, Universe, variant, word_has, has_bit, used}
use Rattle.farm_model.proofs.BelowLaws.{every_below-at}
use Rattle.plan_reader.specs.CountedPlan.{CountedPlan}
use Rattle.plan_model.specs.Common.{Lane, Plan, lane, State, archive, lane_state, step, is_finished}
use Rattle.plan_model.specs.Run as run
use Rattle.farm_archive.specs.Kept.{Kept}
use Rattle.farm_core.specs.Farm.{state_of, chroot_in, IsCore}
use Rattle.farm_core.specs.declared.lane.LaneRun.{LaneRun}
use Rattle.farm_core.proofs.Stepped.{read, lane_shown}

-- the plan has no such lane
pub unknown : (u : Universe) (p : Plan) (s : State) (l : ℕ) → length p ≤ l
    → step u p s l ≡ run.Unknown
unfolding step
unknown u p s l past = cond-false (nat_lt l (length p)) _ run.Unknown (le-ltb l (length p) past)

-- the chroot of a lane
pub chroot_is : (u : Universe) (plan : CountedPlan) (lanes : List LaneRun) (kept : Kept)
    → IsCore u plan.lanes lanes kept → (l : ℕ) (r : LaneRun) → slice_get lanes l ≡ Some r
    → r.chroot
    ≡ chroot_in (record { universe = u; plan = plan; state = state_of lanes kept }) l
chroot_is u plan lanes kept core l r is =
    let run = core.each l r is in
    let slots : r.chroot.slots ≡ (lane_state (state_of lanes kept) l).chroot =
    ap (λ st. st.chroot) (sym (lane_shown u plan.lanes lanes kept core l r is)) in
    ap (λ n. record { slots = r.chroot.slots; base = r.chroot.base; used = n }) run.chroot.used
    ∙ (ap (λ b. record { slots = r.chroot.slots; base = b; used = used u r.chroot.slots }) run.base
    ∙ ap (λ xs. record { slots = xs; base = (lane plan.lanes l).base; used = used u xs }) slots)

-- this lane has no instruction left
abbrev pub has_ended : Plan → State → ℕ → Bool
has_ended p s l = nat_le (length (lane p l).instructions) (lane_state s l).done

pub not_finished : (p : Plan) (s : State) (l : ℕ) → l < length p → has_ended p s l ≡ false
    → is_finished p s ≡ false
unfolding is_finished
not_finished p s l lt left =
    elim (cases_Bool (every_below (length p) (has_ended p s))) [
      | inl all ↦
          absurd (both_ways (has_ended p s l) left
          (every_below-at (length p) (has_ended p s) l lt all))
      | inr some ↦ some
    ]

-- a lane that was read from the list has an instruction left
pub left_at : (u : Universe) (p : Plan) (lanes : List LaneRun) (kept : Kept)
    → IsCore u p lanes kept → (l : ℕ) (r : LaneRun) → l < length p → r ≡ get_or lanes l r
    → (of : Lane) → of ≡ lane p l → r.done < length of.instructions
    → is_finished p (state_of lanes kept) ≡ false
left_at u p lanes kept core l r lt value of of_is left =
    let at = read lanes l r (omega (arith, lt, core.long)) value in
    let shows = lane_shown u p lanes kept core l r at in
    let more : (lane_state (state_of lanes kept) l).done < length (lane p l).instructions =
    rw shows (subst (λ (o : Lane). r.done < length o.instructions) of_is left) in
    not_finished p (state_of lanes kept) l lt (lt-leb _ _ more)

pub all_ended : (p : Plan) (s : State) (n : ℕ) → n ≡ length p
    → every_below n (has_ended p s) ≡ true → is_finished p s ≡ true
unfolding is_finished
all_ended p s n e all = ap (λ k. every_below k (has_ended p s)) (sym e) ∙ all

-- a word of the archive
pub word_is : (u : Universe) (p : Plan) (lanes : List LaneRun) (kept : Kept)
    → IsCore u p lanes kept → (name word : ℕ) → word ≡ slice_index kept.words name → (b : ℕ)
    → word_has word b ≡ archive u (state_of lanes kept).published (variant name b)
unfolding has_bit
word_is u p lanes kept core name word is b =
    ap (λ w. word_has w b) is ∙ sym (core.archive.words (variant name b))
