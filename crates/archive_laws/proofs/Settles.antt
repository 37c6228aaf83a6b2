-- A lane's local instructions and then its archive step.
use Rattle.std.proofs.Common.{◌≡◌, ◌≢◌, ℕ, ◌<◌, Bool, true, false, List, [], ◌∷◌, length, drop, Some, slice_set, refl, sym, ap, ◌∙◌, subst, arith, get_or-set_same, get_or-set_other}
use Rattle.std.proofs.lemmas.List.{set-set, set-get_or}
use Rattle.std.proofs.lemmas.Option.{none-some, same_Some}
use Rattle.farm_model.specs.Common.{Universe, has_bit}
use Rattle.farm_model.specs.declared.types.Variant.{Variant}
use Rattle.plan_model.specs.Common.{Plan, lane, LaneState, Turn, Goes, Gives, Waits, Ends, Fails, turn_of, no_state, IsSound, World, world_lane, goes_on, nothing, settled, with_bit, world_after, archive_step}
use Rattle.plan_model.specs.declared.instructions.Instruction.{Instruction}
use Rattle.plan_model.specs.declared.instructions.Instruction.TheVariants.{Configure, Deconfigure, Remove, Build, Otherwise, EndWhen}
use Rattle.farm_laws.proofs.Places.{IsWhen}
use Rattle.archive_laws.specs.Shown.{IsReached, with_lane, ready_lane, EachLaneSteps}
use Rattle.plan_model.proofs.WordLaws.{with_bit-keeps}
use Rattle.archive_laws.proofs.Turns.{turn_in, moves}
use Rattle.archive_laws.proofs.Stands.{stands_in}
use Rattle.archive_laws.proofs.Skips.{going_on, standing_on, next_on, goes_behind}
pub use Rattle.archive_laws.proofs.Skips.{next_of}

-- the lane itself, written where it stands
pub stays : (u : Universe) (p : Plan) (w : World) (l : ℕ) → IsReached u p w
    → IsReached u p (with_lane w l (world_lane w l))
stays u p w l r =
    subst (λ (xs : List LaneState). IsReached u p (record { words = w.words; lanes = xs }))
    (sym (set-get_or w.lanes l no_state)) r

module _ (u : Universe) (p : Plan) (sound : IsSound u p) (l : ℕ) (in_plan : l < length p) where
  -- a local instruction that goes on
  pub record LocalStep (w : World) (xs : List Instruction) (next : LaneState) : Type 0 where
    pub reached : IsReached u p (with_lane w l next)
    pub stands : world_lane (with_lane w l next) l ≡ next
    pub rest : going_on false (drop (world_lane (with_lane w l next) l).done
        (lane p l).instructions) ≡ going_on false xs

  -- the turn of such an instruction does not look at the archive
  abbrev pub IsBlind : World → Instruction → Type 0
  IsBlind w x =
      (there : Variant
      → Bool) → turn_of u there (lane p l) (world_lane w l) (Some x) ≡ turn_of u nothing (lane p
      l) (world_lane w l) (Some x)

  pub blind_turn : (w : World) (x : Instruction) (xs : List Instruction) → IsBlind w x
      → drop (world_lane w l).done (lane p l).instructions ≡ x ∷ xs
      → turn_in u p l (has_bit w.words) (world_lane w l) ≡ turn_of u nothing (lane p l)
      (world_lane w l) (Some x)
  blind_turn w x xs blind at =
      ap (turn_of u (has_bit w.words) (lane p l) (world_lane w l))
      (next_of (lane p l).instructions (world_lane w l).done x xs at).0
      ∙ blind (has_bit w.words)

  pub local_step : (w : World) (x : Instruction) (xs : List Instruction) (next : LaneState)
      → IsReached u p w → (IsWhen x → ⊥) → IsBlind w x
      → drop (world_lane w l).done (lane p l).instructions ≡ x ∷ xs
      → turn_of u nothing (lane p l) (world_lane w l) (Some x) ≡ Goes next → LocalStep w xs next
  local_step w x xs next r plain blind at e =
      let is : turn_in u p l (has_bit w.words) (world_lane w l) ≡ Goes next =
      blind_turn w x xs blind at ∙ e in
      let stands : world_lane (with_lane w l next) l ≡ next =
      get_or-set_same w.lanes l next no_state (omega (arith, r.lanes, in_plan)) in
      record {
        reached = moves u p sound w (with_lane w l next) l (Goes next) in_plan r is refl;
        stands = stands;
        rest =
            ap (λ (st : LaneState). going_on false (drop st.done (lane p l).instructions)) stands
            ∙ next_on (lane p l) (world_lane w l).done next.done x xs at
            (goes_behind u nothing (lane p l) (world_lane w l) next x plain e);
      }

  -- what is left to show of the instructions after it
  abbrev Settles : World → Bool → List Instruction → Type 0
  Settles w skips xs =
      IsReached u p w
      → going_on false (drop (world_lane w l).done (lane p l).instructions) ≡ going_on skips xs
      → IsReached u p (with_lane w l (settled u (lane p l) skips xs (world_lane w l)))

  -- a lane stands at an instruction that it goes on to
  pub is_left : (w : World) (xs : List Instruction) → IsReached u p w
      → going_on false (drop (world_lane w l).done (lane p l).instructions) ≡ xs
      → drop (world_lane w l).done (lane p l).instructions ≡ xs
  is_left w xs r at =
      sym (standing_on (lane p l).instructions (world_lane w l).done
      (stands_in u p sound w r l in_plan))
      ∙ at

  local_settles : (w : World) (x : Instruction) (xs : List Instruction)
      → ((v : World) → Settles v false xs) → IsReached u p w → (IsWhen x → ⊥) → IsBlind w x
      → going_on false (drop (world_lane w l).done (lane p l).instructions) ≡ x ∷ xs
      → (turn : Turn) → turn_of u nothing (lane p l) (world_lane w l) (Some x) ≡ turn
      → IsReached u p (with_lane w l
      (goes_on (world_lane w l) turn (λ next. settled u (lane p l) false xs next)))
  local_settles w x xs after r plain blind at (Goes next) e =
      let one = local_step w x xs next r plain blind (is_left w (x ∷ xs) r at) e in
      let end = after (with_lane w l next) one.reached one.rest in
      subst (λ (ys : List LaneState). IsReached u p (record { words = w.words; lanes = ys }))
      (set-set w.lanes l next (settled u (lane p l) false xs (world_lane (with_lane w l next) l))
      ∙ ap (λ (st : LaneState). slice_set w.lanes l (settled u (lane p l) false xs st))
      one.stands)
      end
  local_settles w x xs after r plain blind at (Gives next v) e = stays u p w l r
  local_settles w x xs after r plain blind at Waits e = stays u p w l r
  local_settles w x xs after r plain blind at Ends e = stays u p w l r
  local_settles w x xs after r plain blind at (Fails trap) e = stays u p w l r

  settles : (skips : Bool) (xs : List Instruction) (w : World) → Settles w skips xs
  settles true [] w r at = stays u p w l r
  settles true (EndWhen ∷ xs) w r at = settles false xs w r at
  settles true (x ∷ xs) w r at = settles true xs w r at
  settles false (Otherwise ∷ xs) w r at = settles true xs w r at
  settles false (EndWhen ∷ xs) w r at = settles false xs w r at
  settles false (Configure members ∷ xs) w r at =
      local_settles w (Configure members) xs (λ v. settles false xs v) r (λ a. a) (λ there. refl) at
      (turn_of u nothing (lane p l) (world_lane w l) (Some (Configure members))) refl
  settles false (Deconfigure members ∷ xs) w r at =
      local_settles w (Deconfigure members) xs (λ v. settles false xs v) r (λ a. a) (λ there. refl)
      at (turn_of u nothing (lane p l) (world_lane w l) (Some (Deconfigure members))) refl
  settles false (Remove members ∷ xs) w r at =
      local_settles w (Remove members) xs (λ v. settles false xs v) r (λ a. a) (λ there. refl) at
      (turn_of u nothing (lane p l) (world_lane w l) (Some (Remove members))) refl
  settles false (Build recipe ∷ xs) w r at =
      local_settles w (Build recipe) xs (λ v. settles false xs v) r (λ a. a) (λ there. refl) at
      (turn_of u nothing (lane p l) (world_lane w l) (Some (Build recipe))) refl
  settles false _ w r at = stays u p w l r

  pub ready_reached : (w : World) → IsReached u p w
      → IsReached u p (with_lane w l (ready_lane u p w l))
  ready_reached w r = settles false (drop (world_lane w l).done (lane p l).instructions) w r refl

-- a turn of a lane that is written anew changes the world as it was
after_again : (w : World) (l : ℕ) (st : LaneState) (turn : Turn)
    → world_after (with_lane w l st) l turn ≡ world_after w l turn
after_again w l st (Goes next) =
    ap (λ (xs : List LaneState). Some (record { words = w.words; lanes = xs }))
    (set-set w.lanes l st next)
after_again w l st (Gives next v) =
    ap (λ (xs : List LaneState). Some (record { words = with_bit w.words v; lanes = xs }))
    (set-set w.lanes l st next)
after_again w l st Waits = refl
after_again w l st Ends = refl
after_again w l st (Fails trap) = refl

others_after : (w next : World) (l k : ℕ) (turn : Turn) → world_after w l turn ≡ Some next → k ≢ l
    → world_lane next k ≡ world_lane w k
others_after w next l k (Goes st) e ne =
    sym (ap (λ (x : World). world_lane x k) (same_Some _ next e))
    ∙ get_or-set_other w.lanes l k st no_state ne
others_after w next l k (Gives st v) e ne =
    sym (ap (λ (x : World). world_lane x k) (same_Some _ next e))
    ∙ get_or-set_other w.lanes l k st no_state ne
others_after w next l k Waits e ne = absurd (none-some next e)
others_after w next l k Ends e ne = absurd (none-some next e)
others_after w next l k (Fails trap) e ne = absurd (none-some next e)

grows_after : (w next : World) (l : ℕ) (v : Variant) (turn : Turn)
    → world_after w l turn ≡ Some next → has_bit w.words v ≡ true → has_bit next.words v ≡ true
grows_after w next l v (Goes st) e h =
    sym (ap (λ (x : World). has_bit x.words v) (same_Some _ next e)) ∙ h
grows_after w next l v (Gives st output) e h =
    sym (ap (λ (x : World). has_bit x.words v) (same_Some _ next e))
    ∙ with_bit-keeps w.words output v h
grows_after w next l v Waits e h = absurd (none-some next e)
grows_after w next l v Ends e h = absurd (none-some next e)
grows_after w next l v (Fails trap) e h = absurd (none-some next e)

pub each_lane_steps : EachLaneSteps
unfolding archive_step
each_lane_steps u p sound w r l lt =
    let st = ready_lane u p w l in
    let turn = turn_in u p l (has_bit w.words) st in
    let here : world_lane (with_lane w l st) l ≡ st =
    get_or-set_same w.lanes l st no_state (omega (arith, r.lanes, lt)) in
    record {
      local = ready_reached u p sound l lt w r;
      archive =
          λ next e. moves u p sound (with_lane w l st) next l turn lt
          (ready_reached u p sound l lt w r) (ap (turn_in u p l (has_bit w.words)) here)
          (after_again w l st turn ∙ e);
      others = λ next k e ne. others_after w next l k turn e ne;
      grows = λ next v e h. grows_after w next l v turn e h;
    }
