-- One turn of a lane, in a world that is reached.
use Rattle.std.proofs.Common.{◌≡◌, ℕ, ◌<◌, Bool, ◌||◌, List, [], ◌∷◌, ◌++◌, length, Option, Some, slice_set, refl, sym, ap, ◌∙◌, subst, length-set}
use Rattle.std.specs.Prelude.{nat_lt, slice_index_or}
use Rattle.std.proofs.Math.Bool.{or-false}
use Rattle.std.proofs.lemmas.Bool.{cond-true, lt-ltb}
use Rattle.std.proofs.lemmas.List.{length-map}
use Rattle.std.proofs.lemmas.Option.{none-some, same_Some, slice_get_within, get_or_from_slice_get}
use Rattle.farm_model.specs.Common.{Universe, names, same, outputs, initial, has_bit, IsKnown}
use Rattle.farm_model.specs.declared.types.Variant.{Variant}
use Rattle.plan_model.specs.Common.{Lane, Plan, lane, instruction_at, LaneState, start_lane, Turn, Goes, Gives, Waits, Ends, Fails, turn_of, archive, State, start, no_state, lane_state, Moved, Unknown, outcome, step, Run, Reachable, IsSound, World, world_lane, Shows, with_bit, world_after}
use Rattle.plan_model.specs.declared.instructions.Instruction.{Instruction}
use Rattle.farm_laws.proofs.Steps.{put, put_output, turn_at}
use Rattle.farm_laws.proofs.Places.{GivesOne, PlaceMove, turn_place}
use Rattle.farm_laws.proofs.Archive.{archive-push}
use Rattle.farm_laws.proofs.Safe.{variants_name}
use Rattle.archive_laws.specs.Shown.{IsReached, StartIsReached, with_lane}
use Rattle.plan_model.proofs.WordLaws.{has_bit-with_bit}

run_on : (u : Universe) (p : Plan) (ls : List ℕ) (s m t : State) (l : ℕ) → Run u p s ls m
    → step u p m l ≡ Moved t → Run u p s (ls ++ l ∷ []) t
run_on u p [] s m t l r e = (t, subst (λ x. step u p x l ≡ Moved t) (sym r) e, refl)
run_on u p (k ∷ ls) s m t l r e = (r.0, r.1, run_on u p ls r.0 m t l r.2 e)

reachable_on : (u : Universe) (p : Plan) (s t : State) (l : ℕ) → Reachable u p s
    → step u p s l ≡ Moved t → Reachable u p t
reachable_on u p s t l r e = (r.0 ++ l ∷ [], run_on u p r.0 (start u p) s t l r.1 e)

-- what lane l does at its turn, where this is in the archive and the lane stands so
abbrev pub turn_in : Universe → Plan → ℕ → (Variant → Bool) → LaneState → Turn
turn_in u p l there st = turn_of u there (lane p l) st (instruction_at p l st.done)

pub step_is : (u : Universe) (p : Plan) (s : State) (l : ℕ) → l < length p
    → step u p s l ≡ outcome s l (turn_at u p s l)
unfolding step turn_at
step_is u p s l lt = cond-true (nat_lt l (length p)) _ Unknown (lt-ltb l (length p) lt)

-- a lane's turn is the same in a world as in the state that it shows
pub turn_shown : (u : Universe) (p : Plan) (w : World) (s : State) (l : ℕ) → Shows u w s
    → turn_at u p s l ≡ turn_in u p l (has_bit w.words) (world_lane w l)
unfolding turn_at
turn_shown u p w s l sh =
    let there : archive u s.published ≡ has_bit w.words = λ i v. sh.archive_is v i in
    ap (λ (a : Variant → Bool). turn_in u p l a (lane_state s l)) there
    ∙ ap (λ (xs : List LaneState). turn_in u p l (has_bit w.words)
    (slice_index_or xs l no_state)) sh.lanes

-- how the lane has gone on
pub place_of : (u : Universe) (p : Plan) (w : World) (l : ℕ) (turn : Turn)
    → turn_in u p l (has_bit w.words) (world_lane w l) ≡ turn
    → PlaceMove u (has_bit w.words) (lane p l) (world_lane w l)
    (instruction_at p l (world_lane w l).done) turn
place_of u p w l turn is =
    subst (PlaceMove u (has_bit w.words) (lane p l) (world_lane w l)
    (instruction_at p l (world_lane w l).done)) is
    (turn_place u (has_bit w.words) (lane p l) (world_lane w l)
    (instruction_at p l (world_lane w l).done))

-- an output has a word
output_within : (u : Universe) (p : Plan) → IsSound u p
    → (of : Lane) (st next : LaneState) (x : Option Instruction) (v : Variant)
    → GivesOne u of st x next v → v.name < names u
output_within u p sound of st next x v g =
    let known : IsKnown u v =
    subst (IsKnown u) (get_or_from_slice_get (outputs u g.recipe) st.made v v g.output)
    (sound.universe.outputs_known g.recipe st.made v
    (slice_get_within (outputs u g.recipe) st.made v g.output)) in
    variants_name u v.name v.bit known

module _ (u : Universe) (p : Plan) (sound : IsSound u p) where
  -- a turn leads to a world that is reached
  pub moves : (w next : World) (l : ℕ) (turn : Turn) → l < length p → IsReached u p w
      → turn_in u p l (has_bit w.words) (world_lane w l) ≡ turn → world_after w l turn ≡ Some next
      → IsReached u p next
  moves w next l (Goes st) lt r is e =
      let s = r.shown.0 in
      let sh = r.shown.2 in
      let moved : step u p s l ≡ Moved (put s l st) =
      step_is u p s l lt ∙ ap (outcome s l) (turn_shown u p w s l sh ∙ is) in
      subst (IsReached u p) (same_Some (with_lane w l st) next e)
      (record {
        words = r.words;
        lanes = length-set w.lanes l st ∙ r.lanes;
        shown = (
          put s l st,
          reachable_on u p s (put s l st) l r.shown.1 moved,
          record {
            lanes = ap (λ (xs : List LaneState). slice_set xs l
                st) sh.lanes;
            archive_is = sh.archive_is;
          },
        );
      })
  moves w next l (Gives st v) lt r is e =
      let s = r.shown.0 in
      let sh = r.shown.2 in
      let moved : step u p s l ≡ Moved (put_output s l st v) =
      step_is u p s l lt ∙ ap (outcome s l) (turn_shown u p w s l sh ∙ is) in
      let within : v.name < names u =
      output_within u p sound (lane p l) (world_lane w l) st
      (instruction_at p l (world_lane w l).done) v
      (place_of u p w l (Gives st v) is) in
      let after : World = record { words = with_bit w.words v; lanes = slice_set w.lanes l st } in
      subst (IsReached u p) (same_Some after next e)
      (record {
        words = length-set w.words v.name _ ∙ r.words;
        lanes = length-set w.lanes l st ∙ r.lanes;
        shown = (
          put_output s l st v,
          reachable_on u p s (put_output s l st v) l r.shown.1 moved,
          record {
            lanes = ap (λ (xs : List LaneState). slice_set xs l st) sh.lanes;
            archive_is =
                λ x. archive-push u s.published l v x ∙ ap (λ b. b || same v x) (sh.archive_is x)
                ∙ sym (has_bit-with_bit w.words v x (subst (λ n. v.name < n) (sym r.words) within));
          },
        );
      })
  moves w next l Waits lt r is e = absurd (none-some next e)
  moves w next l Ends lt r is e = absurd (none-some next e)
  moves w next l (Fails trap) lt r is e = absurd (none-some next e)

pub start_is_reached : StartIsReached
unfolding names archive initial
start_is_reached u p sound =
    record {
      words = sound.universe.words;
      lanes = length-map p (start_lane u);
      shown = (
        start u p,
        ([], refl),
        record {
          lanes = refl;
          archive_is = λ v. or-false
              (has_bit u.initial v);
        },
      );
    }
