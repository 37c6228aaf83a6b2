-- A load of any name's word leads from a world that is reached to one.
use Rattle.std.proofs.Common.{◌≡◌, inl, inr, ℕ, ◌<◌, eqb, cond, Bool, true, false, ◌&&◌, length, Option, Some, None, List, refl, sym, ap, subst, ◌∙◌}
use Rattle.std.specs.Prelude.{slice_index}
use Rattle.std.proofs.lemmas.Bool.{cases_Bool, eqb-true, eq-eqb, and_parts}
use Rattle.deb_relation.specs.Relations.{Entry}
use Rattle.deb_relation.specs.declared.operator.Op.{Op}
use Rattle.farm_model.specs.Common.{some_below, Universe, variant, names, variants, word_has, has_bit, satisfies_entry, IsKnown}
use Rattle.farm_model.specs.declared.types.Variant.{Variant}
use Rattle.farm_model.proofs.BelowLaws.{some_below-found}
use Rattle.plan_model.specs.Common.{Lane, Plan, lane, instruction_at, IsSound, LaneState, Turn, Goes, Gives, Waits, Ends, Fails, passes, past, turn_of, World, world_lane, goes_on, world_after, archive_step}
use Rattle.plan_model.specs.declared.instructions.Instruction.{Instruction}
use Rattle.plan_model.specs.declared.instructions.Instruction.TheVariants.{Unpack, Wait, When}
use Rattle.archive_laws.specs.LaneMoves.{seen, moved_by}
use Rattle.archive_laws.specs.Reaching.{LoadReaches, LoadsReach}
use Rattle.archive_laws.specs.Shown.{IsReached, with_lane, ready_lane, OneLaneSteps}
use Rattle.archive_laws.proofs.Counted.{goes_count, ready_count, ready_place}
use Rattle.archive_laws.proofs.OneWord.{each_word_decides}
use Rattle.archive_laws.proofs.Settles.{stays, each_lane_steps}

-- of its name a word says what the words say
seen_is : (words : List ℕ) (n b : ℕ)
    → has_bit words (variant n b) ≡ seen n (slice_index words n) (variant n b)
unfolding has_bit
seen_is words n b =
    ap (λ c. c && word_has (slice_index words n) b) (sym (eq-eqb n n refl))

-- and what it says is there
seen_there : (words : List ℕ) (n : ℕ) (v : Variant) → seen n (slice_index words n) v ≡ true
    → has_bit words v ≡ true
unfolding has_bit
seen_there words n v e =
    let both = and_parts (eqb v.name n) (word_has (slice_index words n) v.bit) e in
    ap (λ k. word_has (slice_index words k) v.bit) (eqb-true v.name n both.0) ∙ both.1

-- a variant by which a wait passes
record PassesBy (u : Universe) (there : Variant → Bool) (e : Entry) : Type 0 where
  by : Variant
  known : IsKnown u by
  here : there by ≡ true
  satisfies : satisfies_entry u e by ≡ true

passed_by : (u : Universe) (there : Variant → Bool) (e : Entry) → passes u there e ≡ true
    → PassesBy u there e
passed_by u there e h =
    let n = some_below-found (names u) (λ n. some_below (variants u n)
    (λ b. there (variant n b) && satisfies_entry u e (variant n b))) h in
    let b = some_below-found (variants u n.0)
    (λ b. there (variant n.0 b) && satisfies_entry u e (variant n.0 b)) n.2 in
    let both = and_parts (there (variant n.0 b.0)) (satisfies_entry u e (variant n.0 b.0)) b.2 in
    record { by = variant n.0 b.0; known = b.1; here = both.0; satisfies = both.1 }

module _ (u : Universe) (p : Plan) (sound : IsSound u p) (w : World) (r : IsReached u p w) (l : ℕ)
    (in_plan : l < length p) where
  abbrev of : Lane
  of = lane p l

  abbrev old : LaneState
  old = world_lane w l

  abbrev st : LaneState
  st = ready_lane u p w l

  abbrev steps : OneLaneSteps u p w l
  steps = each_lane_steps u p sound w r l in_plan

  -- behind a turn that goes on
  goes_there : (x : Instruction) (next : LaneState) → instruction_at p l st.done ≡ Some x
      → turn_of u (has_bit w.words) of st (Some x) ≡ Goes next
      → IsReached u p (with_lane w l next)
  unfolding archive_step
  goes_there x next at e =
      steps.archive (with_lane w l next)
      (ap (world_after w l) (ap (turn_of u (has_bit w.words) of st) at ∙ e))

  -- where the turn is known by this word and goes on, it does so over the words
  abbrev Follows : ℕ → Instruction → Type 0
  Follows n x =
      (next : LaneState) → turn_of u (seen n (slice_index w.words n)) of st (Some x) ≡ Goes next
      → turn_of u (has_bit w.words) of st (Some x) ≡ Goes next

  stays_left : LoadReaches u p w l old
  stays_left = record { reached = stays u p w l r; made = refl }

  turn_left : (n : ℕ) (x : Instruction) (turn : Turn) → instruction_at p l st.done ≡ Some x
      → Follows n x → turn_of u (seen n (slice_index w.words n)) of st (Some x) ≡ turn
      → LoadReaches u p w l (goes_on old turn (λ next. next))
  turn_left n x (Goes next) at follows e =
      record {
        reached = goes_there x next at (follows next e);
        made =
            goes_count u of (sound.plan.branched l in_plan) (seen n (slice_index w.words n)) st
            next x at (ready_place u p sound l in_plan w r) e
            ∙ ready_count u p sound l in_plan w r;
      }
  turn_left n x (Gives next v) at follows e = stays_left
  turn_left n x Waits at follows e = stays_left
  turn_left n x Ends at follows e = stays_left
  turn_left n x (Fails trap) at follows e = stays_left

  unpack_follows : (n : ℕ) (wanted : Option (Op × List ℕ)) → Follows n (Unpack n wanted)
  unpack_follows n wanted next e =
      (each_word_decides u of st (has_bit w.words)).unpack n wanted
      (seen n (slice_index w.words n)) (seen_is w.words n)
      ∙ e

  when_follows : (n : ℕ) (wanted : Option (Op × List ℕ)) → Follows n (When n wanted)
  when_follows n wanted next e =
      (each_word_decides u of st (has_bit w.words)).when n wanted
      (seen n (slice_index w.words n)) (seen_is w.words n)
      ∙ e

  wait_follows : (n : ℕ) (e : Entry) (b : Bool) → passes u (seen n (slice_index w.words n)) e ≡ b
      → (next : LaneState) → cond b (Goes (past of st 0 st.chroot)) Waits ≡ Goes next
      → turn_of u (has_bit w.words) of st (Some (Wait e)) ≡ Goes next
  wait_follows n e true is next h =
      let v = passed_by u (seen n (slice_index w.words n)) e is in
      (each_word_decides u of st (has_bit w.words)).wait e v.by v.known
      (seen_there w.words n v.by v.here) v.satisfies
      ∙ h
  wait_follows n e false is next h = absurd (cc)

  load_left : (n : ℕ) (x : Option Instruction) → instruction_at p l st.done ≡ x
      → LoadReaches u p w l (moved_by u of n (slice_index w.words n) old st x)
  load_left n None at = stays_left
  load_left n (Some (Unpack name wanted)) at =
      elim (cases_Bool (eqb name n)) [
        | inl here ↦ rw here (turn_left n (Unpack name wanted) _ at
            (subst (λ k. Follows n (Unpack k wanted)) (sym (eqb-true name n here))
            (unpack_follows n wanted)) refl)
        | inr other ↦ rw other stays_left
      ]
  load_left n (Some (When name wanted)) at =
      elim (cases_Bool (eqb name n)) [
        | inl here ↦ rw here (turn_left n (When name wanted) _ at
            (subst (λ k. Follows n (When k wanted)) (sym (eqb-true name n here))
            (when_follows n wanted)) refl)
        | inr other ↦ rw other stays_left
      ]
  load_left n (Some (Wait e)) at =
      turn_left n (Wait e) _ at
      (wait_follows n e (passes u (seen n (slice_index w.words n)) e) refl)
      refl
  load_left n _ at = stays_left

-- a load of any name's word leaves the lane in a world that is reached
pub loads_reach : LoadsReach
loads_reach u p sound w r l n lt =
    load_left u p sound w r l lt n (instruction_at p l (ready_lane u p w l).done) refl
