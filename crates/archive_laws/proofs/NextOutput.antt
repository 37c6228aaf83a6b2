-- The next output of a lane, by its number.
use Rattle.std.proofs.Common.{◌≡◌, ℕ, suc, List, length, drop, Option, Some, slice_get, refl, sym, ap, subst, ◌∙◌, arith}
use Rattle.std.proofs.lemmas.Option.{same_Some, slice_get_within, get_or_from_slice_get}
use Rattle.farm_model.specs.Common.{Universe, outputs, IsKnown}
use Rattle.farm_model.specs.declared.types.Variant.{Variant}
use Rattle.plan_model.specs.Common.{Plan, lane, lane_outputs, IsSound}
use Rattle.plan_model.specs.declared.instructions.Instruction.{Instruction}
use Rattle.plan_model.specs.declared.instructions.Instruction.TheVariants.{Publish}
use Rattle.farm_laws.proofs.Safe.{variants_name}
use Rattle.archive_laws.specs.LaneMoves.{outputs_made, output_of}
use Rattle.archive_laws.proofs.Counted.{settled_count}
use Rattle.archive_laws.proofs.OutputPlaces.{output_there}
use Rattle.archive_laws.specs.Records.{Record, ready_in, next_of, next_output}
use Rattle.archive_laws.specs.Bounds.{IsRecord}
use Rattle.archive_laws.specs.Laws.{IsNext, NextOutputIsByNumber}

module _ (u : Universe) (p : Plan) (sound : IsSound u p) (l : ℕ) (r : Record)
    (h : IsRecord u p l r) where
  -- by cases on the instruction that the lane is ready for
  output_next : (v : Variant) (x : Option Instruction) → next_of u p l r.at ≡ x
      → output_of u (ready_in u p l r.at).made x ≡ Some v → IsNext u p l r v
  output_next v (Some (Publish recipe)) at out =
      let of = lane p l in
      let st = ready_in u p l r.at in
      let same = settled_count u p sound l h.in_plan (drop r.at.done of.instructions) r.at h.place
      refl in
      let known : IsKnown u v =
      subst (IsKnown u) (get_or_from_slice_get (outputs u recipe) st.made v v out)
      (sound.universe.outputs_known recipe st.made v
      (slice_get_within (outputs u recipe) st.made v out)) in
      let few = sound.universe.few v.name in
      record {
        there = ap (slice_get (lane_outputs u of)) (sym same)
            ∙ output_there u of.instructions st.done st.made (Publish recipe) v at out;
        named = variants_name u v.name v.bit known;
        bit = omega arith;
      }
  output_next v _ at out = absurd (cc)

  pub is_next : (v : Variant) → next_output u p l r.at ≡ Some v → IsNext u p l r v
  is_next v out = output_next v (next_of u p l r.at) refl out

  -- the output at the last serial drawn, where that is not used
  pub next_at : (v o : Variant) (outs : List Variant) (serials : List ℕ) (k : ℕ)
      → next_output u p l r.at ≡ Some v → outs ≡ lane_outputs u (lane p l) → serials ≡ r.serials
      → length r.serials ≡ suc (outputs_made u (lane p l) r.at) → suc k ≡ length serials
      → slice_get outs k ≡ Some o → (v ≡ o) × IsNext u p l r v
  next_at v o outs serials k out same drawn one last here =
      let n = is_next v out in
      let place : outputs_made u (lane p l) r.at ≡ k = omega (arith, one, last, ap length drawn) in
      let same_at : slice_get (lane_outputs u (lane p l)) (outputs_made u (lane p l) r.at)
      ≡ Some o =
      ap (slice_get (lane_outputs u (lane p l))) place
      ∙ (ap (λ xs. slice_get xs k) (sym same) ∙ here) in
      (same_Some v o (sym n.there ∙ same_at), n)

-- the next output of a lane is that of its number
pub next_output_is_by_number : NextOutputIsByNumber
next_output_is_by_number u p sound l r v h out = is_next u p sound l r h v out
