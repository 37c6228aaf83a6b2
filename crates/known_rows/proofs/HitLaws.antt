-- The first output that a row has, and the initial variants that a point looks for.
use Rattle.std.proofs.Common.{◌≡◌, ℕ, zero, suc, ◌<◌, Bool, true, false, nat_lt, List, [], ◌∷◌, length, get_or, Some, None, slice_get, refl, sym, ap, subst, ◌∙◌}
use Rattle.std.specs.Prelude.{◌↔◌, IsTrue}
use Rattle.std.proofs.lemmas.Option.{none-some, same_Some, slice_get-get_or, slice_get_within, get_or_from_slice_get}
use Rattle.std.proofs.lemmas.Bool.{and_parts, and_from, lt-ltb, both_ways}
use Rattle.bit_rows.specs.Sets.{variants_of, HaveCommon}
use Rattle.farm_model.specs.Common.{Universe, variant, variants, initial, IsKnown, IsUniverse}
use Rattle.farm_model.specs.declared.types.Variant.{Variant}
use Rattle.plan_model.specs.Plan.{Plan, lane}
use Rattle.sat_rows.specs.Rows.{IsRowOf}
use Rattle.known_rows.specs.declared.column.Source.{Source}
use Rattle.known_rows.specs.declared.marks.Output.{Output}
use Rattle.known_rows.specs.declared.marks.LaneOutputs.{LaneOutputs}
use Rattle.known_rows.specs.Marks.{outputs_with_points, AreLanes}
use Rattle.known_rows.specs.ByName.{AreKnownLanes}
use Rattle.known_rows.specs.Points.{IsNothing}
use Rattle.known_rows.specs.Hits.{AreKnownOutputs, AreSourcesBelow}
use Rattle.known_rows.proofs.Sources.{comes_from, start_sources}

pub out_known : (u : Universe) (outs : List Output) (n : ℕ) (d : Output) → AreKnownOutputs u outs
    → n < length outs → IsKnown u (get_or outs n d).variant
out_known u outs n d known lt = known n (get_or outs n d) (slice_get-get_or outs n d lt)

-- the outputs of a lane are known
pub lane_known : (u : Universe) (p : Plan) (h : ℕ) (outs : List Output)
    → outs ≡ outputs_with_points u p h (length (lane p h).instructions) → IsUniverse u
    → AreKnownOutputs u outs
lane_known u p h outs are sound k o at =
    let f = comes_from u p h outs are k o at in
    subst (IsKnown u) (get_or_from_slice_get _ f.number o.variant o.variant f.output)
    (sound.outputs_known f.recipe f.number o.variant
    (slice_get_within _ f.number o.variant f.output))

pub lanes_known : (u : Universe) (p : Plan) (lanes : List LaneOutputs) → AreLanes u p lanes
    → IsUniverse u → AreKnownLanes u lanes
lanes_known u p lanes are sound l of at =
    lane_known u p l of.outputs.items (are.each l of at) sound

module _ (u : Universe) (sound : IsUniverse u) (test : Variant → Bool) (archive row : List ℕ)
    (hit : Bool)
    (common : IsTrue hit ↔ HaveCommon (variants_of archive) (variants_of row))
    (archive_is : IsRowOf u (initial u) archive) (row_is : IsRowOf u test row) where
  met : (c : Variant) → initial u c ≡ true → test c ≡ true → hit ≡ true
  met c is sat =
      let known = lt-ltb c.bit (variants u c.name) (sound.initial_known c is) in
      common.1 (
        c.name,
        c.bit,
        archive_is.set c.name c.bit ∙ and_from _ _ known is,
        row_is.set c.name c.bit ∙ and_from _ _ known sat,
      )

  pub start_none : (p : Plan) (l i : ℕ) (ss : List Source) → ss ≡ [] → hit ≡ false
      → AreSourcesBelow u p l i test ss 0
  start_none p l i ss empty miss =
      start_sources u p l i test ss (λ c is sat. absurd (both_ways hit miss (met c is sat)))
      (λ k s at. absurd (none-some s (ap (λ xs. slice_get xs k) (sym empty) ∙ at)))

  one_source : (s t : Source) (k : ℕ) → slice_get (s ∷ []) k ≡ Some t → s ≡ t
  one_source s t zero at = same_Some s t at
  one_source s t (suc k) at = absurd (none-some t at)

  pub start_some : (p : Plan) (l i : ℕ) (ss : List Source)
      → ss ≡ record { point = None; lane = 0; count = 0 } ∷ [] → hit ≡ true
      → AreSourcesBelow u p l i test ss 0
  start_some p l i ss is here =
      subst (λ xs. AreSourcesBelow u p l i test xs 0) (sym is)
      (start_sources u p l i test (zero_source ∷ [])
      (λ c _ sat. record { index = 0; source = zero_source; at = refl; count = refl; point = refl })
      (λ k s at. subst (IsNothing u test) (one_source zero_source s k at) (nothing)))
    where
      zero_source : Source
      zero_source = record { point = None; lane = 0; count = 0 }

      found : HaveCommon (variants_of archive) (variants_of row)
      found = common.0 here

      v : Variant
      v = variant found.0 found.1

      nothing : IsNothing u test zero_source
      nothing =
          record {
            variant = v;
            is_initial = (and_parts (nat_lt found.1 (variants u found.0)) (initial u v)
                (sym (archive_is.set found.0 found.1) ∙ found.2)).1;
            satisfies = (and_parts (nat_lt found.1 (variants u found.0)) (test v)
                (sym (row_is.set found.0 found.1) ∙ found.3)).1;
            count = refl;
            point = refl;
          }
