-- The places of outputs under their names.
use Rattle.std.proofs.Common.{◌≡◌, ℕ, ◌+◌, ◌<◌, ◌++◌, List, [], ◌∷◌, length, length-append, length-set, get_or, Some, slice_get, inl, inr, sym, ap, subst, ◌∙◌, arith}
use Rattle.std.proofs.Math.Seq.{get_or-append_seam, get_or-set_same, get_or-set_other}
use Rattle.std.proofs.lemmas.Bool.{cases_eq}
use Rattle.std.proofs.lemmas.List.{get_or_append_left}
use Rattle.std.proofs.lemmas.Option.{slice_get_within, slice_get-get_or, get_or_from_slice_get}
use Rattle.known_rows.specs.declared.by_name.OutputPlace.{OutputPlace}
use Rattle.known_rows.specs.declared.marks.LaneOutputs.{LaneOutputs}
use Rattle.known_rows.specs.declared.marks.Output.{Output}
use Rattle.known_rows.specs.ByName.{place, IsAmongPlaces, IsListedByName, with_place_listed, KeepsListed, AreLaneListed, AreListedByName}

-- a list keeps its places as one more comes
in_more : (list : List OutputPlace) (a b : OutputPlace) → IsAmongPlaces list b
    → IsAmongPlaces (list ++ a ∷ []) b
in_more list a b there =
    let lt = slice_get_within list there.0 b there.1 in
    let long : there.0 < length (list ++ a ∷ []) = omega (arith, length-append list (a ∷ [])) in (
      there.0,
      slice_get-get_or (list ++ a ∷ []) there.0 b long
          ∙ ap Some (get_or_append_left list (a ∷ []) b there.0 lt
          ∙ get_or_from_slice_get list there.0 b b there.1),
    )

in_last : (list : List OutputPlace) (a : OutputPlace) → IsAmongPlaces (list ++ a ∷ []) a
in_last list a =
    let long : length list < length (list ++ a ∷ []) =
    omega (arith, length-append list (a ∷ [])) in (
      length list,
      slice_get-get_or (list ++ a ∷ []) (length list) a long
          ∙ ap Some (get_or-append_seam list a [] a),
    )

-- one more place under a name: what was listed still is, and it is listed
module _ (lists : List (List OutputPlace)) (name : ℕ) (at : OutputPlace)
    (lt : name < length lists) where
  there : get_or (with_place_listed lists name at) name [] ≡ get_or lists name [] ++ at ∷ []
  there = get_or-set_same lists name _ [] lt

  kept_at : (other : ℕ) (b : OutputPlace) → IsListedByName lists other b
      → IsListedByName (with_place_listed lists name at) other b
  kept_at other b is =
      elim (cases_eq other name) [
        | inl same ↦
            subst (λ n. IsListedByName (with_place_listed lists name at) n b) (sym same)
            (subst (λ list. IsAmongPlaces list b) (sym there)
            (in_more (get_or lists name []) at b
            (subst (λ n. IsListedByName lists n b) same is)))
        | inr differs ↦
            subst (λ list. IsAmongPlaces list b)
            (sym (get_or-set_other lists name other _ [] differs)) is
      ]

  pub IsKept-with_listed : KeepsListed lists (with_place_listed lists name at)
  IsKept-with_listed = record { long = length-set lists name _; kept = kept_at }

  pub IsListed-with_listed : IsListedByName (with_place_listed lists name at) name at
  IsListed-with_listed = subst (λ list. IsAmongPlaces list at) (sym there)
      (in_last (get_or lists name []) at)

pub kept_trans : (a b c : List (List OutputPlace)) → KeepsListed a b → KeepsListed b c
    → KeepsListed a c
kept_trans a b c first next =
    record {
      long = next.long ∙ first.long;
      kept = λ name at is. next.kept name at (first.kept name at is);
    }

-- one more output of a lane
pub lane_next : (old new : List (List OutputPlace)) (l n : ℕ) (outs : List Output) (d : Output)
    → KeepsListed old new → AreLaneListed old l outs n
    → IsListedByName new (get_or outs n d).variant.name (place l n)
    → AreLaneListed new l outs (n + 1)
lane_next old new l n outs d kept so_far here m o lt at =
    elim (cases_eq m n) [
      | inl same ↦
          let found : get_or outs n d ≡ o =
          get_or_from_slice_get outs n o d (ap (slice_get outs) (sym same) ∙ at) in
          subst (λ k. IsListedByName new o.variant.name (place l k)) (sym same)
          (subst (λ (w : Output). IsListedByName new w.variant.name (place l n)) found here)
      | inr other ↦
          kept.kept o.variant.name (place l m) (so_far m o (omega (arith, lt, other)) at)
    ]

-- one more lane
pub lanes_next : (old new : List (List OutputPlace)) (l : ℕ) (lanes : List LaneOutputs)
    (outs : List Output) → KeepsListed old new → AreListedByName old lanes l
    → ((of : LaneOutputs) → slice_get lanes l ≡ Some of → outs ≡ of.outputs.items)
    → AreLaneListed new l outs (length outs) → AreListedByName new lanes (l + 1)
lanes_next old new l lanes outs kept so_far is here k of lt at =
    elim (cases_eq k l) [
      | inl same ↦
          subst (λ h. AreLaneListed new h of.outputs.items (length of.outputs.items)) (sym same)
          (subst (λ os. AreLaneListed new l os (length os))
          (is of (ap (slice_get lanes) (sym same) ∙ at)) here)
      | inr other ↦
          λ n o lt_n at_n. kept.kept o.variant.name (place k n)
          (so_far k of (omega (arith, lt, other)) at n o lt_n at_n)
    ]
