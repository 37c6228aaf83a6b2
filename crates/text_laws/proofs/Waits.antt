-- An entry that is reduced is one that is spelled, where it was one before.
use Rattle.std.proofs.Common.{◌≡◌, ℕ, true, not, List, [], ◌∷◌, refl, sym, ap, subst, inl, inr, map, filter, Option, Some, None, All}
use Rattle.std.proofs.lemmas.Bool.{cases_Bool}
use Rattle.std.proofs.lemmas.List.Elements.{All-nil, All-cons, All-head, All-tail}
use Rattle.deb_text.specs.Cuts.{is_nil}
use Rattle.deb_relation.specs.Relations.{Atom, Entry}
use Rattle.deb_relation.proofs.ReadLaws.{is_spelled_qualifier, IsSpelled}
use Rattle.deb_profile.specs.Reduction.{means_nothing, qualifier_left, bare, reduced_entry}
use Rattle.deb_profile.specs.Restriction.{keeps}

module _ (names active : List (List ℕ)) where
  qualifier-spelled : (qualifier : Option (List ℕ)) → is_spelled_qualifier qualifier ≡ true
      → is_spelled_qualifier (qualifier_left names qualifier) ≡ true
  qualifier-spelled None is = refl
  qualifier-spelled (Some qualifier) is =
      elim (cases_Bool (means_nothing names qualifier)) [
        | inl nothing ↦ rw nothing refl
        | inr something ↦ rw something is
      ]

  bare-spelled : (atom : Atom) → IsSpelled atom → IsSpelled (bare names atom)
  bare-spelled atom is = record {
    name = is.name;
    qualifier = qualifier-spelled atom.qualifier is.qualifier;
    relation = is.relation;
    archs = refl;
    profiles = refl;
  }

  -- an alternative without restrictions stays
  spelled-keeps : (atom : Atom) → IsSpelled atom → keeps names active atom ≡ true
  spelled-keeps atom is = rw (is.archs, is.profiles) refl

  spelled-stays : (entry : Entry) → All IsSpelled entry → filter (keeps names active) entry ≡ entry
  spelled-stays [] are = refl
  spelled-stays (a ∷ more) are =
      rw (spelled-keeps a (All-head IsSpelled a more are))
      (ap (λ atoms. a ∷ atoms) (spelled-stays more (All-tail IsSpelled a more are)))

  bares-spelled : (entry : Entry) → All IsSpelled entry → All IsSpelled (map (bare names) entry)
  bares-spelled [] are = All-nil IsSpelled
  bares-spelled (a ∷ more) are =
      All-cons IsSpelled (bare names a) (map (bare names) more)
      (bare-spelled a (All-head IsSpelled a more are))
      (bares-spelled more (All-tail IsSpelled a more are))

  pub reduced-spelled : (entry : Entry) → All IsSpelled entry
      → All IsSpelled (reduced_entry names active entry)
  reduced-spelled entry are =
      subst (λ atoms. All IsSpelled (map (bare names) atoms)) (sym (spelled-stays entry are))
      (bares-spelled entry are)

  bares-some : (entry : Entry) → not (is_nil entry) ≡ true
      → not (is_nil (map (bare names) entry)) ≡ true
  bares-some [] some = some
  bares-some (a ∷ more) some = refl

  pub reduced-some : (entry : Entry) → All IsSpelled entry → not (is_nil entry) ≡ true
      → not (is_nil (reduced_entry names active entry)) ≡ true
  reduced-some entry are some =
      subst (λ atoms. not (is_nil (map (bare names) atoms)) ≡ true) (sym (spelled-stays entry are))
      (bares-some entry some)
