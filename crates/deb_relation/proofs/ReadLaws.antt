-- What is read of an alternative in a kind of field without restrictions, and its bytes.
use Rattle.std.proofs.Common.{◌≡◌, ℕ, Bool, true, false, not, ◌&&◌, ◌==◌, List, [], ◌∷◌, refl, inl, inr, Option, Some, None, IfOk, All}
use Rattle.std.proofs.lemmas.Bool.{cases_Bool, and_from, not_from_false}
use Rattle.std.specs.List.{list_all, list_any, slice_split}
use Rattle.std.specs.Result.{is_ok}
use Rattle.deb_text.specs.Common.{is_byte, is_blank, is_name_byte, is_qualifier_byte, is_version_byte, is_nil, first_is, before, after, front, behind, is_name}
use Rattle.deb_text.proofs.CarriedLaws.{if-has, then-has, traverse-has, always}
use Rattle.deb_text.proofs.CutLaws.{front-passes}
use Rattle.deb_version.specs.Grammar.{version_at}
use Rattle.deb_relation.specs.declared.kind.Kind.TheVariants.{Need}
use Rattle.deb_relation.specs.declared.operator.Op.{Op}
use Rattle.deb_relation.specs.Field.{atom_at, is_empty_text, alternative_at, entry_at}
use Rattle.deb_relation.specs.Grammar.{name_at, qualifier_at, operator_at, version_in, closed_at, relation_in, relation_at}
use Rattle.deb_relation.specs.Marks.{colon, less, greater, open_round, open_square, bar}
use Rattle.deb_relation.specs.Relations.{Atom}
use Rattle.deb_relation.specs.Restrictions.{archs_at, list_in, end_in, lists_at, profiles_at}
use Rattle.deb_relation.proofs.ListLaws.{lists-last, lists-more}

abbrev pub is_spelled_qualifier : Option (List ℕ) → Bool
is_spelled_qualifier None = true
is_spelled_qualifier (Some qualifier) =
    not (is_nil qualifier) && list_all is_qualifier_byte qualifier

abbrev pub is_spelled_relation : Option (Op × List ℕ) → Bool
is_spelled_relation None = true
is_spelled_relation (Some (op, version)) =
    is_ok (version_at version) && list_all is_version_byte version

-- each part may stand in a Depends field, and there are no restrictions
pub record IsSpelled (atom : Atom) : Type 0 where
  pub name : is_name atom.name ≡ true
  pub qualifier : is_spelled_qualifier atom.qualifier ≡ true
  pub relation : is_spelled_relation atom.relation ≡ true
  pub archs : atom.archs ≡ None
  pub profiles : atom.profiles ≡ []

name-has : (text : List ℕ) → IfOk (name_at text) (λ part. is_name part.0 ≡ true)
unfolding name_at
name-has text =
    if-has (λ part. is_name part.0 ≡ true) (is_name (front is_name_byte text)) _ _
    (λ is. is) (λ _. tt)

qualifier-has : (text : List ℕ)
    → IfOk (qualifier_at text) (λ part. is_spelled_qualifier part.0 ≡ true)
unfolding qualifier_at
qualifier-has [] = refl
qualifier-has (b ∷ bs) =
    if-has (λ part. is_spelled_qualifier part.0 ≡ true) (b == colon) _ _
    (λ _. if-has (λ part. is_spelled_qualifier part.0 ≡ true)
    (is_nil (front is_qualifier_byte bs)) _ _ (λ _. tt)
    (λ some. and_from (not (is_nil (front is_qualifier_byte bs)))
    (list_all is_qualifier_byte (front is_qualifier_byte bs))
    (not_from_false _ some) (front-passes is_qualifier_byte bs)))
    (λ _. refl)

abbrev IsVersion : (List ℕ × List ℕ) → Type 0
IsVersion part = (is_ok (version_at part.0) && list_all is_version_byte part.0) ≡ true

version-has : (text : List ℕ) → IfOk (version_in text) IsVersion
unfolding version_in
version-has text =
    if-has IsVersion (is_ok (version_at (front is_version_byte text))) _ _
    (λ is. and_from (is_ok (version_at (front is_version_byte text)))
    (list_all is_version_byte (front is_version_byte text)) is
    (front-passes is_version_byte text))
    (λ _. tt)

abbrev IsRelation : (Option (Op × List ℕ) × List ℕ) → Type 0
IsRelation part = is_spelled_relation part.0 ≡ true

relation-in-has : (text : List ℕ) → IfOk (relation_in Need text) IsRelation
relation-in-has text =
    then-has (λ _. Unit {0}) IsRelation (operator_at Need (behind is_blank text)) _ (always _)
    (λ op _. then-has IsVersion IsRelation (version_in (behind is_blank op.1)) _ (version-has _)
    (λ version is. then-has (λ _. Unit {0}) IsRelation
    (closed_at (behind is_blank version.1)) _ (always _) (λ rest _. is)))

relation-has : (text : List ℕ) → IfOk (relation_at Need text) IsRelation
unfolding relation_at
relation-has [] = refl
relation-has (b ∷ bs) =
    if-has IsRelation (b == open_round) _ _ (λ _. relation-in-has bs) (λ _. refl)

archs-has : (text : List ℕ) → IfOk (archs_at Need text) (λ part. part.0 ≡ None)
unfolding archs_at
archs-has [] = refl
archs-has (b ∷ bs) =
    if-has (λ part. part.0 ≡ None) (b == open_square) _ _ (λ _. tt) (λ _. refl)

-- ---- no profiles

-- what stands before the first `>` begins as the text does
before-plain : (text : List ℕ) → first_is (is_byte less) (behind is_blank text) ≡ false
    → first_is (is_byte less) (behind is_blank (before (is_byte greater) text)) ≡ false
before-plain [] plain = refl
before-plain (b ∷ bs) plain =
    elim (cases_Bool (is_byte greater b)) [
      | inl is ↦ rw is refl
      | inr is ↦ rw is (elim (cases_Bool (is_blank b)) [
        | inl blank ↦ rw blank (before-plain bs (rw blank at plain))
        | inr solid ↦ rw solid (rw solid at plain)
      ])
    ]

list-refused : (text : List ℕ) → first_is (is_byte less) text ≡ false
    → IfOk (list_in text) (λ _. ⊥)
list-refused [] plain = tt
list-refused (b ∷ bs) plain = rw plain tt

end-has : (text : List ℕ) → IfOk (end_in text) (λ lists. lists ≡ [])
end-has [] = refl
end-has (b ∷ bs) = if-has (λ lists. lists ≡ []) (b == less) _ _ (λ _. tt) (λ _. tt)

lists-none : (text : List ℕ) → first_is (is_byte less) (behind is_blank text) ≡ false
    → IfOk (lists_at text) (λ lists. lists ≡ [])
lists-none text plain =
    elim (cases_Bool (list_any (is_byte greater) text)) [
      | inl some ↦ (
          let inside = before (is_byte greater) text in
          let rest = after (is_byte greater) text in
          rw (lists-more text inside rest some refl refl)
          (then-has (λ _. ⊥) (λ lists. lists ≡ []) (list_in (behind is_blank inside)) _
          (list-refused (behind is_blank inside) (before-plain text plain))
          (λ _ no. absurd no))
          )
      | inr none ↦ rw (lists-last text none) (end-has (behind is_blank text))
    ]

profiles-has : (text : List ℕ) → IfOk (profiles_at Need text) (λ lists. lists ≡ [])
unfolding profiles_at
profiles-has text =
    if-has (λ lists. lists ≡ []) (first_is (is_byte less) (behind is_blank text)) _ _
    (λ _. tt) (λ plain. lists-none text plain)

-- ---- alternatives and entries

atom-has : (text : List ℕ) → IfOk (atom_at Need text) IsSpelled
unfolding atom_at
atom-has text =
    then-has (λ part. is_name part.0 ≡ true) IsSpelled (name_at (behind is_blank text)) _
    (name-has _)
    (λ name named. then-has (λ part. is_spelled_qualifier part.0 ≡ true) IsSpelled
    (qualifier_at name.1) _ (qualifier-has _)
    (λ qualifier qualified. then-has IsRelation IsSpelled
    (relation_at Need (behind is_blank qualifier.1)) _ (relation-has _)
    (λ relation related. then-has (λ part. part.0 ≡ None) IsSpelled
    (archs_at Need (behind is_blank relation.1)) _ (archs-has _)
    (λ archs everywhere. then-has (λ lists. lists ≡ []) IsSpelled
    (profiles_at Need archs.1) _ (profiles-has _)
    (λ profiles whatever. record {
      name = named;
      qualifier = qualified;
      relation = related;
      archs = everywhere;
      profiles = whatever;
    })))))

-- an alternative that is read is one that is spelled
pub alternative-has : (text : List ℕ) → IfOk (alternative_at Need text) IsSpelled
unfolding alternative_at
alternative-has text =
    if-has IsSpelled (is_empty_text text) _ _ (λ _. tt) (λ _. atom-has text)

-- so are those of an entry
pub entry-has : (text : List ℕ) → IfOk (entry_at Need text) (All IsSpelled)
unfolding entry_at
entry-has text =
    traverse-has (alternative_at Need) IsSpelled alternative-has (slice_split (is_byte bar) text)
