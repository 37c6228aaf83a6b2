-- A printed list is read again, item by item.
use Rattle.std.proofs.Common.{◌≡◌, ℕ, true, false, not, List, [], ◌∷◌, ◌++◌, map, filter, refl, ap, ◌∙◌, Ok, All}
use Rattle.std.proofs.lemmas.List.Elements.{All-head, All-tail}
use Rattle.std.specs.List.{list_all, list_any, flat_map, slice_split}
use Rattle.std.specs.Result.{is_ok}
use Rattle.deb_text.specs.Common.{is_byte, traverse, is_name}
use Rattle.deb_text.proofs.PartLaws.{parts-again}
use Rattle.deb_version.specs.Grammar.{version_at}
use Rattle.deb_relation.specs.Common.{entry_at, entries_left, relations_at, is_empty_text, comma, Entry}
use Rattle.deb_relation.specs.declared.kind.Kind.TheVariants.{Provide}
use Rattle.farm_model.specs.Common.{package_of, Universe}
use Rattle.farm_model.specs.declared.types.Variant.{Variant}
use Rattle.plan_reader.specs.Listing.{name_of_number}
use Rattle.cert_text.specs.Printed.{variant_text, more_text, list_text}
use Rattle.text_laws.proofs.Items.{item_text, item_atom, item-none, item-solid, item-again}

-- a variant whose name and version are spelled as they have to be
pub record IsSpelledVariant (u : Universe) (v : Variant) : Type 0 where
  pub name : is_name (name_of_number u v.name) ≡ true
  pub version : is_ok (version_at (package_of u v).version) ≡ true

module _ (u : Universe) where
  -- the item of a variant, and what is read of it
  abbrev part : Variant → List ℕ
  part v = 32 ∷ item_text (name_of_number u v.name) (package_of u v).version

  abbrev pub entry_of : Variant → Entry
  entry_of v = item_atom (name_of_number u v.name) (package_of u v).version ∷ []

  part-plain : (v : Variant) → IsSpelledVariant u v → list_any (is_byte comma) (part v) ≡ false
  part-plain v is =
      item-none (name_of_number u v.name) (package_of u v).version is.name is.version comma
      refl refl refl
      refl

  parts-plain : (vs : List Variant) → All (IsSpelledVariant u) vs
      → list_all (λ q. not (list_any (is_byte comma) q)) (map part vs) ≡ true
  parts-plain [] are = refl
  parts-plain (v ∷ vs) are =
      rw (
        part-plain v (All-head (IsSpelledVariant u) v vs are),
        parts-plain vs (All-tail (IsSpelledVariant u) v vs are),
      ) refl

  parts-kept : (vs : List Variant) → All (IsSpelledVariant u) vs
      → filter (λ text. not (is_empty_text text)) (map part vs) ≡ map part vs
  parts-kept [] are = refl
  parts-kept (v ∷ vs) are =
      let is = All-head (IsSpelledVariant u) v vs are in
      rw (
        item-solid (name_of_number u v.name) (package_of u v).version is.name is.version,
        parts-kept vs (All-tail (IsSpelledVariant u) v vs are),
      ) refl

  parts-read : (vs : List Variant) → All (IsSpelledVariant u) vs
      → traverse (entry_at Provide) (map part vs) ≡ Ok (map entry_of vs)
  unfolding traverse
  parts-read [] are = refl
  parts-read (v ∷ vs) are =
      let is = All-head (IsSpelledVariant u) v vs are in
      rw (
        item-again (name_of_number u v.name) (package_of u v).version is.name is.version,
        parts-read vs (All-tail (IsSpelledVariant u) v vs are),
      ) refl

  more-bytes : (vs : List Variant) → more_text u vs ≡ flat_map (λ q. comma ∷ q) (map part vs)
  unfolding variant_text
  more-bytes [] = refl
  more-bytes (v ∷ vs) = ap (λ text. comma ∷ (part v ++ text)) (more-bytes vs)

  list-bytes : (v : Variant) (vs : List Variant)
      → list_text u (v ∷ vs) ≡ part v ++ flat_map (λ q. comma ∷ q) (map part vs)
  unfolding variant_text
  list-bytes v vs = ap (λ text. part v ++ text) (more-bytes vs)

  -- the entries of a printed list
  pub list-again : (vs : List Variant) → All (IsSpelledVariant u) vs
      → relations_at Provide (list_text u vs) ≡ Ok (map entry_of vs)
  unfolding relations_at entries_left traverse
  list-again [] are = refl
  list-again (v ∷ vs) are =
      let split : slice_split (is_byte comma) (list_text u (v ∷ vs)) ≡ map part (v ∷ vs) =
      ap (slice_split (is_byte comma)) (list-bytes v vs)
      ∙ parts-again (is_byte comma) comma refl (part v) (map part vs)
      (part-plain v (All-head (IsSpelledVariant u) v vs are))
      (parts-plain vs (All-tail (IsSpelledVariant u) v vs are)) in
      ap (λ texts. traverse (entry_at Provide) (filter (λ text. not (is_empty_text text)) texts))
      split
      ∙ ap (traverse (entry_at Provide)) (parts-kept (v ∷ vs) are)
      ∙ parts-read (v ∷ vs) are
