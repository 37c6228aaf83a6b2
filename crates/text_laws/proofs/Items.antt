-- An item of a list, as it is printed, is read again.
use Rattle.std.proofs.Common.{◌≡◌, ℕ, true, false, ◌&&◌, List, [], ◌∷◌, ◌++◌, length, refl, sym, ap, ◌∙◌, append_assoc, None, Some, Ok, arith, true≢false}
use Rattle.std.specs.Prelude.{codes, nat_le}
use Rattle.std.proofs.lemmas.Bool.{and_parts, or_from}
use Rattle.std.proofs.lemmas.List.Folds.{list_any-append}
use Rattle.std.specs.List.{list_all, list_any}
use Rattle.std.specs.Result.{is_ok}
use Rattle.deb_text.specs.Common.{is_byte, is_blank, is_lower, is_name_byte, is_version_byte, first_is, behind, traverse, is_name}
use Rattle.deb_text.proofs.CutLaws.{front-again, behind-again}
use Rattle.deb_text.proofs.PartLaws.{split-none}
use Rattle.deb_text.proofs.TestLaws.{all-weaker, other-byte, none-other}
use Rattle.deb_version.specs.Grammar.{version_at}
use Rattle.deb_version.proofs.ByteLaws.{is_text_byte, version-bytes}
use Rattle.deb_relation.specs.Common.{atom_at, alternative_at, entry_at, bar, Atom, archs_at, lists_at, profiles_at}
use Rattle.deb_relation.specs.declared.kind.Kind.TheVariants.{Provide}
use Rattle.deb_relation.specs.declared.operator.Op.TheVariants.{Equal}
use Rattle.deb_relation.specs.Grammar.{name_at, qualifier_at, operator_at, version_in, relation_at}

-- `NAME (= VERSION)`
abbrev pub item_text : List ℕ → List ℕ → List ℕ
item_text name version = name ++ codes " (= " ++ version ++ codes ")"

abbrev pub item_atom : List ℕ → List ℕ → Atom
item_atom name version = record {
  name = name;
  qualifier = None;
  relation = Some (Equal, version);
  archs = None;
  profiles = [];
}

module _ (name version : List ℕ) (named : is_name name ≡ true)
    (spelled : is_ok (version_at version) ≡ true) where
  texts : list_all is_text_byte version ≡ true
  texts = version-bytes version spelled

  version-byte : (b : ℕ) → is_text_byte b ≡ true → is_version_byte b ≡ true
  version-byte b is =
      rw (
        other-byte is_text_byte 32 refl b is,
        other-byte is_text_byte 9 refl b is,
        other-byte is_text_byte 10 refl b is,
        other-byte is_text_byte 41 refl b is,
      ) refl

  versions : list_all is_version_byte version ≡ true
  versions = all-weaker is_text_byte is_version_byte version-byte version texts

  name-bytes : list_all is_name_byte name ≡ true
  name-bytes = (and_parts (nat_le 2 (length name) && first_is is_lower name)
      (list_all is_name_byte name) named).1

  -- a byte that neither a name nor a version nor ` (=)` has
  pub item-none : (n : ℕ) → is_name_byte n ≡ false → is_text_byte n ≡ false
      → list_any (is_byte n) (codes " (= ") ≡ false → list_any (is_byte n) (codes ")") ≡ false
      → list_any (is_byte n) (item_text name version) ≡ false
  item-none n no_name no_text opening closing =
      list_any-append (is_byte n) (name ++ codes " (= " ++ version) (codes ")")
      ∙ or_from _ _
      (list_any-append (is_byte n) (name ++ codes " (= ") version
      ∙ or_from _ _
      (list_any-append (is_byte n) name (codes " (= ")
      ∙ or_from _ _ (none-other is_name_byte n no_name name name-bytes) opening)
      (none-other is_text_byte n no_text version texts))
      closing

  -- the bytes behind the name
  abbrev tail : List ℕ
  tail = 32 ∷ 40 ∷ 61 ∷ 32 ∷ (version ++ 41 ∷ [])

  item-bytes : item_text name version ≡ name ++ tail
  item-bytes =
      append_assoc (name ++ codes " (= ") version (codes ")")
      ∙ append_assoc name (codes " (= ") (version ++ codes ")")

  first-solid : (b : ℕ) → is_name_byte b ≡ true → is_blank b ≡ false
  first-solid b is =
      rw (
        other-byte is_name_byte 32 refl b is,
        other-byte is_name_byte 9 refl b is,
        other-byte is_name_byte 10 refl b is,
      ) refl

  name-first : (ns rest : List ℕ) → list_all is_name_byte ns ≡ true → first_is is_blank rest ≡ true
      → is_name ns ≡ true → first_is is_blank (ns ++ rest) ≡ false
  name-first [] rest are blank is = absurd (true≢false (sym is))
  name-first (b ∷ bs) rest are blank is =
      first-solid b (and_parts (is_name_byte b) (list_all is_name_byte bs) are).0

  text-first : (vs : List ℕ) → list_all is_text_byte vs ≡ true
      → first_is is_blank (vs ++ 41 ∷ []) ≡ false
  text-first [] are = refl
  text-first (b ∷ bs) are =
      let is = (and_parts (is_text_byte b) (list_all is_text_byte bs) are).0 in
      rw (
        other-byte is_text_byte 32 refl b is,
        other-byte is_text_byte 9 refl b is,
        other-byte is_text_byte 10 refl b is,
      ) refl

  name-again : name_at (name ++ tail) ≡ Ok (name, tail)
  unfolding name_at
  name-again =
      rw (
        front-again is_name_byte name tail name-bytes refl,
        behind-again is_name_byte name tail name-bytes refl,
        named,
      ) refl

  plain-again : qualifier_at tail ≡ Ok (None, tail)
  unfolding qualifier_at
  plain-again = refl

  operator-again : operator_at Provide (61 ∷ 32 ∷ (version ++ 41 ∷ []))
      ≡ Ok (Equal, 32 ∷ (version ++ 41 ∷ []))
  unfolding operator_at
  operator-again = refl

  version-again : version_in (version ++ 41 ∷ []) ≡ Ok (version, 41 ∷ [])
  unfolding version_in
  version-again =
      rw (
        front-again is_version_byte version (41 ∷ []) versions refl,
        behind-again is_version_byte version (41 ∷ []) versions refl,
        spelled,
      ) refl

  relation-again : relation_at Provide (behind is_blank tail) ≡ Ok (Some (Equal, version), [])
  unfolding relation_at
  relation-again =
      rw (
        operator-again,
        behind-again is_blank [] (version ++ 41 ∷ []) refl (text-first version texts),
        version-again,
      ) refl

  no-restrictions : archs_at Provide [] ≡ Ok (None, [])
  unfolding archs_at
  no-restrictions = refl

  no-profiles : profiles_at Provide [] ≡ Ok []
  unfolding profiles_at lists_at
  no-profiles = refl

  atom-again : atom_at Provide (32 ∷ item_text name version) ≡ Ok (item_atom name version)
  unfolding atom_at
  atom-again =
      rw (
        item-bytes,
        behind-again is_blank [] (name ++ tail) refl (name-first name tail name-bytes refl named),
        name-again,
        plain-again,
        relation-again,
        no-restrictions,
        no-profiles,
      ) refl

  -- it is more than blanks
  all-first : (text : List ℕ) → first_is is_blank text ≡ false → (length text ≡ 0 → ⊥)
      → list_all is_blank text ≡ false
  all-first [] solid some = absurd (some refl)
  all-first (b ∷ bs) solid some = rw solid refl

  name-some : (ns rest : List ℕ) → is_name ns ≡ true → length (ns ++ rest) ≡ 0 → ⊥
  name-some [] rest is e = true≢false (sym is)
  name-some (b ∷ bs) rest is e = omega (arith, e)

  pub item-solid : list_all is_blank (32 ∷ item_text name version) ≡ false
  item-solid =
      ap (list_all is_blank) item-bytes
      ∙ all-first (name ++ tail) (name-first name tail name-bytes refl named)
      (name-some name tail named)

  pub item-again : entry_at Provide (32 ∷ item_text name version)
      ≡ Ok (item_atom name version ∷ [])
  unfolding entry_at alternative_at traverse
  item-again =
      let bars : list_any (is_byte bar) (32 ∷ item_text name version) ≡ false =
      item-none bar refl refl refl refl in
      rw (
        bars,
        split-none (is_byte bar) (32 ∷ item_text name version) bars,
        item-solid,
        atom-again,
      ) refl
