-- Files of a folder share no name where the names in it differ.
use Rattle.std.proofs.Common.{◌≡◌, ◌≢◌, ℕ, Bool, true, false, not, ◌&&◌, List, [], ◌∷◌, ◌++◌, All, Option, Some, None, codes, map, refl, sym, subst, ◌∙◌}
use Rattle.std.specs.Str.{bytes_eq}
use Rattle.std.proofs.lemmas.Bool.{and_parts, false≢true}
use Rattle.std.proofs.lemmas.List.{append_cancel_left}
use Rattle.std.proofs.lemmas.List.Elements.{All-nil, All-cons}
use Rattle.farm_commands.specs.TextFiles.{AreApart, FileOf, IsApart, file_in, files_in, path_in, rest_files_in, slash_after}
use Rattle.import_farm.specs.declared.imported.ImportedTexts.{ImportedTexts}
use Rattle.rest_farm.specs.declared.judgement.RestTexts.{RestTexts}

-- a name in a folder, and the text of its file
record Named : Type 0 where
  name : List ℕ
  text : List ℕ

abbrev name_of : Named → List ℕ
name_of n = n.name

abbrev beside_name : List ℕ → List ℕ
beside_name a = a ++ codes ".new"

-- a name is itself, and not that of the file beside it
abbrev is_itself : List ℕ → Bool
is_itself a =
    bytes_eq a a && (bytes_eq (beside_name a) (beside_name a) && not (bytes_eq a (beside_name a)))

abbrev is_other : (a b : List ℕ) → Bool
is_other a b =
    (not (bytes_eq a b) && not (bytes_eq (beside_name a) (beside_name b)))
    && (not (bytes_eq a (beside_name b)) && not (bytes_eq (beside_name a) b))

abbrev are_others : List ℕ → List (List ℕ) → Bool
are_others a [] = true
are_others a (b ∷ rest) = is_other a b && are_others a rest

abbrev are_apart : List (List ℕ) → Bool
are_apart [] = true
are_apart (a ∷ rest) = is_itself a && (are_others a rest && are_apart rest)

is-not : (x : Bool) → not x ≡ true → x ≡ false
is-not true e = absurd (false≢true e)
is-not false e = refl

module _ (folder : List ℕ) where
  abbrev file_of_name : Named → FileOf
  file_of_name n = file_in folder n.name n.text

  -- other names are other paths
  paths-differ : (a b : List ℕ) → bytes_eq a a ≡ true → not (bytes_eq a b) ≡ true
      → path_in folder a ≢ path_in folder b
  paths-differ a b self other same =
      let names : a ≡ b = append_cancel_left (slash_after folder) a b
      (append_cancel_left folder (slash_after folder ++ a) (slash_after folder ++ b) same) in
      false≢true
      (sym (subst (λ name. bytes_eq a name ≡ false) (sym names) (is-not (bytes_eq a b) other)) ∙ self)

  two-apart : (n m : Named) → is_itself n.name ≡ true → is_other n.name m.name ≡ true
      → IsApart (file_of_name n) (file_of_name m)
  two-apart n m itself other =
      let self = and_parts _ _ itself in
      let beside_self = and_parts _ _ self.1 in
      let halves = and_parts _ _ other in
      let own = and_parts _ _ halves.0 in
      let across = and_parts _ _ halves.1 in record {
        own = paths-differ n.name m.name self.0 own.0;
        beside = paths-differ (beside_name n.name) (beside_name m.name) beside_self.0 own.1;
        own_beside = paths-differ n.name (beside_name m.name) self.0 across.0;
        beside_own = paths-differ (beside_name n.name) m.name beside_self.0 across.1;
      }

  one-apart : (n : Named) (list : List Named) → is_itself n.name ≡ true
      → are_others n.name (map name_of list) ≡ true
      → All (IsApart (file_of_name n)) (map file_of_name list)
  one-apart n [] itself others = All-nil (IsApart (file_of_name n))
  one-apart n (m ∷ list) itself others =
      let both = and_parts _ _ others in
      All-cons (IsApart (file_of_name n)) (file_of_name m) (map file_of_name list)
      (two-apart n m itself both.0) (one-apart n list itself both.1)

  names-apart : (list : List Named) → are_apart (map name_of list) ≡ true
      → AreApart (map file_of_name list)
  names-apart [] are = tt
  names-apart (n ∷ list) are =
      let both = and_parts _ _ are in
      let self = and_parts _ _ both.0 in
      let beside_self = and_parts _ _ self.1 in
      let later = and_parts _ _ both.1 in (
        paths-differ n.name (beside_name n.name) self.0 beside_self.1,
        one-apart n list both.0 later.0,
        names-apart list later.1,
      )

-- of an import
pub files-apart : (folder : List ℕ) (texts : ImportedTexts) (chosen : Option (List ℕ))
    → AreApart (files_in folder texts chosen)
files-apart folder texts None =
    names-apart folder
    (record { name = codes "packages"; text = texts.packages.items }
    ∷ record { name = codes "sources"; text = texts.sources.items }
    ∷ record { name = codes "farm"; text = texts.farm.items } ∷ []) refl
files-apart folder texts (Some text) =
    names-apart folder
    (record { name = codes "packages"; text = texts.packages.items }
    ∷ record { name = codes "sources"; text = texts.sources.items }
    ∷ record { name = codes "farm"; text = texts.farm.items }
    ∷ record { name = codes "wish"; text = text } ∷ []) refl

-- of what is left of a run
pub rest-files-apart : (folder : List ℕ) (texts : RestTexts) (sketch : List ℕ)
    → AreApart (rest_files_in folder texts sketch)
rest-files-apart folder texts sketch =
    names-apart folder
    (record { name = codes "packages"; text = texts.packages.items }
    ∷ record { name = codes "sources"; text = texts.sources.items }
    ∷ record { name = codes "farm"; text = texts.farm.items }
    ∷ record { name = codes "sketch"; text = sketch } ∷ []) refl
