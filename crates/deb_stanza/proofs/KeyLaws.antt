-- The keys of names, and those that a table has.
use Rattle.std.proofs.Common.{◌≡◌, ℕ, zero, suc, ◌<◌, ◌≤◌, true, false, ◌&&◌, List, [], ◌∷◌, ◌++◌, length, map, drop, get_or, None, refl, sym, ap, ◌∙◌, arith, inl, inr}
use Rattle.std.specs.List.{list_all, list_any}
use Rattle.std.proofs.lemmas.Bool.{cases_Bool, and_from, and_parts}
use Rattle.std.proofs.lemmas.List.{get_or-map, length-map, map_push}
use Rattle.std.proofs.lemmas.List.Folds.{list_all-append}
use Rattle.deb_text.proofs.ListLaws.{bytes-same}
use Rattle.deb_stanza.specs.declared.table.Start.{Start}
use Rattle.deb_stanza.specs.Cut.{IsCut, onto_last}
use Rattle.deb_stanza.specs.Keys.{StandBelow, has_colon, key_in, key_of, text_key}
use Rattle.deb_stanza.specs.Stanza.{name_of, same_name}
use Rattle.deb_stanza.specs.View.{first_of_start, own, texts_in, value_named}
use Rattle.deb_stanza.proofs.NameLaws.{name-append, colons-longer}
use Rattle.deb_stanza.proofs.TableLaws.{length-texts, texts-longer, texts-push}

-- ---- names

-- a name of another key is another
pub other-key : (a b : List ℕ) → (key_of b ≡ key_of a → ⊥) → same_name a b ≡ false
other-key a b other =
    elim (cases_Bool (same_name a b)) [
      | inl same ↦ absurd (other (sym (ap key_in (bytes-same _ _ same))))
      | inr is ↦ is
    ]

-- so no field of another key has a value for it
pub other-value : (name text : List ℕ) → (text_key text ≡ key_of name → ⊥)
    → None ≡ value_named name text
other-value name text other = rw (other-key name (name_of text) other) refl

-- ---- a field that goes on

keys-longer : (more : List ℕ) (ts : List (List ℕ)) → list_all has_colon ts ≡ true
    → map text_key (onto_last (λ t. t ++ more) ts) ≡ map text_key ts
keys-longer more [] have = refl
keys-longer more (t ∷ []) have =
    ap (λ name. key_of name ∷ []) (name-append t more (and_parts (has_colon t) true have).0)
keys-longer more (t ∷ u ∷ us) have =
    ap (λ keys. text_key t ∷ keys)
    (keys-longer more (u ∷ us) (and_parts (has_colon t) (list_all has_colon (u ∷ us)) have).1)

-- ---- the keys of a table

module _ (bytes fields keys : List ℕ) (keys_are : keys ≡ map text_key (texts_in bytes fields)) where
  pub length-keys : length keys ≡ length fields
  length-keys =
      ap length keys_are ∙ length-map (texts_in bytes fields) text_key ∙ length-texts bytes fields

  pub key-at : (i d : ℕ) → i < length fields
      → get_or keys i d ≡ text_key (get_or (texts_in bytes fields) i [])
  key-at i d lt =
      ap (λ ks. get_or ks i d) keys_are
      ∙ get_or-map text_key (texts_in bytes fields) i [] d
      (omega (arith, length-texts bytes fields, lt))

module _ (bytes fields : List ℕ) (paragraphs : List Start) (text : List ℕ)
    (fields_are : IsCut own (length bytes) fields)
    (paragraphs_are : IsCut first_of_start (length fields) paragraphs)
    (keys : List ℕ) (keys_are : keys ≡ map text_key (texts_in bytes fields))
    (colons_are : list_all has_colon (texts_in bytes fields) ≡ true) where
  pub keys-go_on : keys ≡ map text_key (texts_in (bytes ++ 10 ∷ text) fields)
  keys-go_on =
      keys_are ∙ sym (keys-longer (10 ∷ text) (texts_in bytes fields) colons_are)
      ∙ ap (map text_key) (sym (texts-longer bytes fields paragraphs text fields_are paragraphs_are))

  pub colons-go_on : list_all has_colon (texts_in (bytes ++ 10 ∷ text) fields) ≡ true
  colons-go_on =
      ap (list_all has_colon) (texts-longer bytes fields paragraphs text fields_are paragraphs_are)
      ∙ colons-longer (10 ∷ text) (texts_in bytes fields) colons_are

  pub keys-push : (key : ℕ) → key ≡ text_key text
      → keys ++ key ∷ [] ≡ map text_key (texts_in (bytes ++ text) (fields ++ length bytes ∷ []))
  keys-push key key_is =
      (λ j. keys_are j ++ key_is j ∷ []) ∙ sym (map_push text_key (texts_in bytes fields) text)
      ∙ ap (map text_key) (sym (texts-push bytes fields paragraphs text fields_are paragraphs_are))

  pub colons-push : has_colon text ≡ true
      → list_all has_colon (texts_in (bytes ++ text) (fields ++ length bytes ∷ [])) ≡ true
  colons-push colon =
      ap (list_all has_colon) (texts-push bytes fields paragraphs text fields_are paragraphs_are)
      ∙ list_all-append has_colon (texts_in bytes fields) (text ∷ [])
      ∙ and_from (list_all has_colon (texts_in bytes fields)) (has_colon text && true) colons_are
      (rw colon refl)

-- ---- how far a key reaches

none-from : (name : List ℕ) (texts : List (List ℕ)) (start : ℕ)
    → ((i : ℕ) → start ≤ i → i < length texts → text_key (get_or texts i []) ≡ key_of name → ⊥)
    → list_any (same_name name) (map name_of (drop start texts)) ≡ false
none-from name [] zero none = refl
none-from name [] (suc start) none = refl
none-from name (t ∷ ts) zero none =
    rw (other-key name (name_of t) (none 0 (omega arith) (omega arith)))
    (none-from name ts zero (λ i le lt. none (suc i) (omega arith) (omega arith)))
none-from name (t ∷ ts) (suc start) none =
    none-from name ts start (λ i le lt. none (suc i) (omega arith) (omega arith))

-- no field from a place on has the name, where its key reaches no further
pub none-reached : (bytes fields keys counts name : List ℕ) (key start : ℕ)
    → keys ≡ map text_key (texts_in bytes fields) → StandBelow counts keys → key ≡ key_of name
    → get_or counts key 0 ≤ start
    → list_any (same_name name) (map name_of (drop start (texts_in bytes fields))) ≡ false
none-reached bytes fields keys counts name key start keys_are below key_is reach =
    none-from name (texts_in bytes fields) start (λ i le lt is.
    let within : i < length fields = omega (arith, lt, length-texts bytes fields) in
    let same : get_or keys i 0 ≡ key =
    key-at bytes fields keys keys_are i 0 within ∙ is ∙ sym key_is in
    let under = below i (omega (arith, within, length-keys bytes fields keys keys_are)) in
    let high : i < get_or counts key 0 = rw same at under in
    omega (arith, high, le, reach))
