-- Entries that were spelled are read again, and the bytes that they are spelled with.
use Rattle.std.proofs.Common.{◌≡◌, ℕ, Bool, true, false, not, ◌&&◌, ◌||◌, ◌==◌, List, [], ◌∷◌, ◌++◌, refl, sym, ap, ◌∙◌, append_assoc, Option, Some, None, Ok, IfOk, All, true≢false}
use Rattle.std.specs.Prelude.{codes, nat_le, length}
use Rattle.std.proofs.lemmas.Bool.{and_parts, and_from, or_from, or_left, or_right}
use Rattle.std.proofs.lemmas.List.{append-nil}
use Rattle.std.proofs.lemmas.List.Elements.{All-head, All-tail}
use Rattle.std.proofs.lemmas.List.Folds.{list_all-append, list_any-append}
use Rattle.std.specs.List.{list_all, list_any, slice_split}
use Rattle.std.specs.Result.{is_ok}
use Rattle.deb_text.specs.Common.{is_byte, is_blank, is_lower, is_name_byte, is_qualifier_byte, is_operator_byte, is_nil, first_is, traverse, is_name}
use Rattle.deb_text.proofs.CarriedLaws.{then-has, always, has-ok}
use Rattle.deb_text.proofs.PartLaws.{split-none, split-again, split-cons}
use Rattle.deb_text.proofs.TestLaws.{all-weaker, none-other}
use Rattle.deb_version.specs.Grammar.{is_upstream_byte, version_at}
use Rattle.deb_version.proofs.ByteLaws.{version-bytes}
use Rattle.deb_relation.specs.declared.kind.Kind.TheVariants.{Need}
use Rattle.deb_relation.specs.declared.operator.Op.{Op}
use Rattle.deb_relation.specs.declared.operator.Op.TheVariants.{Earlier, EarlierOrEqual, Equal, LaterOrEqual, Later}
use Rattle.deb_relation.specs.Field.{alternative_at, entry_at}
use Rattle.deb_relation.specs.Marks.{bar}
use Rattle.deb_relation.specs.Relations.{Atom, Entry}
use Rattle.deb_relation.specs.Spelling.{relation_text, qualifier_text, atom_text, more_text, entry_text}
use Rattle.deb_relation.proofs.ReadLaws.{is_spelled_qualifier, is_spelled_relation, IsSpelled, alternative-has, entry-has}
use Rattle.deb_relation.proofs.SpellingLaws.{alternative-again}

-- ---- bytes

-- a byte of an alternative: no newline, no comma and no bar
abbrev pub is_atom_byte : ℕ → Bool
is_atom_byte b =
    is_upstream_byte true b || (is_name_byte b || (is_qualifier_byte b
    || (is_operator_byte b || (b == 32 || (b == 40 || b == 41)))))

upstream-atom : (b : ℕ) → is_upstream_byte true b ≡ true → is_atom_byte b ≡ true
upstream-atom b is = or_left (is_upstream_byte true b) _ is

name-atom : (b : ℕ) → is_name_byte b ≡ true → is_atom_byte b ≡ true
name-atom b is = or_right (is_upstream_byte true b) _ (or_left (is_name_byte b) _ is)

qualifier-atom : (b : ℕ) → is_qualifier_byte b ≡ true → is_atom_byte b ≡ true
qualifier-atom b is =
    or_right (is_upstream_byte true b) _
    (or_right (is_name_byte b) _ (or_left (is_qualifier_byte b) _ is))

name-bytes : (name : List ℕ) → is_name name ≡ true → list_all is_atom_byte name ≡ true
name-bytes name is =
    all-weaker is_name_byte is_atom_byte name-atom name
    (and_parts (nat_le 2 (length name) && first_is is_lower name) _ is).1

qualifier-bytes : (qualifier : Option (List ℕ)) → is_spelled_qualifier qualifier ≡ true
    → list_all is_atom_byte (qualifier_text qualifier) ≡ true
qualifier-bytes None is = refl
qualifier-bytes (Some qualifier) is =
    all-weaker is_qualifier_byte is_atom_byte qualifier-atom qualifier
    (and_parts (not (is_nil qualifier)) _ is).1

closed-bytes : (version : List ℕ) → is_ok (version_at version) ≡ true
    → list_all is_atom_byte (version ++ 41 ∷ []) ≡ true
closed-bytes version is =
    list_all-append is_atom_byte version (41 ∷ [])
    ∙ and_from (list_all is_atom_byte version) true
    (all-weaker (is_upstream_byte true) is_atom_byte upstream-atom version
    (version-bytes version is)) refl

relation-bytes : (relation : Option (Op × List ℕ)) → is_spelled_relation relation ≡ true
    → list_all is_atom_byte (relation_text relation) ≡ true
relation-bytes None is = refl
relation-bytes (Some (op, version)) is =
    by op (closed-bytes version (and_parts (is_ok (version_at version)) _ is).0) where
      by : (op : Op) → list_all is_atom_byte (version ++ 41 ∷ []) ≡ true
          → list_all is_atom_byte (relation_text (Some (op, version))) ≡ true
      by Earlier are = are
      by EarlierOrEqual are = are
      by Equal are = are
      by LaterOrEqual are = are
      by Later are = are

pub atom-text-bytes : (atom : Atom) → IsSpelled atom
    → list_all is_atom_byte (atom_text atom) ≡ true
unfolding atom_text
atom-text-bytes atom is =
    let front = atom.name ++ qualifier_text atom.qualifier in
    list_all-append is_atom_byte front (relation_text atom.relation)
    ∙ and_from (list_all is_atom_byte front) (list_all is_atom_byte (relation_text atom.relation))
    (list_all-append is_atom_byte atom.name (qualifier_text atom.qualifier)
    ∙ and_from (list_all is_atom_byte atom.name)
    (list_all is_atom_byte (qualifier_text atom.qualifier))
    (name-bytes atom.name is.name) (qualifier-bytes atom.qualifier is.qualifier))
    (relation-bytes atom.relation is.relation)

-- a byte of an entry: no newline and no comma
abbrev pub is_entry_byte : ℕ → Bool
is_entry_byte b = is_atom_byte b || b == bar

atom-entry : (b : ℕ) → is_atom_byte b ≡ true → is_entry_byte b ≡ true
atom-entry b is = or_left (is_atom_byte b) (b == bar) is

more-text-bytes : (atoms : Entry) → All IsSpelled atoms
    → list_all is_entry_byte (more_text atoms) ≡ true
more-text-bytes [] are = refl
more-text-bytes (a ∷ more) are =
    list_all-append is_entry_byte (codes " | " ++ atom_text a) (more_text more)
    ∙ and_from (list_all is_entry_byte (codes " | " ++ atom_text a))
    (list_all is_entry_byte (more_text more))
    (all-weaker is_atom_byte is_entry_byte atom-entry (atom_text a)
    (atom-text-bytes a (All-head IsSpelled a more are)))
    (more-text-bytes more (All-tail IsSpelled a more are))

pub entry-text-bytes : (entry : Entry) → All IsSpelled entry
    → list_all is_entry_byte (entry_text entry) ≡ true
entry-text-bytes [] are = refl
entry-text-bytes (a ∷ more) are =
    list_all-append is_entry_byte (atom_text a) (more_text more)
    ∙ and_from (list_all is_entry_byte (atom_text a)) (list_all is_entry_byte (more_text more))
    (all-weaker is_atom_byte is_entry_byte atom-entry (atom_text a)
    (atom-text-bytes a (All-head IsSpelled a more are)))
    (more-text-bytes more (All-tail IsSpelled a more are))

-- ---- entries

-- no bar stands in an alternative with blanks before and behind it
no-bar : (before after : List ℕ) (atom : Atom) → IsSpelled atom
    → list_all is_blank before ≡ true → list_all is_blank after ≡ true
    → list_any (is_byte bar) (before ++ (atom_text atom ++ after)) ≡ false
no-bar before after atom is blank_before blank_after =
    list_any-append (is_byte bar) before (atom_text atom ++ after)
    ∙ or_from (list_any (is_byte bar) before) (list_any (is_byte bar) (atom_text atom ++ after))
    (none-other is_blank bar refl before blank_before)
    (list_any-append (is_byte bar) (atom_text atom) after
    ∙ or_from (list_any (is_byte bar) (atom_text atom)) (list_any (is_byte bar) after)
    (none-other is_atom_byte bar refl (atom_text atom) (atom-text-bytes atom is))
    (none-other is_blank bar refl after blank_after))

-- the first alternative and its blanks, then the bar
bar-after : (before : List ℕ) (a b : Atom) (more : Entry)
    → before ++ (atom_text a ++ more_text (b ∷ more))
    ≡ (before ++ (atom_text a ++ 32 ∷ [])) ++ 124 ∷ 32 ∷ (atom_text b ++ more_text more)
bar-after before a b more =
    let rest = 124 ∷ 32 ∷ (atom_text b ++ more_text more) in
    sym (append_assoc before (atom_text a ++ 32 ∷ []) rest
    ∙ ap (λ text. before ++ text) (append_assoc (atom_text a) (32 ∷ []) rest))

alternatives-again : (before : List ℕ) → list_all is_blank before ≡ true → (a : Atom) (more : Entry)
    → IsSpelled a → All IsSpelled more
    → traverse (alternative_at Need)
    (slice_split (is_byte bar) (before ++ (atom_text a ++ more_text more))) ≡ Ok (a ∷ more)
unfolding traverse
alternatives-again before blank a [] is are =
    rw (
      split-none (is_byte bar) (before ++ (atom_text a ++ []))
          (no-bar before [] a is blank refl),
      alternative-again before [] blank refl a is,
    ) refl
alternatives-again before blank a (b ∷ bs) is are =
    let first = before ++ (atom_text a ++ 32 ∷ []) in
    let rest = 32 ∷ (atom_text b ++ more_text bs) in
    ap (λ text. traverse (alternative_at Need) (slice_split (is_byte bar) text))
    (bar-after before a b bs)
    ∙ rw (
      split-again (is_byte bar) first rest 124 (no-bar before (32 ∷ []) a is blank refl) refl,
      alternative-again before (32 ∷ []) blank refl a is,
      alternatives-again (32 ∷ []) refl b bs (All-head IsSpelled b bs are)
          (All-tail IsSpelled b bs are),
    ) refl

-- an entry, with blanks before it
pub entry-again : (before : List ℕ) → list_all is_blank before ≡ true → (entry : Entry)
    → All IsSpelled entry → not (is_nil entry) ≡ true
    → entry_at Need (before ++ entry_text entry) ≡ Ok entry
unfolding entry_at
entry-again before blank [] are some = absurd (true≢false (sym some))
entry-again before blank (a ∷ more) are some =
    alternatives-again before blank a more (All-head IsSpelled a more are)
    (All-tail IsSpelled a more are)

-- an entry has an alternative
pub entry-some : (text : List ℕ) → IfOk (entry_at Need text) (λ entry. not (is_nil entry) ≡ true)
unfolding entry_at traverse
entry-some text =
    let cut = split-cons (is_byte bar) text in
    rw cut.2
    (then-has (λ _. Unit {0}) (λ entry. not (is_nil entry) ≡ true)
    (alternative_at Need cut.0) _ (always (alternative_at Need cut.0))
    (λ a _. then-has (λ _. Unit {0}) (λ entry. not (is_nil entry) ≡ true)
    (traverse (alternative_at Need) cut.1) _ (always (traverse (alternative_at Need) cut.1))
    (λ more _. refl)))

-- ---- the laws

pub read-alternatives-again : (text : List ℕ) (atom : Atom) → alternative_at Need text ≡ Ok atom
    → alternative_at Need (atom_text atom) ≡ Ok atom
read-alternatives-again text atom is =
    ap (alternative_at Need) (sym (append-nil (atom_text atom)))
    ∙ alternative-again [] [] refl refl atom
    (has-ok IsSpelled (alternative_at Need text) atom (alternative-has text) is)

pub read-entries-again : (text : List ℕ) (entry : Entry) → entry_at Need text ≡ Ok entry
    → entry_at Need (entry_text entry) ≡ Ok entry
read-entries-again text entry is =
    entry-again [] refl entry
    (has-ok (All IsSpelled) (entry_at Need text) entry (entry-has text) is)
    (has-ok (λ e. not (is_nil e) ≡ true) (entry_at Need text) entry (entry-some text) is)
