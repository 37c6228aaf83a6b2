-- The names of the open paragraph, in sets.
use Rattle.std.proofs.Common.{◌≡◌, ℕ, Bool, true, false, not, ◌||◌, ◌&&◌, List, [], ◌∷◌, ◌++◌, map, Option, Some, None, IfSome, IfOk, OnOk, Result, Ok, Err, refl, sym, ap, subst, ◌∙◌, inl, inr}
use Rattle.std.specs.List.{list_any, list_all}
use Rattle.std.proofs.lemmas.Bool.{cases_Bool, and_parts, and_from, true≢false}
use Rattle.std.proofs.lemmas.List.{map_push}
use Rattle.std.proofs.lemmas.List.Folds.{list_any-append, list_all-append}
use Rattle.deb_text.proofs.ListLaws.{bytes-same}
use Rattle.deb_text.specs.Common.{is_nil, Line, answer}
use Rattle.deb_stanza.specs.Cut.{onto_last}
use Rattle.deb_stanza.specs.Draft.{State, last_texts, open_texts, open_names, longer, larger, with_head, HasFieldNames, IsFitDraft, draft_state}
use Rattle.deb_stanza.specs.Keys.{has_colon}
use Rattle.deb_stanza.specs.Names.{lowered, has, HasNames}
use Rattle.deb_stanza.specs.declared.draft.Draft.{Draft}
use Rattle.deb_stanza.specs.declared.names.Names.{Names}
use Rattle.deb_stanza.specs.declared.table.Start.{Start}
use Rattle.deb_stanza.specs.Stanza.{is_colon, name_of, same_name, name_fault, head_fault, told_at}
use Rattle.deb_stanza.specs.View.{Raw, raws_in, table_raws}

-- ---- the texts of the last paragraph

pub last_texts-longer : (line : List ℕ) (ps : List Raw)
    → last_texts (onto_last (longer line) ps) ≡ onto_last (λ t. t ++ 10 ∷ line) (last_texts ps)
last_texts-longer line [] = refl
last_texts-longer line (p ∷ []) = refl
last_texts-longer line (p ∷ q ∷ []) = refl
last_texts-longer line (p ∷ q ∷ r ∷ rs) = last_texts-longer line (q ∷ r ∷ rs)

pub last_texts-larger : (text : List ℕ) (ps : List Raw) → is_nil ps ≡ false
    → last_texts (onto_last (larger text) ps) ≡ last_texts ps ++ text ∷ []
last_texts-larger text [] some = absurd cc
last_texts-larger text (p ∷ []) some = refl
last_texts-larger text (p ∷ q ∷ []) some = refl
last_texts-larger text (p ∷ q ∷ r ∷ rs) some = last_texts-larger text (q ∷ r ∷ rs) refl

pub last_texts-push : (p : Raw) (ps : List Raw) → last_texts (ps ++ p ∷ []) ≡ p.texts
last_texts-push p [] = refl
last_texts-push p (q ∷ []) = refl
last_texts-push p (q ∷ r ∷ rs) = last_texts-push p (r ∷ rs)

-- ---- names stay where a text goes on

pub name-append : (text more : List ℕ) → has_colon text ≡ true → name_of (text ++ more) ≡ name_of text
name-append [] more some = absurd cc
name-append (b ∷ bs) more some =
    elim (cases_Bool (is_colon b)) [
      | inl is ↦ rw is refl
      | inr is ↦ rw is (ap (λ name. b ∷ name) (name-append bs more (rw is at some)))
    ]

or_left : (a b : Bool) → a ≡ true → (a || b) ≡ true
or_left a b is = rw is refl

pub names-longer : (more : List ℕ) (ts : List (List ℕ)) → list_all has_colon ts ≡ true
    → map name_of (onto_last (λ t. t ++ more) ts) ≡ map name_of ts
names-longer more [] have = refl
names-longer more (t ∷ []) have =
    ap (λ name. name ∷ []) (name-append t more (and_parts (has_colon t) true have).0)
names-longer more (t ∷ u ∷ us) have =
    ap (λ names. name_of t ∷ names)
    (names-longer more (u ∷ us) (and_parts (has_colon t) (list_all has_colon (u ∷ us)) have).1)

pub colons-longer : (more : List ℕ) (ts : List (List ℕ)) → list_all has_colon ts ≡ true
    → list_all has_colon (onto_last (λ t. t ++ more) ts) ≡ true
colons-longer more [] have = refl
colons-longer more (t ∷ []) have =
    and_from (has_colon (t ++ more)) true
    (list_any-append is_colon t more
    ∙ or_left (has_colon t) (has_colon more) (and_parts (has_colon t) true have).0) refl
colons-longer more (t ∷ u ∷ us) have =
    let parts = and_parts (has_colon t) (list_all has_colon (u ∷ us)) have in
    and_from (has_colon t) (list_all has_colon (onto_last (λ t. t ++ more) (u ∷ us))) parts.0
    (colons-longer more (u ∷ us) parts.1)

pub known-longer : (names : Option Names) (more : List ℕ) (ts : List (List ℕ))
    → HasFieldNames names ts → HasFieldNames names (onto_last (λ t. t ++ more) ts)
known-longer names more ts known = record {
  names =
      subst (λ given. IfSome names (λ set. HasNames set given))
      (sym (names-longer more ts known.colons)) known.names;
  colons = colons-longer more ts known.colons;
}

-- ---- a new name

not_true : (b : Bool) → not b ≡ true → b ≡ false
not_true true is = absurd cc
not_true false is = refl

-- no name that the set has not is among those that it has
pub none-same : (names : Names) (given : List (List ℕ)) (name : List ℕ) → HasNames names given
    → has names (lowered name) ≡ false → list_any (same_name name) given ≡ false
none-same names [] name all out = refl
none-same names (n ∷ ns) name all out =
    let parts = and_parts (has names (lowered n)) _ all in
    elim (cases_Bool (same_name name n)) [
      | inl same ↦ absurd (true≢false (sym (ap (has names)
          (bytes-same (lowered name) (lowered n) same) ∙ parts.0) ∙ out))
      | inr other ↦ rw other (none-same names ns name parts.1 out)
    ]

-- all names that it had, and one more
pub names-more : (old new : Names) (given : List (List ℕ)) (name : List ℕ) → HasNames old given
    → ((key : List ℕ) → has old key ≡ true → has new key ≡ true)
    → has new (lowered name) ≡ true → HasNames new (given ++ name ∷ [])
names-more old new [] name all kept there = and_from _ true there refl
names-more old new (n ∷ ns) name all kept there =
    let parts = and_parts (has old (lowered n)) _ all in
    and_from _ _ (kept (lowered n) parts.0) (names-more old new ns name parts.1 kept there)

-- the same in front of them
pub names-before : (old new : Names) (given : List (List ℕ)) → HasNames old given
    → ((key : List ℕ) → has old key ≡ true → has new key ≡ true) → HasNames new given
names-before old new [] all kept = refl
names-before old new (n ∷ ns) all kept =
    let parts = and_parts (has old (lowered n)) _ all in
    and_from _ _ (kept (lowered n) parts.0) (names-before old new ns parts.1 kept)

-- the same of what an insertion tells
pub told-new : {E : Type 0} (told : Result Bool E) (names : Names) (given : List (List ℕ))
    (name : List ℕ) → HasNames names given
    → IfOk told (λ is_new. is_new ≡ not (has names (lowered name)))
    → IfOk told (λ is_new. is_new ≡ true → list_any (same_name name) given ≡ false)
told-new (Err e) names given name all is = is
told-new (Ok is_new) names given name all is =
    λ new. none-same names given name all (not_true _ (sym is ∙ new))

pub told-names : {E : Type 0} (told : Result Bool E) (old new : Names) (given : List (List ℕ))
    (name : List ℕ) → HasNames old given
    → OnOk told ((key : List ℕ) → has old key ≡ true → has new key ≡ true)
    → OnOk told (has new (lowered name) ≡ true) → OnOk told (HasNames new (given ++ name ∷ []))
told-names (Err e) old new given name all kept there = kept
told-names (Ok is_new) old new given name all kept there =
    names-more old new given name all kept there

-- ---- a line that begins a field

ok≢err : {X F : Type 0} {x : X} {f : F} → Err f ≡ Ok x → ⊥
ok≢err e = absurd cc

pub told-ok : {X : Type 0} (line : ℕ) (code : Option ℕ) (x y : X)
    → answer (told_at line code) x ≡ Ok y → (code ≡ None) × (x ≡ y)
told-ok line None x y is = (refl, (cc))
told-ok line (Some code) x y is = absurd (ok≢err is)

-- it is the first field of its name
pub head-fine : (given : List (List ℕ)) (line : List ℕ) → name_fault line ≡ None
    → list_any (same_name (name_of line)) given ≡ false → head_fault given line ≡ None
head-fine given line none is = rw (none, is) refl

open_texts-head : (raws : List Raw) (is_open : Bool) (l : Line)
    → (is_open ≡ true → is_nil raws ≡ false)
    → open_texts (with_head (record { raws = raws; is_open = is_open }) l)
    ≡ open_texts (record { raws = raws; is_open = is_open }) ++ l.1 ∷ []
open_texts-head raws true l some = last_texts-larger l.1 raws (some refl)
open_texts-head raws false l some = last_texts-push (record { line = l.0; texts = l.1 ∷ [] }) raws

nil-raws : (bytes fields : List ℕ) (paragraphs : List Start) → is_nil paragraphs ≡ false
    → is_nil (raws_in bytes fields paragraphs) ≡ false
nil-raws bytes fields [] some = absurd cc
nil-raws bytes fields (p ∷ ps) some = refl

-- the names after such a line
pub known-head : (d : Draft) (more : Option Names) (s : State) (l : Line)
    (name : List ℕ) → IsFitDraft d → s ≡ with_head (draft_state d) l
    → name ≡ name_of l.1 → has_colon l.1 ≡ true
    → IfSome more (λ set. HasNames set (open_names (draft_state d) ++ name ∷ []))
    → HasFieldNames more (open_texts s)
known-head d more s l name fit is name_is colon has =
    let some = λ (o : d.is_open ≡ true).
    nil-raws d.table.bytes.items d.table.fields.items d.table.paragraphs.items (fit.some o) in
    let ts = open_texts (draft_state d) in
    subst (HasFieldNames more)
    (sym (ap open_texts is ∙ open_texts-head (table_raws d.table) d.is_open l some))
    (record {
      names =
          subst (λ (given : List (List ℕ)). IfSome more (λ set. HasNames set given))
          (ap (λ (n : List ℕ). map name_of ts ++ n ∷ []) name_is ∙ sym (map_push name_of ts l.1))
          has;
      colons =
          list_all-append has_colon ts (l.1 ∷ [])
          ∙ and_from (list_all has_colon ts) (has_colon l.1 && true) fit.known.colons
          (rw colon refl);
    })
