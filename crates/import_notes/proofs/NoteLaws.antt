-- Notes on what nothing meets, one behind another.
use Rattle.std.proofs.Common.{◌≡◌, ℕ, ◌+◌, ◌<◌, Bool, true, List, [], ◌∷◌, ◌++◌, length, take, get_or, refl, sym, ap, subst, ◌∙◌, inl, inr, append_assoc}
use Rattle.std.proofs.lemmas.Bool.{or_cases}
use Rattle.std.proofs.lemmas.List.{append-nil, take_more}
use Rattle.std.proofs.lemmas.List.Elements.{All-cons, All-nil, All-append, All-head, All-tail, All-weaker, Contains-append_left, Contains-get_or, Contains-push}
use Rattle.std.proofs.lemmas.Map.Lookups.{exact_bytes}
use Rattle.std.proofs.lemmas.Map.Views.{All-insert_key}
use Rattle.std.specs.BTreeMap.{is_at}
use Rattle.std.specs.BTreeSet.{BTreeSet, insert_key}
use Rattle.std.specs.Cmp.Lexicographic.{slice_cmp}
use Rattle.std.specs.Global.{Vec}
use Rattle.std.specs.List.{Contains, concat, list_any}
use Rattle.std.specs.Ordering.{is_eq, nat_cmp}
use Rattle.std.specs.Prelude.{All}
use Rattle.std.specs.declared.cmp.Ordering.{Ordering}
use Rattle.std.specs.declared.cmp.Ordering.TheVariants.{Less, Equal, Greater}
use Rattle.deb_relation.specs.Spelling.{entry_text}
use Rattle.farm_lookup.specs.declared.needs.Unmet.{Unmet}
use Rattle.import_farm.specs.Notes.{AreNotesOf, HasNoteOn, HasNotes, IsNoteOf, IsNoteOfOne, IsNoteOn, IsPieceOf}
use Rattle.import_farm.specs.Rewriting.{GetsBehind}

abbrev pub key_cmp : Vec ℕ → Vec ℕ → Ordering
key_cmp a b = slice_cmp nat_cmp a.items b.items

-- The notes so far: each key that was seen has one, and so has each need so far.
pub record AreNoted (unmet : List Unmet) (count : ℕ) (seen : BTreeSet (Vec ℕ)) (old new : List ℕ)
    : Type 0 where
  pub lines : List (List ℕ)
  pub text : new ≡ old ++ concat lines
  pub only : All (λ line. IsNoteOfOne unmet line) lines
  pub known : All (λ (key : Vec ℕ). HasNoteOn lines key.items) seen.keys
  pub each : All (λ need. HasNoteOn lines (entry_text need.entry)) (take count unmet)

pub noted-none : (unmet : List Unmet) (seen : BTreeSet (Vec ℕ)) (old : List ℕ) → seen.keys ≡ []
    → AreNoted unmet 0 seen old old
noted-none unmet seen old none = record {
  lines = [];
  text = sym (append-nil old);
  only = All-nil (λ line. IsNoteOfOne unmet line);
  known = subst (All (λ (key : Vec ℕ). HasNoteOn [] key.items)) (sym none)
      (All-nil (λ (key : Vec ℕ). HasNoteOn [] key.items));
  each = All-nil (λ (need : Unmet). HasNoteOn [] (entry_text need.entry));
}

-- one need more
each-more : (unmet : List Unmet) (count : ℕ) (need : Unmet) (lines : List (List ℕ))
    → count < length unmet → need ≡ get_or unmet count need
    → All (λ one. HasNoteOn lines (entry_text one.entry)) (take count unmet)
    → HasNoteOn lines (entry_text need.entry)
    → All (λ one. HasNoteOn lines (entry_text one.entry)) (take (count + 1) unmet)
each-more unmet count need lines below at each one =
    let P = λ (other : Unmet). HasNoteOn lines (entry_text other.entry) in
    subst (λ (needs : List Unmet). All P needs)
    (ap (λ (other : Unmet). take count unmet ++ other ∷ []) at
    ∙ sym (take_more unmet count need below))
    (All-append P (take count unmet) (need ∷ []) each (All-cons P need [] one (All-nil P)))

-- keys that are compared as equal are the same bytes
same-items : (a b : Vec ℕ) → is_at (key_cmp a) b ≡ true → a.items ≡ b.items
same-items a b is = exact_bytes a.items b.items (equal-is (slice_cmp nat_cmp a.items b.items) is)
  where
    equal-is : (o : Ordering) → is_eq o ≡ true → o ≡ Equal
    equal-is Less e = absurd cc
    equal-is Equal e = refl
    equal-is Greater e = absurd cc

-- what is found among keys that all are such
found-such : (P : Vec ℕ → Type 0) (key : Vec ℕ) (keys : List (Vec ℕ))
    → All P keys → list_any (is_at (key_cmp key)) keys ≡ true
    → (other : Vec ℕ) × (other.items ≡ key.items) × P other
found-such P key [] all some = absurd cc
found-such P key (x ∷ xs) all some =
    elim (or_cases (is_at (key_cmp key) x) (list_any (is_at (key_cmp key)) xs) some) [
      | inl here ↦ (x, sym (same-items key x here), All-head P x xs all)
      | inr there ↦ found-such P key xs (All-tail P x xs all) there
    ]

-- a need whose words were seen
pub noted-known : (unmet : List Unmet) (count : ℕ) (need : Unmet) (seen : BTreeSet (Vec ℕ))
    (old new : List ℕ) (words : Vec ℕ) → AreNoted unmet count seen old new
    → count < length unmet → need ≡ get_or unmet count need
    → words.items ≡ entry_text need.entry
    → list_any (is_at (key_cmp words)) seen.keys ≡ true
    → (next : BTreeSet (Vec ℕ)) → next.keys ≡ insert_key key_cmp seen.keys words
    → AreNoted unmet (count + 1) next old new
noted-known unmet count need seen old new words so_far below at is some next keys =
    let P = λ (key : Vec ℕ). HasNoteOn so_far.lines key.items in
    let found = found-such P words seen.keys so_far.known some in
    let has : P words =
    subst (λ (items : List ℕ). HasNoteOn so_far.lines items) found.1 found.2 in
    record {
      lines = so_far.lines;
      text = so_far.text;
      only = so_far.only;
      known = subst (All P) (sym keys) (All-insert_key key_cmp words P seen.keys so_far.known has);
      each = each-more unmet count need so_far.lines below at so_far.each
          (subst (λ (items : List ℕ). HasNoteOn so_far.lines items) is has);
    }

-- a line more
more-lines : (lines : List (List ℕ)) (line words : List ℕ) → HasNoteOn lines words
    → HasNoteOn (lines ++ line ∷ []) words
more-lines lines line words has =
    (has.0, Contains-append_left lines (line ∷ []) has.0 has.1, has.2)

concat-more : (lines : List (List ℕ)) (line : List ℕ)
    → concat (lines ++ line ∷ []) ≡ concat lines ++ line
concat-more [] line = append-nil line
concat-more (x ∷ xs) line =
    ap (λ rest. x ++ rest) (concat-more xs line) ∙ sym (append_assoc x (concat xs) line)

pub noted-more : (unmet : List Unmet) (count : ℕ) (need : Unmet) (seen : BTreeSet (Vec ℕ))
    (old mid new : List ℕ) (words : Vec ℕ) → AreNoted unmet count seen old mid
    → count < length unmet → need ≡ get_or unmet count need
    → words.items ≡ entry_text need.entry
    → (next : BTreeSet (Vec ℕ)) → next.keys ≡ insert_key key_cmp seen.keys words
    → GetsBehind (IsNoteOf need) mid new
    → AreNoted unmet (count + 1) next old new
noted-more unmet count need seen old mid new words so_far below at is next keys got =
    let lines = so_far.lines ++ got.0 ∷ [] in
    let among = Contains-push so_far.lines got.0 in
    let P = λ (key : Vec ℕ). HasNoteOn lines key.items in
    let Q = λ (key : Vec ℕ). HasNoteOn so_far.lines key.items in
    let has : HasNoteOn lines (entry_text need.entry) = (got.0, among, got.2) in
    record {
      lines = lines;
      text = got.1 ∙ ap (λ text. text ++ got.0) so_far.text
          ∙ append_assoc old (concat so_far.lines) got.0
          ∙ ap (λ text. old ++ text) (sym (concat-more so_far.lines got.0));
      only = All-append (λ line. IsNoteOfOne unmet line) so_far.lines (got.0 ∷ []) so_far.only
          (All-cons (λ line. IsNoteOfOne unmet line) got.0 []
          (need, subst (Contains unmet) (sym at) (Contains-get_or unmet count need below), got.2)
          (All-nil (λ line. IsNoteOfOne unmet line)));
      known = subst (All P) (sym keys) (All-insert_key key_cmp words P seen.keys
          (All-weaker Q P (λ key. more-lines so_far.lines got.0 key.items) seen.keys so_far.known)
          (subst (λ (items : List ℕ). HasNoteOn lines items) (sym is) has));
      each = each-more unmet count need lines below at
          (All-weaker (λ (one : Unmet). HasNoteOn so_far.lines (entry_text one.entry))
          (λ (one : Unmet). HasNoteOn lines (entry_text one.entry))
          (λ one. more-lines so_far.lines got.0 (entry_text one.entry)) (take count unmet) so_far.each)
          has;
    }

pub noted-all : (unmet : List Unmet) (count : ℕ) (seen : BTreeSet (Vec ℕ)) (old new : List ℕ)
    → AreNoted unmet count seen old new → take count unmet ≡ unmet
    → GetsBehind (IsPieceOf unmet) old new
noted-all unmet count seen old new so_far all = (
  concat so_far.lines,
  so_far.text,
  (
    so_far.lines,
    refl,
    record {
      only = so_far.only;
      each = subst (All (λ need. HasNoteOn so_far.lines (entry_text need.entry))) all so_far.each;
    },
  ),
)

-- with what stands behind
pub has-notes : (unmet : List Unmet) (old mid new rest : List ℕ)
    → GetsBehind (IsPieceOf unmet) old mid → new ≡ mid ++ rest → HasNotes unmet new
has-notes unmet old mid new rest got e = (
  old,
  got.0,
  rest,
  e ∙ ap (λ text. text ++ rest) got.1 ∙ append_assoc old got.0 rest,
  got.2,
)

-- further lines come behind notes
pub notes-ahead : (unmet : List Unmet) (old new more : List ℕ) → HasNotes unmet old
    → new ≡ old ++ more → HasNotes unmet new
notes-ahead unmet old new more noted e = (
  noted.0,
  noted.1,
  noted.2 ++ more,
  e ∙ ap (λ text. text ++ more) noted.3
      ∙ append_assoc noted.0 (noted.1 ++ noted.2) more
      ∙ ap (λ text. noted.0 ++ text) (append_assoc noted.1 noted.2 more),
  noted.4,
)
