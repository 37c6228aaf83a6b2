-- Lines that are rewritten, and what comes behind a text.
use Rattle.std.proofs.Common.{◌≡◌, ℕ, Bool, true, false, not, ◌==◌, List, [], ◌∷◌, ◌++◌, refl, sym, ap, subst, ◌∙◌, inl, inr, eqb-true, arith, Ok, take, drop}
use Rattle.std.proofs.lemmas.Bool.{cases_Bool, and_parts, and_from}
use Rattle.std.proofs.lemmas.List.{append-nil, append_assoc, take-append-drop}
use Rattle.std.proofs.lemmas.List.Folds.{list_all-append}
use Rattle.std.specs.List.{list_all, list_any}
use Rattle.std.specs.Result.{is_ok}
use Rattle.deb_text.specs.Common.{is_byte, is_newline, before, after, front, behind, lines_of}
use Rattle.deb_text.proofs.LineLaws.{lines_of-cons, lines_of-nil}
use Rattle.deb_text.proofs.TestLaws.{all-weaker, other-byte}
use Rattle.deb_version.specs.Grammar.{version_at}
use Rattle.deb_version.specs.Order.{Parts}
use Rattle.deb_version.proofs.ByteLaws.{is_text_byte, version-bytes}
use Rattle.import_farm.specs.declared.rewriting.Field.{Field}
use Rattle.import_farm.specs.Rewriting.{Bracket, GetsBehind, IsRenamed, IsReplaced, IsReversioned, is_inside, is_inside_byte, is_line_byte, is_one_line, IsRowOf, AreRowsOf, field_at, with_old, with_new}

-- a text is cut at the first byte of a kind
pub cut-first : (byte : ℕ) (text : List ℕ) → list_any (is_byte byte) text ≡ true
    → text ≡ before (is_byte byte) text ++ byte ∷ after (is_byte byte) text
cut-first byte [] h = absurd cc
cut-first byte (b ∷ bs) h =
    elim (cases_Bool (is_byte byte b)) [
      | inl is ↦ rw is (ap (λ x. x ∷ bs) (eqb-true b byte is))
      | inr other ↦ rw other (ap (λ xs. b ∷ xs) (cut-first byte bs (rw other at h)))
    ]

-- the same of the parts that were cut
pub cut-parts : (byte : ℕ) (text front back : List ℕ) → list_any (is_byte byte) text ≡ true
    → front ≡ before (is_byte byte) text → back ≡ after (is_byte byte) text
    → text ≡ front ++ byte ∷ back
cut-parts byte text front back some is_front is_back =
    rw (is_front, is_back) (cut-first byte text some)

-- ---- bytes of lines and of brackets

all-parts : (p : ℕ → Bool) (xs ys : List ℕ) → list_all p (xs ++ ys) ≡ true
    → (list_all p xs ≡ true) × (list_all p ys ≡ true)
all-parts p xs ys are =
    and_parts (list_all p xs) (list_all p ys) (sym (list_all-append p xs ys) ∙ are)

all-both : (p : ℕ → Bool) (xs ys : List ℕ) → list_all p xs ≡ true → list_all p ys ≡ true
    → list_all p (xs ++ ys) ≡ true
all-both p xs ys first second =
    list_all-append p xs ys ∙ and_from (list_all p xs) (list_all p ys) first second

all-drop : (p : ℕ → Bool) (size : ℕ) (xs : List ℕ) → list_all p xs ≡ true
    → list_all p (drop size xs) ≡ true
all-drop p size xs are =
    (all-parts p (take size xs) (drop size xs)
    (subst (λ (ys : List ℕ). list_all p ys ≡ true) (sym (take-append-drop size xs)) are)).1

all-behind : (p q : ℕ → Bool) (xs : List ℕ) → list_all p xs ≡ true
    → list_all p (behind q xs) ≡ true
all-behind p q [] are = refl
all-behind p q (x ∷ xs) are =
    elim (cases_Bool (q x)) [
      | inl is ↦ rw is (all-behind p q xs (and_parts (p x) (list_all p xs) are).1)
      | inr is ↦ rw is are
    ]

-- what stands in front, and the rest
pub front-behind : (q : ℕ → Bool) (xs first rest : List ℕ) → first ≡ front q xs
    → rest ≡ behind q xs → xs ≡ first ++ rest
front-behind q xs first rest is_first is_rest = rw (is_first, is_rest) (both xs) where
  both : (ys : List ℕ) → ys ≡ front q ys ++ behind q ys
  both [] = refl
  both (y ∷ ys) =
      elim (cases_Bool (q y)) [
        | inl is ↦ rw is (ap (λ (zs : List ℕ). y ∷ zs) (both ys))
        | inr is ↦ rw is refl
      ]

before-line : (text : List ℕ) → list_all is_line_byte (before is_newline text) ≡ true
before-line [] = refl
before-line (b ∷ bs) =
    elim (cases_Bool (is_newline b)) [
      | inl is ↦ rw is refl
      | inr is ↦ rw is (and_from (is_line_byte b) (list_all is_line_byte (before is_newline bs))
          (ap not is) (before-line bs))
    ]

-- a line has no newline
pub line-one : (text row : List ℕ) (rest : List (List ℕ)) → lines_of text ≡ row ∷ rest
    → is_one_line row ≡ true
line-one [] row rest cut = let none = sym lines_of-nil ∙ cut in absurd cc
line-one (b ∷ bs) row rest cut =
    let text = b ∷ bs in
    let both = sym (lines_of-cons text (λ none. absurd (omega arith))) ∙ cut in
    let same : before is_newline text ≡ row = cc in
    subst (λ line. is_one_line line ≡ true) same (before-line text)

-- a version has no newline and no bracket
pub version-inside : (text : List ℕ) (parts : Parts) → version_at text ≡ Ok parts
    → is_inside text ≡ true
version-inside text parts read =
    all-weaker is_text_byte is_inside_byte inside text (version-bytes text (ap is_ok read)) where
      inside : (b : ℕ) → is_text_byte b ≡ true → is_inside_byte b ≡ true
      inside b passes =
          rw (
            other-byte is_text_byte 10 refl b passes,
            other-byte is_text_byte 40 refl b passes,
            other-byte is_text_byte 41 refl b passes,
          ) refl

pub version-one : (text : List ℕ) (parts : Parts) → version_at text ≡ Ok parts
    → is_one_line text ≡ true
version-one text parts read =
    all-weaker is_inside_byte is_line_byte line text (version-inside text parts read) where
      line : (b : ℕ) → is_inside_byte b ≡ true → is_line_byte b ≡ true
      line b passes =
          elim (cases_Bool (b == 10)) [
            | inl newline ↦ let h = rw newline at passes in absurd cc
            | inr other ↦ rw other refl
          ]

-- ---- a line with another version

-- what stands after the version that was there, in a line
pub rest-one : (space : ℕ → Bool) (row name value body rest : List ℕ) (size : ℕ)
    → is_one_line row ≡ true → row ≡ name ++ 58 ∷ value → body ≡ behind space value
    → rest ≡ drop size body → is_one_line rest ≡ true
rest-one space row name value body rest size one cut is_body is_rest =
    let whole = all-parts is_line_byte name (58 ∷ value)
    (subst (λ (line : List ℕ). is_one_line line ≡ true) cut one) in
    let after = (and_parts (is_line_byte 58) (list_all is_line_byte value) whole.1).1 in
    let left = subst (λ (line : List ℕ). is_one_line line ≡ true) (sym is_body)
    (all-behind is_line_byte space value after) in
    subst (λ (line : List ℕ). is_one_line line ≡ true) (sym is_rest)
    (all-drop is_line_byte size body left)

pub reversioned : (row name value other behind old t1 t2 t3 new : List ℕ)
    → row ≡ name ++ 58 ∷ value → is_one_line other ≡ true → is_one_line behind ≡ true
    → t1 ≡ old ++ name → t2 ≡ t1 ++ (58 ∷ 32 ∷ [])
    → t3 ≡ t2 ++ other → new ≡ t3 ++ behind → GetsBehind (IsReversioned row) old new
reversioned row name value other behind old t1 t2 t3 new cut one more e1 e2 e3 e4 =
    let text : new ≡ (((old ++ name) ++ (58 ∷ 32 ∷ [])) ++ other) ++ behind =
    e4 ∙ ap (λ t. t ++ behind) (e3 ∙ ap (λ t. t ++ other) (e2
    ∙ ap (λ t. t ++ (58 ∷ 32 ∷ [])) e1)) in
    let whole : (((old ++ name) ++ (58 ∷ 32 ∷ [])) ++ other) ++ behind
    ≡ old ++ (name ++ 58 ∷ (32 ∷ (other ++ behind))) = simp append_assoc in (
      name ++ 58 ∷ (32 ∷ (other ++ behind)),
      text ∙ whole,
      inr (name, value, 32 ∷ (other ++ behind), cut, refl, all-both is_line_byte other behind one more),
    )

-- ---- a line with other versions in brackets

-- what stands in brackets, with another version after the operator
pub replaced : (inside front r1 operator r2 between r3 version old t1 t2 t3 new : List ℕ)
    → is_inside inside ≡ true → is_inside version ≡ true → inside ≡ front ++ r1
    → r1 ≡ operator ++ r2 → r2 ≡ between ++ r3 → t1 ≡ old ++ front → t2 ≡ t1 ++ operator
    → t3 ≡ t2 ++ between → new ≡ t3 ++ version → GetsBehind (IsReplaced inside) old new
replaced inside front r1 operator r2 between r3 version old t1 t2 t3 new is is_version c1 c2 c3 e1 e2 e3 e4 =
    let first = all-parts is_inside_byte front r1 (subst (λ l. is_inside l ≡ true) c1 is) in
    let second = all-parts is_inside_byte operator r2
    (subst (λ l. is_inside l ≡ true) c2 first.1) in
    let third = all-parts is_inside_byte between r3
    (subst (λ l. is_inside l ≡ true) c3 second.1) in
    let text : new ≡ (((old ++ front) ++ operator) ++ between) ++ version =
    e4 ∙ ap (λ t. t ++ version) (e3 ∙ ap (λ t. t ++ between) (e2 ∙ ap (λ t. t ++ operator) e1)) in
    let whole : (((old ++ front) ++ operator) ++ between) ++ version
    ≡ old ++ (front ++ (operator ++ (between ++ version))) = simp append_assoc in (
      front ++ (operator ++ (between ++ version)),
      text ∙ whole,
      inr (
        is,
        all-both is_inside_byte front (operator ++ (between ++ version)) first.0
            (all-both is_inside_byte operator (between ++ version) second.0
            (all-both is_inside_byte between version third.0 is_version)),
      ),
    )

-- one bracket more
with_old-more : (bs : List Bracket) (b : Bracket) (end : List ℕ)
    → with_old (bs ++ b ∷ []) end ≡ with_old bs (b.front ++ 40 ∷ (b.old ++ 41 ∷ end))
with_old-more [] b end = refl
with_old-more (x ∷ bs) b end =
    ap (λ rest. x.front ++ 40 ∷ (x.old ++ 41 ∷ rest)) (with_old-more bs b end)

with_new-more : (bs : List Bracket) (b : Bracket) (end : List ℕ)
    → with_new (bs ++ b ∷ []) end ≡ with_new bs (b.front ++ 40 ∷ (b.new ++ 41 ∷ end))
with_new-more [] b end = refl
with_new-more (x ∷ bs) b end =
    ap (λ rest. x.front ++ 40 ∷ (x.new ++ 41 ∷ rest)) (with_new-more bs b end)

with_new-end : (bs : List Bracket) (end : List ℕ) → with_new bs end ≡ with_new bs [] ++ end
with_new-end [] end = refl
with_new-end (x ∷ bs) end =
    simp append_assoc (ap (λ rest. x.front ++ 40 ∷ (x.new ++ 41 ∷ rest)) (with_new-end bs end))

-- A line as far as it was renamed: what is left of it, and the text with what came behind it.
pub record IsRenamedTo (row rest old new : List ℕ) : Type 0 where
  pub brackets : List Bracket
  pub row_is : row ≡ with_old brackets rest
  pub new_is : new ≡ old ++ with_new brackets []

pub renamed-none : (row old : List ℕ) → IsRenamedTo row row old old
renamed-none row old = record { brackets = []; row_is = refl; new_is = sym (append-nil old) }

pub renamed-more : (row rest front inside other after old new : List ℕ)
    → IsRenamedTo row rest old new → rest ≡ front ++ 40 ∷ (inside ++ 41 ∷ after)
    → IsReplaced inside other → IsRenamedTo row after old (new ++ (front ++ 40 ∷ (other ++ 41 ∷ [])))
renamed-more row rest front inside other after old new so_far cut is =
    let bracket : Bracket =
    record { front = front; old = inside; new = other; replaced = is } in
    record {
      brackets = so_far.brackets ++ bracket ∷ [];
      row_is =
          so_far.row_is ∙ ap (with_old so_far.brackets) cut
          ∙ sym (with_old-more so_far.brackets bracket after);
      new_is =
          ap (λ text. text ++ (front ++ 40 ∷ (other ++ 41 ∷ []))) so_far.new_is
          ∙ append_assoc old (with_new so_far.brackets []) (front ++ 40 ∷ (other ++ 41 ∷ []))
          ∙ ap (λ text. old ++ text) (sym (with_new-more so_far.brackets bracket []
          ∙ with_new-end so_far.brackets (front ++ 40 ∷ (other ++ 41 ∷ []))));
    }

pub renamed-step : (row rest front behind inside after piece old t t1 t2 t3 new : List ℕ)
    → IsRenamedTo row rest old t → rest ≡ front ++ 40 ∷ behind → behind ≡ inside ++ 41 ∷ after
    → IsReplaced inside piece → t1 ≡ t ++ front → t2 ≡ t1 ++ (40 ∷ []) → t3 ≡ t2 ++ piece → new ≡ t3 ++ (41 ∷ [])
    → IsRenamedTo row after old new
renamed-step row rest front behind inside after piece old t t1 t2 t3 new so_far c1 c2 is e1 e2 e3 e4 =
    let text : new ≡ (((t ++ front) ++ (40 ∷ [])) ++ piece) ++ (41 ∷ []) =
    e4 ∙ ap (λ x. x ++ (41 ∷ [])) (e3 ∙ ap (λ x. x ++ piece) (e2 ∙ ap (λ x. x ++ (40 ∷ [])) e1)) in
    let whole : (((t ++ front) ++ (40 ∷ [])) ++ piece) ++ (41 ∷ [])
    ≡ t ++ (front ++ 40 ∷ (piece ++ 41 ∷ [])) = simp append_assoc in
    subst (IsRenamedTo row after old) (sym (text ∙ whole))
    (renamed-more row rest front inside piece after old t so_far
    (c1 ∙ ap (λ x. front ++ 40 ∷ x) c2) is)

renamed-all : (row rest old new : List ℕ) → IsRenamedTo row rest old new
    → GetsBehind (IsRenamed row) old (new ++ rest)
renamed-all row rest old new so_far = (
  with_new so_far.brackets rest,
  ap (λ text. text ++ rest) so_far.new_is
      ∙ append_assoc old (with_new so_far.brackets []) rest
      ∙ ap (λ text. old ++ text) (sym (with_new-end so_far.brackets rest)),
  (so_far.brackets, rest, so_far.row_is, refl),
)

pub renamed-end : (row rest old t new : List ℕ) → IsRenamedTo row rest old t → new ≡ t ++ rest
    → GetsBehind (IsRenamed row) old new
renamed-end row rest old t new so_far e =
    subst (GetsBehind (IsRenamed row) old) (sym e) (renamed-all row rest old t so_far)

-- Lines as far as they were rewritten: those that are left, the field of those before them, and the
-- text with what came behind it. What comes of the lines that are left makes it whole.
pub record AreRowsTo (rows : List (List ℕ)) (field : Field) (left : List (List ℕ))
    (old new : List ℕ) : Type 0 where
  pub piece : List ℕ
  pub new_is : new ≡ old ++ piece
  pub whole : (rest : List ℕ) → AreRowsOf field left rest
      → AreRowsOf Field.Kept rows (piece ++ rest)

pub rows-none : (rows : List (List ℕ)) (old : List ℕ) → AreRowsTo rows Field.Kept rows old old
rows-none rows old =
    record { piece = []; new_is = sym (append-nil old); whole = λ rest are. are }

pub rows-more : (rows : List (List ℕ)) (field : Field) (left : List (List ℕ)) (row : List ℕ)
    (behind : List (List ℕ)) (old new next : List ℕ) → AreRowsTo rows field left old new
    → left ≡ row ∷ behind → GetsBehind (IsRowOf (field_at row field) row) new next
    → AreRowsTo rows (field_at row field) behind old (next ++ 10 ∷ [])
rows-more rows field left row behind old new next so_far cut got =
    record {
      piece = so_far.piece ++ (got.0 ++ 10 ∷ []);
      new_is =
          ap (λ text. text ++ 10 ∷ []) (got.1 ∙ ap (λ text. text ++ got.0) so_far.new_is)
          ∙ simp append_assoc;
      whole = λ rest are.
          subst (λ text. AreRowsOf Field.Kept rows text)
          (sym (append_assoc so_far.piece (got.0 ++ 10 ∷ []) rest
          ∙ ap (λ text. so_far.piece ++ text) (append_assoc got.0 (10 ∷ []) rest)))
          (so_far.whole (got.0 ++ 10 ∷ rest)
          (subst (λ lines. AreRowsOf field lines (got.0 ++ 10 ∷ rest)) (sym cut)
          (got.0, rest, refl, got.2, are)));
    }

pub rows-step : (rows : List (List ℕ)) (field : Field) (left : List (List ℕ)) (row : List ℕ)
    (behind : List (List ℕ)) (old t mid new : List ℕ) (next : Field)
    → AreRowsTo rows field left old t → left ≡ row ∷ behind → next ≡ field_at row field
    → GetsBehind (IsRowOf next row) t mid → new ≡ mid ++ 10 ∷ [] → AreRowsTo rows next behind old new
rows-step rows field left row behind old t mid new next so_far cut same got e =
    subst (λ f. AreRowsTo rows f behind old new) (sym same)
    (subst (AreRowsTo rows (field_at row field) behind old) (sym e)
    (rows-more rows field left row behind old t mid so_far cut
    (subst (λ f. GetsBehind (IsRowOf f row) t mid) same got)))

pub rows-all : (rows : List (List ℕ)) (field : Field) (left : List (List ℕ)) (old new : List ℕ)
    → AreRowsTo rows field left old new → left ≡ []
    → GetsBehind (AreRowsOf Field.Kept rows) old new
rows-all rows field left old new so_far none = (
  so_far.piece,
  so_far.new_is,
  subst (λ text. AreRowsOf Field.Kept rows text) (append-nil so_far.piece)
      (so_far.whole [] (subst (λ lines. AreRowsOf field lines []) (sym none) refl)),
)
