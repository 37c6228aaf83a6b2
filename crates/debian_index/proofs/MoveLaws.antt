-- Lines whose numbers are moved on, and their faults.
--
--   move k line, moved k fault    the same, k lines further on
use Rattle.std.proofs.Common.{◌≡◌, ℕ, ◌+◌, ◌<◌, ◌≤◌, nat_lt, Bool, true, not, List, [], ◌∷◌, ◌++◌, length, map, filter, Option, Some, None, refl, sym, ap, ◌∙◌, inl, inr, arith}
use Rattle.std.specs.List.{list_all, flat_map, enumerate_from, onto_first}
use Rattle.std.specs.Option.{option_map}
use Rattle.std.proofs.lemmas.Bool.{cases_Bool, and_parts, ltb-true, ltb-false}
use Rattle.std.proofs.lemmas.List.{map-append}
use Rattle.deb_text.specs.Common.{fault_at, is_nil, Line, lines_of, is_comment, control_lines, or_else}
use Rattle.deb_text.specs.declared.fault.Fault.{Fault}
use Rattle.deb_stanza.specs.Stanza.{name_of, field_of, separates, continues, continuation, field_text, texts_of, parts, paragraph_of, paragraphs_of, line_refusal, told_at}
use Rattle.debian_index.specs.Index.{later}
use Rattle.debian_index.proofs.FaultLaws.{fault_by, open_with, faults_from}

abbrev pub move : ℕ → Line → Line
move k l = (l.0 + k, l.1)

abbrev pub moved : ℕ → Fault → Fault
moved k fault = fault_at fault.file (fault.line + k) fault.code

-- ---- the lines

enumerate-move : (k n : ℕ) (xs : List (List ℕ))
    → enumerate_from (n + k) xs ≡ map (move k) (enumerate_from n xs)
enumerate-move k n [] = refl
enumerate-move k n (x ∷ xs) =
    let on : n + k + 1 ≡ n + 1 + k = omega arith in
    ap (λ (ls : List Line). (n + k, x) ∷ ls)
    (ap (λ m. enumerate_from m xs) on ∙ enumerate-move k (n + 1) xs)

filter-move : (k : ℕ) (keeps : List ℕ → Bool) (ls : List Line)
    → filter (λ (l : Line). keeps l.1) (map (move k) ls)
    ≡ map (move k) (filter (λ (l : Line). keeps l.1) ls)
filter-move k keeps [] = refl
filter-move k keeps (l ∷ ls) =
    elim (cases_Bool (keeps l.1)) [
      | inl is ↦ rw is (ap (λ (ms : List Line). move k l ∷ ms) (filter-move k keeps ls))
      | inr is ↦ rw is (filter-move k keeps ls)
    ]

pub lines-move : (k n : ℕ) (text : List ℕ)
    → control_lines (n + k) text ≡ map (move k) (control_lines n text)
lines-move k n text =
    ap (filter (λ (l : Line). not (is_comment l.1))) (enumerate-move k n (lines_of text))
    ∙ filter-move k (λ line. not (is_comment line)) (enumerate_from n (lines_of text))

-- ---- their faults

continuation-move : (k : ℕ) (ls : List Line)
    → continuation (map (move k) ls) ≡ map (move k) (continuation ls)
continuation-move k [] = refl
continuation-move k (l ∷ ls) =
    elim (cases_Bool (continues l)) [
      | inl is ↦ rw is (ap (λ (ms : List Line). move k l ∷ ms) (continuation-move k ls))
      | inr is ↦ rw is refl
    ]

more-move : (k : ℕ) (ls : List Line)
    → flat_map (λ (m : Line). 10 ∷ m.1) (map (move k) ls) ≡ flat_map (λ (m : Line). 10 ∷ m.1) ls
more-move k [] = refl
more-move k (l ∷ ls) = ap (λ bytes. (10 ∷ l.1) ++ bytes) (more-move k ls)

text-move : (k : ℕ) (l : Line) (ls : List Line)
    → field_text (move k l) (continuation (map (move k) ls)) ≡ field_text l (continuation ls)
text-move k l ls =
    ap (λ bytes. l.1 ++ bytes)
    (ap (flat_map (λ (m : Line). 10 ∷ m.1)) (continuation-move k ls)
    ∙ more-move k (continuation ls))

texts-move : (k : ℕ) (ls : List Line) → texts_of (map (move k) ls) ≡ texts_of ls
texts-move k [] = refl
texts-move k (l ∷ ls) =
    elim (cases_Bool (continues l)) [
      | inl is ↦ rw is (texts-move k ls)
      | inr is ↦ rw is (ap (λ text. text ∷ texts_of (map (move k) ls)) (text-move k l ls)
          ∙ ap (λ texts. field_text l (continuation ls) ∷ texts) (texts-move k ls))
    ]

nil-move : (k : ℕ) (ls : List Line) → is_nil (map (move k) ls) ≡ is_nil ls
nil-move k [] = refl
nil-move k (l ∷ ls) = refl

told-move : (k line : ℕ) (code : Option ℕ)
    → told_at (line + k) code ≡ option_map (moved k) (told_at line code)
told-move k line None = refl
told-move k line (Some code) = refl

fault-move : (k : ℕ) (held : List Line) (l : Line)
    → fault_by (map (move k) held) (move k l) ≡ option_map (moved k) (fault_by held l)
fault-move k held l =
    ap (λ empty. told_at (l.0 + k)
    (line_refusal (not empty) (map name_of (texts_of (map (move k) held))) l)) (nil-move k held)
    ∙ ap (λ texts. told_at (l.0 + k) (line_refusal (not (is_nil held)) (map name_of texts) l))
    (texts-move k held)
    ∙ told-move k l.0 (line_refusal (not (is_nil held)) (map name_of (texts_of held)) l)

open-move : (k : ℕ) (held : List Line) (l : Line)
    → open_with (map (move k) held) (move k l) ≡ map (move k) (open_with held l)
open-move k held l =
    elim (cases_Bool (separates l)) [
      | inl is ↦ rw is refl
      | inr is ↦ rw is (sym (map-append (move k) held (l ∷ [])))
    ]

or_else-move : (k : ℕ) (a b : Option Fault)
    → or_else (option_map (moved k) a) (option_map (moved k) b) ≡ option_map (moved k) (or_else a b)
or_else-move k None b = refl
or_else-move k (Some x) b = refl

pub faults-move : (k : ℕ) (ls held : List Line)
    → faults_from (map (move k) held) (map (move k) ls)
    ≡ option_map (moved k) (faults_from held ls)
unfolding faults_from
faults-move k [] held = refl
faults-move k (l ∷ ls) held =
    ap (λ o. or_else o (faults_from (open_with (map (move k) held) (move k l)) (map (move k) ls)))
    (fault-move k held l)
    ∙ ap (or_else (option_map (moved k) (fault_by held l)))
    (ap (λ o. faults_from o (map (move k) ls)) (open-move k held l)
    ∙ faults-move k ls (open_with held l))
    ∙ or_else-move k (fault_by held l) (faults_from (open_with held l) ls)

-- ---- their paragraphs

onto-move : (k : ℕ) (l : Line) (ps : List (List Line))
    → onto_first (move k l) (map (map (move k)) ps) ≡ map (map (move k)) (onto_first l ps)
onto-move k l [] = refl
onto-move k l (q ∷ qs) = refl

parts-move : (k : ℕ) (ls : List Line) → parts (map (move k) ls) ≡ map (map (move k)) (parts ls)
parts-move k [] = refl
parts-move k (l ∷ ls) =
    elim (cases_Bool (separates l)) [
      | inl is ↦ rw is (ap (λ (ps : List (List Line)). [] ∷ ps) (parts-move k ls))
      | inr is ↦ rw is (ap (onto_first (move k l)) (parts-move k ls) ∙ onto-move k l (parts ls))
    ]

made-move : (k : ℕ) (ps : List (List Line))
    → map paragraph_of (filter (λ part. not (is_nil part)) (map (map (move k)) ps))
    ≡ later k (map paragraph_of (filter (λ part. not (is_nil part)) ps))
made-move k [] = refl
made-move k ([] ∷ ps) = made-move k ps
made-move k ((l ∷ ls) ∷ ps) =
    ap (λ texts. record { line = l.0 + k; fields = map field_of texts }
    ∷ map paragraph_of (filter (λ part. not (is_nil part)) (map (map (move k)) ps)))
    (texts-move k (l ∷ ls))
    ∙ ap (λ rest. record { line = l.0 + k; fields = map field_of (texts_of (l ∷ ls)) } ∷ rest)
    (made-move k ps)

pub paragraphs-move : (k : ℕ) (ls : List Line)
    → paragraphs_of (map (move k) ls) ≡ later k (paragraphs_of ls)
paragraphs-move k ls =
    ap (λ ps. map paragraph_of (filter (λ part. not (is_nil part)) ps)) (parts-move k ls)
    ∙ made-move k (parts ls)

-- ---- a fault is told at one of the lines

abbrev pub below : ℕ → List Line → Bool
below m ls = list_all (λ (l : Line). nat_lt l.0 m) ls

told-line : (line : ℕ) (code : Option ℕ) (e : Fault) → told_at line code ≡ Some e → e.line ≡ line
told-line line None e is = absurd cc
told-line line (Some code) e is = cc

pub faults-below : (m : ℕ) (ls held : List Line) (e : Fault) → below m ls ≡ true
    → faults_from held ls ≡ Some e → e.line < m
unfolding faults_from
faults-below m [] held e are is = absurd cc
faults-below m (l ∷ ls) held e are is =
    let both = and_parts (nat_lt l.0 m) (below m ls) are in
    go (fault_by held l) refl both.0
    (λ h. faults-below m ls (open_with held l) e both.1 h) is where
      go : (o : Option Fault) → fault_by held l ≡ o → nat_lt l.0 m ≡ true
          → (faults_from (open_with held l) ls ≡ Some e → e.line < m)
          → or_else o (faults_from (open_with held l) ls) ≡ Some e → e.line < m
      go None at here later is = later is
      go (Some f) at here later is =
          let same : f ≡ e = cc in
          let line = told-line l.0 (line_refusal (not (is_nil held))
          (map name_of (texts_of held)) l) e (at ∙ ap Some same) in
          omega (arith, ltb-true l.0 m here, line)

all-filter : (p : Line → Bool) (q : Line → Bool) (ls : List Line) → list_all p ls ≡ true
    → list_all p (filter q ls) ≡ true
all-filter p q [] are = refl
all-filter p q (l ∷ ls) are =
    let both = and_parts (p l) (list_all p ls) are in
    elim (cases_Bool (q l)) [
      | inl is ↦ rw (is, both.0) (all-filter p q ls both.1)
      | inr is ↦ rw is (all-filter p q ls both.1)
    ]

all-numbers : (m n : ℕ) (xs : List (List ℕ)) → n + length xs ≤ m
    → below m (enumerate_from n xs) ≡ true
all-numbers m n [] within = refl
all-numbers m n (x ∷ xs) within =
    elim (cases_Bool (nat_lt n m)) [
      | inl is ↦ rw is (all-numbers m (n + 1) xs (omega arith))
      | inr is ↦ absurd (omega (arith, ltb-false n m is))
    ]

pub lines-below : (m n : ℕ) (text : List ℕ) → n + length (lines_of text) ≤ m
    → below m (control_lines n text) ≡ true
lines-below m n text within =
    all-filter (λ (l : Line). nat_lt l.0 m) (λ (l : Line). not (is_comment l.1))
    (enumerate_from n (lines_of text)) (all-numbers m n (lines_of text) within)
