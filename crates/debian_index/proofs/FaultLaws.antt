-- The first fault of lines, by the part that is held before each.
--
--   faults_from held lines    the first fault, behind these lines of the held part
use Rattle.std.proofs.Common.{◌≡◌, Bool, true, not, List, [], ◌∷◌, ◌++◌, map, filter, Option, Some, None, refl, sym, ap, ◌∙◌, inl, inr, if◌then◌else◌}
use Rattle.std.proofs.lemmas.Bool.{cases_Bool}
use Rattle.std.proofs.lemmas.List.{append-nil, map-append}
use Rattle.std.proofs.lemmas.List.Elements.{filter-append}
use Rattle.deb_text.specs.Common.{is_nil, Line, ◌>>=◌, answer, or_else, first_fault, judged, with_front}
use Rattle.deb_text.specs.declared.fault.Fault.{Fault}
use Rattle.deb_text.proofs.PartLaws.{split-cons}
use Rattle.deb_stanza.specs.Cut.{onto_last}
use Rattle.deb_stanza.specs.Stanza.{Paragraph, name_of, separates, texts_of, parts, open_part, last_part_of, line_refusal, told_at, fault_of, paragraph_of, paragraphs_of}
use Rattle.deb_stanza.proofs.CutLaws.{onto_last-push}
use Rattle.deb_stanza.proofs.PartsLaws.{split-last, split-at, split-in, last_of-push}

abbrev pub fault_by : List Line → Line → Option Fault
fault_by held l =
    told_at l.0 (line_refusal (not (is_nil held)) (map name_of (texts_of held)) l)

-- the held part behind one more line
abbrev pub open_with : List Line → Line → List Line
open_with held l = if separates l then [] else held ++ l ∷ []

unfoldable pub faults_from : List Line → List Line → Option Fault
faults_from held [] = None
faults_from held (l ∷ ls) = or_else (fault_by held l) (faults_from (open_with held l) ls)

last-onto : (before : List Line) (l : Line)
    → last_part_of (onto_last (λ q. q ++ l ∷ []) (parts before)) ≡ open_part before ++ l ∷ []
last-onto before l =
    let last = split-last separates before in
    ap (λ (ps : List (List Line)). last_part_of (onto_last (λ q. q ++ l ∷ []) ps)) last.2
    ∙ ap last_part_of (onto_last-push (λ q. q ++ l ∷ []) last.0 last.1)
    ∙ last_of-push last.0 (last.1 ++ l ∷ [])
    ∙ ap (λ (q : List Line). q ++ l ∷ []) (sym (ap last_part_of last.2 ∙ last_of-push last.0 last.1))

open-push : (before : List Line) (l : Line)
    → open_part (before ++ l ∷ []) ≡ open_with (open_part before) l
open-push before l =
    elim (cases_Bool (separates l)) [
      | inl is ↦
          rw is (ap last_part_of (split-at separates before l is) ∙ last_of-push (parts before) [])
      | inr is ↦ rw is (ap last_part_of (split-in separates before l is) ∙ last-onto before l)
    ]

faults-first : (ls before : List Line)
    → first_fault fault_of before ls ≡ faults_from (open_part before) ls
unfolding faults_from
faults-first [] before = refl
faults-first (l ∷ ls) before =
    ap (or_else (fault_of before l))
    (faults-first ls (before ++ l ∷ []) ∙ ap (λ held. faults_from held ls) (open-push before l))

-- what lines mean, or their first fault
pub judged-faults : (ls : List Line)
    → judged fault_of paragraphs_of ls ≡ answer (faults_from [] ls) (paragraphs_of ls)
unfolding judged
judged-faults ls = ap (λ o. answer o (paragraphs_of ls)) (faults-first ls [])

-- ---- lines, and those behind them from a separator on

-- no line, or one that separates
abbrev pub stops_at : List Line → Bool
stops_at [] = true
stops_at (l ∷ ls) = separates l

or_else-assoc : {A : Type 0} (a b c : Option A)
    → or_else (or_else a b) c ≡ or_else a (or_else b c)
or_else-assoc None b c = refl
or_else-assoc (Some x) b c = refl

told-none : (held : List Line) (l : Line) → separates l ≡ true → fault_by held l ≡ None
told-none held l is = rw is refl

faults-stop : (held ys : List Line) → stops_at ys ≡ true → faults_from held ys ≡ faults_from [] ys
unfolding faults_from
faults-stop held [] stop = refl
faults-stop held (l ∷ ls) stop =
    ap (λ o. or_else o (faults_from (open_with held l) ls)) (told-none held l stop)
    ∙ ap (λ o. faults_from o ls) (closes held ∙ sym (closes []))
    ∙ sym (ap (λ o. or_else o (faults_from (open_with [] l) ls)) (told-none [] l stop)) where
      closes : (o : List Line) → open_with o l ≡ []
      closes o = rw stop refl

pub faults-append : (xs ys held : List Line) → stops_at ys ≡ true
    → faults_from held (xs ++ ys) ≡ or_else (faults_from held xs) (faults_from [] ys)
unfolding faults_from
faults-append [] ys held stop = faults-stop held ys stop
faults-append (x ∷ xs) ys held stop =
    ap (or_else (fault_by held x)) (faults-append xs ys (open_with held x) stop)
    ∙ sym (or_else-assoc (fault_by held x) (faults_from (open_with held x) xs) (faults_from [] ys))

made : List (List Line) → List Paragraph
made ps = map paragraph_of (filter (λ part. not (is_nil part)) ps)

made-append : (ps qs : List (List Line)) → made (ps ++ qs) ≡ made ps ++ made qs
unfolding made
made-append ps qs =
    ap (map paragraph_of) (filter-append (λ (part : List Line). not (is_nil part)) ps qs)
    ∙ map-append paragraph_of (filter (λ part. not (is_nil part)) ps)
    (filter (λ part. not (is_nil part)) qs)

made-of : (ls : List Line) → paragraphs_of ls ≡ made (parts ls)
unfolding made
made-of ls = refl

split-both : (xs ys : List Line) (s : Line) → separates s ≡ true
    → parts (xs ++ s ∷ ys) ≡ parts xs ++ parts ys
split-both [] ys s is = rw is refl
split-both (x ∷ xs) ys s is =
    let some = split-cons separates xs in
    elim (cases_Bool (separates x)) [
      | inl e ↦ rw (e, split-both xs ys s is) refl
      | inr e ↦ rw (e, split-both xs ys s is, some.2) refl
    ]

made-nil : made ([] ∷ []) ≡ []
unfolding made
made-nil = refl

-- past a line that separates
past-made : (l : Line) (ls : List Line) → separates l ≡ true
    → paragraphs_of (l ∷ ls) ≡ paragraphs_of ls
past-made l ls is =
    made-of (l ∷ ls) ∙ ap made (split-both [] ls l is) ∙ made-append ([] ∷ []) (parts ls)
    ∙ ap (λ ps. ps ++ made (parts ls)) made-nil ∙ sym (made-of ls)

pub paragraphs-append : (xs ys : List Line) → stops_at ys ≡ true
    → paragraphs_of (xs ++ ys) ≡ paragraphs_of xs ++ paragraphs_of ys
paragraphs-append xs [] stop =
    ap paragraphs_of (append-nil xs) ∙ sym (append-nil (paragraphs_of xs))
paragraphs-append xs (y ∷ ys) stop =
    made-of (xs ++ y ∷ ys) ∙ ap made (split-both xs ys y stop)
    ∙ made-append (parts xs) (parts ys)
    ∙ ap (λ ps. ps ++ made (parts ys)) (sym (made-of xs))
    ∙ ap (λ ps. paragraphs_of xs ++ ps) (sym (past-made y ys stop ∙ made-of ys))

answer-both : (f g : Option Fault) (ps qs : List Paragraph)
    → answer (or_else f g) (ps ++ qs) ≡ (answer f ps >>= λ rs. with_front rs (answer g qs))
answer-both None None ps qs = refl
answer-both None (Some e) ps qs = refl
answer-both (Some e) g ps qs = refl

-- lines, and those behind them from a separator on
pub judged-append : (xs ys : List Line) → stops_at ys ≡ true
    → judged fault_of paragraphs_of (xs ++ ys)
    ≡ (judged fault_of paragraphs_of xs >>= λ ps.
    with_front ps (judged fault_of paragraphs_of ys))
judged-append xs ys stop =
    judged-faults (xs ++ ys)
    ∙ ap (λ o. answer o (paragraphs_of (xs ++ ys))) (faults-append xs ys [] stop)
    ∙ ap (answer (or_else (faults_from [] xs) (faults_from [] ys)))
    (paragraphs-append xs ys stop)
    ∙ answer-both (faults_from [] xs) (faults_from [] ys) (paragraphs_of xs) (paragraphs_of ys)
    ∙ ap (λ r. r >>= λ ps. with_front ps (answer (faults_from [] ys) (paragraphs_of ys)))
    (sym (judged-faults xs))
    ∙ ap (λ r. judged fault_of paragraphs_of xs >>= λ ps. with_front ps r) (sym (judged-faults ys))

faults-cons : (l : Line) (ls : List Line) → separates l ≡ true
    → faults_from [] (l ∷ ls) ≡ faults_from [] ls
unfolding faults_from
faults-cons l ls is =
    ap (λ o. or_else o (faults_from (open_with [] l) ls)) (told-none [] l is) ∙ rw is refl

-- a line that separates, and those behind it
pub judged-separator : (l : Line) (ls : List Line) → separates l ≡ true
    → judged fault_of paragraphs_of (l ∷ ls) ≡ judged fault_of paragraphs_of ls
judged-separator l ls is =
    judged-faults (l ∷ ls)
    ∙ ap (λ o. answer o (paragraphs_of (l ∷ ls))) (faults-cons l ls is)
    ∙ ap (answer (faults_from [] ls)) (past-made l ls is)
    ∙ sym (judged-faults ls)
