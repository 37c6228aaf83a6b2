-- The state of the reader is what the lines so far say.
use Rattle.std.proofs.Common.{◌≡◌, ℕ, Bool, true, false, not, List, [], ◌∷◌, ◌++◌, map, filter, Option, Some, None, Ok, refl, sym, ap, subst, ◌∙◌, inl, inr}
use Rattle.std.proofs.lemmas.Bool.{cases_Bool}
use Rattle.std.proofs.lemmas.List.{append-nil, map-append}
use Rattle.std.proofs.lemmas.List.Elements.{filter-append}
use Rattle.deb_text.specs.Common.{is_nil, Line, answer, judged, steps}
use Rattle.deb_text.proofs.StepLaws.{steps-judged}
use Rattle.deb_stanza.specs.Cut.{onto_last}
use Rattle.deb_stanza.specs.Draft.{State, open_texts, open_names, longer, larger, with_line, draft_step, raw_part, state_of}
use Rattle.deb_stanza.specs.Stanza.{name_of, separates, continues, texts_of, parts, open_part, last_part_of, line_refusal, told_at, fault_of, paragraph_of, paragraphs_of}
use Rattle.deb_stanza.specs.View.{Raw, paragraph_of_raw}
use Rattle.deb_stanza.proofs.CutLaws.{onto_last-push}
use Rattle.deb_stanza.proofs.NameLaws.{last_texts-push}
use Rattle.deb_stanza.proofs.PartsLaws.{split-last, split-at, split-in, last_of-push, texts_of-head, texts_of-more}

abbrev some : List Line → Bool
some part = not (is_nil part)

abbrev the_state : List Raw → Bool → State
the_state raws is_open = record { raws = raws; is_open = is_open }

-- the state that these parts make
abbrev made_of : List (List Line) → State
made_of ps = the_state (map raw_part (filter some ps)) (some (last_part_of ps))

raws-append : (init : List (List Line)) (q : List Line)
    → map raw_part (filter some (init ++ q ∷ []))
    ≡ map raw_part (filter some init) ++ map raw_part (filter some (q ∷ []))
raws-append init q =
    ap (map raw_part) (filter-append some init (q ∷ []))
    ∙ map-append raw_part (filter some init) (filter some (q ∷ []))

-- with an open part, and with none
made-open : (init : List (List Line)) (l : Line) (q : List Line)
    → made_of (init ++ (l ∷ q) ∷ [])
    ≡ the_state (map raw_part (filter some init) ++ raw_part (l ∷ q) ∷ []) true
made-open init l q =
    λ j. the_state (raws-append init (l ∷ q) j) (ap some (last_of-push init (l ∷ q)) j)

made-closed : (init : List (List Line))
    → made_of (init ++ [] ∷ []) ≡ the_state (map raw_part (filter some init)) false
made-closed init =
    λ j. the_state ((raws-append init [] ∙ append-nil (map raw_part (filter some init))) j)
    (ap some (last_of-push init []) j)

-- ---- one more line

-- it separates
closes : (init : List (List Line)) (q : List Line)
    → record (made_of (init ++ q ∷ [])) { is_open = false } ≡ made_of ((init ++ q ∷ []) ++ [] ∷ [])
closes init q = sym (made-closed (init ++ q ∷ []))

raw-more : (l : Line) (q : List Line) (m : Line) → continues m ≡ true
    → longer m.1 (raw_part (l ∷ q)) ≡ raw_part (l ∷ q ++ m ∷ [])
raw-more l q m is = λ j. record { line = l.0; texts = sym (texts_of-more (l ∷ q) m is) j }

raw-head : (l : Line) (q : List Line) (m : Line) → continues m ≡ false
    → larger m.1 (raw_part (l ∷ q)) ≡ raw_part (l ∷ q ++ m ∷ [])
raw-head l q m is = λ j. record { line = l.0; texts = sym (texts_of-head (l ∷ q) m is) j }

-- it belongs to the open part, whose last field goes on, or which gets a field
goes_on : (init : List (List Line)) (l : Line) (q : List Line) (m : Line) (change : Raw → Raw)
    → change (raw_part (l ∷ q)) ≡ raw_part (l ∷ q ++ m ∷ [])
    → the_state (onto_last change (made_of (init ++ (l ∷ q) ∷ [])).raws) true
    ≡ made_of (init ++ (l ∷ q ++ m ∷ []) ∷ [])
goes_on init l q m change is =
    ap (λ (raws : List Raw). the_state (onto_last change raws) true) (raws-append init (l ∷ q))
    ∙ ap (λ (raws : List Raw). the_state raws true)
    (onto_last-push change (map raw_part (filter some init)) (raw_part (l ∷ q)))
    ∙ ap (λ (raw : Raw). the_state (map raw_part (filter some init) ++ raw ∷ []) true) is
    ∙ sym (made-open init l (q ++ m ∷ []))

-- it begins a paragraph
begins : (init : List (List Line)) (m : Line) → continues m ≡ false
    → the_state ((made_of (init ++ [] ∷ [])).raws
    ++ record { line = m.0; texts = m.1 ∷ [] } ∷ []) true
    ≡ made_of (init ++ (m ∷ []) ∷ [])
begins init m is =
    ap (λ (raws : List Raw). the_state (raws ++ record { line = m.0; texts = m.1 ∷ [] } ∷ []) true)
    (ap (λ s. s.raws) (made-closed init))
    ∙ ap (λ (ts : List (List ℕ)).
    the_state (map raw_part (filter some init) ++ record { line = m.0; texts = ts } ∷ []) true)
    (sym (texts_of-head [] m is))
    ∙ sym (made-open init m [])

some≢none : {A : Type 0} {x : A} → Some x ≡ None → ⊥
some≢none e = absurd cc

within : (init : List (List Line)) (q : List Line) (m : Line) (given : List (List ℕ))
    → separates m ≡ false
    → line_refusal (some (last_part_of (init ++ q ∷ []))) given m ≡ None
    → with_line (made_of (init ++ q ∷ [])) m ≡ made_of (init ++ (q ++ m ∷ []) ∷ [])
within init [] m given solid fine =
    elim (cases_Bool (continues m)) [
      | inl is ↦ let h = rw (solid, is, last_of-push init []) at fine in absurd (some≢none h)
      | inr is ↦ rw (solid, is, last_of-push init []) (begins init m is)
    ]
within init (l ∷ q) m given solid fine =
    elim (cases_Bool (continues m)) [
      | inl is ↦ rw (solid, is, last_of-push init (l ∷ q))
          (goes_on init l q m (longer m.1) (raw-more l q m is))
      | inr is ↦ rw (solid, is, last_of-push init (l ∷ q))
          (goes_on init l q m (larger m.1) (raw-head l q m is))
    ]

-- the texts of the open part
open_texts-made : (init : List (List Line)) (q : List Line)
    → open_texts (made_of (init ++ q ∷ [])) ≡ texts_of (last_part_of (init ++ q ∷ []))
open_texts-made init [] =
    ap open_texts (made-closed init) ∙ ap texts_of (sym (last_of-push init []))
open_texts-made init (l ∷ q) =
    ap open_texts (made-open init l q)
    ∙ last_texts-push (raw_part (l ∷ q)) (map raw_part (filter some init))
    ∙ ap texts_of (sym (last_of-push init (l ∷ q)))

grows : (before : List Line) (l : Line) (given : List (List ℕ))
    → line_refusal (some (open_part before)) given l ≡ None
    → with_line (state_of before) l ≡ state_of (before ++ l ∷ [])
grows before l given fine =
    let last = split-last separates before in
    elim (cases_Bool (separates l)) [
      | inl is ↦
          rw is (sym (ap made_of (split-at separates before l is) ∙ made-closed (parts before)))
      | inr solid ↦
          ap (λ (ps : List (List Line)). with_line (made_of ps) l) last.2
          ∙ within last.0 last.1 l given solid
          (subst (λ (ps : List (List Line)). line_refusal (some (last_part_of ps)) given l ≡ None)
          last.2 fine)
          ∙ sym (ap made_of
          (split-in separates before l solid ∙ ap (onto_last (λ q. q ++ l ∷ [])) last.2
          ∙ onto_last-push (λ q. q ++ l ∷ []) last.0 last.1))
    ]

names-open : (before : List Line)
    → open_names (state_of before) ≡ map name_of (texts_of (open_part before))
names-open before =
    let last = split-last separates before in
    ap (map name_of)
    (subst (λ (ps : List (List Line)). open_texts (made_of ps) ≡ texts_of (last_part_of ps))
    (sym last.2)
    (open_texts-made last.0 last.1))

answer-same : (line : ℕ) (code : Option ℕ) (s t : State) → (code ≡ None → s ≡ t)
    → answer (told_at line code) s ≡ answer (told_at line code) t
answer-same line None s t same = ap Ok (same refl)
answer-same line (Some code) s t same = refl

keeps : (before : List Line) (l : Line)
    → draft_step (state_of before) l ≡ answer (fault_of before l) (state_of (before ++ l ∷ []))
keeps before l =
    ap (λ (given : List (List ℕ)). answer
    (told_at l.0 (line_refusal (some (open_part before)) given l))
    (with_line (state_of before) l)) (names-open before)
    ∙ answer-same l.0 _ _ _ (grows before l (map name_of (texts_of (open_part before))))

-- going from line to line gives what the lines say, or their first fault
pub steps-lines : (ls : List Line)
    → steps draft_step (the_state [] false) ls ≡ judged fault_of state_of ls
steps-lines ls = steps-judged draft_step fault_of state_of keeps ls

fuse : (qs : List (List Line)) → map paragraph_of_raw (map raw_part qs) ≡ map paragraph_of qs
fuse [] = refl
fuse (q ∷ qs) = ap (λ ps. paragraph_of q ∷ ps) (fuse qs)

-- the paragraphs are what the state comes to
pub judged-paragraphs : (ls : List Line)
    → judged fault_of (λ ys. map paragraph_of_raw (state_of ys).raws) ls
    ≡ judged fault_of paragraphs_of ls
judged-paragraphs ls = λ j. judged fault_of (λ ys. fuse (filter some (parts ys)) j) ls
