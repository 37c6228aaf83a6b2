-- What a block says is what its lines say in the text.
use Rattle.std.proofs.Common.{◌≡◌, ℕ, ◌+◌, ◌-◌, ◌<◌, ◌≤◌, ◌==◌, ◌&&◌, nat_lt, true, List, [], length, Option, Some, None, Ok, Err, refl, sym, ap, ◌∙◌, inl, inr, arith, if◌then◌else◌}
use Rattle.std.specs.Option.{option_map}
use Rattle.std.proofs.lemmas.Bool.{cases_Bool, and_parts, ltb-true, eqb-true}
use Rattle.deb_text.specs.Common.{Fails, fault_at, is_memory, refusal_of, lines_of, control_lines, answer}
use Rattle.deb_text.specs.declared.fault.Fault.{Fault}
use Rattle.deb_stanza.specs.declared.error.TheConstants.{MOST_BYTES}
use Rattle.deb_stanza.specs.Stanza.{Paragraph, paragraphs_at, paragraphs_of}
use Rattle.debian_index.specs.Index.{block_at, later, paragraphs_from}
use Rattle.debian_index.proofs.FaultLaws.{faults_from, judged-faults}
use Rattle.debian_index.proofs.MoveLaws.{moved, lines-move, paragraphs-move, faults-move, faults-below, lines-below}

pub at-short : (text : List ℕ) → length text ≤ MOST_BYTES → paragraphs_at text ≡ paragraphs_from 1 text
unfolding paragraphs_at
at-short text short =
    elim (cases_Bool (nat_lt MOST_BYTES (length text))) [
      | inl is ↦ absurd (omega (arith, ltb-true MOST_BYTES (length text) is))
      | inr is ↦ rw is refl
    ]

pub block-short : (number : ℕ) (text : List ℕ) → length text ≤ MOST_BYTES
    → block_at number text ≡ paragraphs_from number text
block-short number text short =
    elim (cases_Bool (nat_lt MOST_BYTES (length text))) [
      | inl is ↦ absurd (omega (arith, ltb-true MOST_BYTES (length text) is))
      | inr is ↦ rw is refl
    ]

answer-ok : {A F : Type 0} (o : Option F) (x y : A) → answer o x ≡ Ok y → o ≡ None
answer-ok None x y is = refl
answer-ok (Some e) x y is = absurd cc

answer-err : {A F : Type 0} (o : Option F) (x : A) (e : F) → answer o x ≡ Err e → o ≡ Some e
answer-err None x e is = absurd cc
answer-err (Some f) x e is = cc

-- the faults of lines that are counted from another number
faults-one : (number : ℕ) (text : List ℕ) → 0 < number
    → faults_from [] (control_lines number text)
    ≡ option_map (moved (number - 1)) (faults_from [] (control_lines 1 text))
faults-one number text some =
    let on : number ≡ 1 + (number - 1) = omega arith in
    ap (λ n. faults_from [] (control_lines n text)) on
    ∙ ap (faults_from []) (lines-move (number - 1) 1 text)
    ∙ faults-move (number - 1) (control_lines 1 text) []

pub block-ok : (number : ℕ) (text : List ℕ) (ps : List Paragraph) → 0 < number
    → length text ≤ MOST_BYTES → paragraphs_at text ≡ Ok ps
    → block_at number text ≡ Ok (paragraphs_of (control_lines number text))
block-ok number text ps some short is =
    let none = answer-ok (faults_from [] (control_lines 1 text)) _ ps
    (sym (judged-faults (control_lines 1 text)) ∙ sym (at-short text short) ∙ is) in
    block-short number text short ∙ judged-faults (control_lines number text)
    ∙ ap (λ o. answer o (paragraphs_of (control_lines number text)))
    (faults-one number text some ∙ ap (option_map (moved (number - 1))) none)

answer-value : {A F : Type 0} (o : Option F) (x y : A) → answer o x ≡ Ok y → x ≡ y
answer-value None x y is = cc
answer-value (Some e) x y is = absurd cc

-- the paragraphs that are read are those of the text, further on
pub block-lines : (number : ℕ) (text : List ℕ) (ps : List Paragraph) → 0 < number
    → length text ≤ MOST_BYTES → paragraphs_at text ≡ Ok ps
    → later (number - 1) ps ≡ paragraphs_of (control_lines number text)
block-lines number text ps some short is =
    let on : number ≡ 1 + (number - 1) = omega arith in
    let read = answer-value (faults_from [] (control_lines 1 text))
    (paragraphs_of (control_lines 1 text)) ps
    (sym (judged-faults (control_lines 1 text)) ∙ sym (at-short text short) ∙ is) in
    ap (later (number - 1)) (sym read)
    ∙ sym (paragraphs-move (number - 1) (control_lines 1 text))
    ∙ ap paragraphs_of (sym (lines-move (number - 1) 1 text))
    ∙ ap (λ n. paragraphs_of (control_lines n text)) (sym on)

some_fault : (text : List ℕ) (e : Fault) → length text ≤ MOST_BYTES → paragraphs_at text ≡ Err e
    → faults_from [] (control_lines 1 text) ≡ Some e
some_fault text e short is =
    answer-err (faults_from [] (control_lines 1 text)) (paragraphs_of (control_lines 1 text)) e
    (sym (judged-faults (control_lines 1 text)) ∙ sym (at-short text short) ∙ is)

block-err : (number : ℕ) (text : List ℕ) (e : Fault) → 0 < number → length text ≤ MOST_BYTES
    → paragraphs_at text ≡ Err e → block_at number text ≡ Err (moved (number - 1) e)
block-err number text e some short is =
    block-short number text short ∙ judged-faults (control_lines number text)
    ∙ ap (λ o. answer o (paragraphs_of (control_lines number text)))
    (faults-one number text some
    ∙ ap (option_map (moved (number - 1))) (some_fault text e short is))

-- a fault as it is told in the text
abbrev pub told : ℕ → Fault → Fault
told number e =
    if is_memory e then e else fault_at e.file (e.line + (number - 1)) e.code

told-fails : (number : ℕ) (text : List ℕ) (e : Fault) → block_at number text ≡ Err e
    → Fails refusal_of e (block_at number text)
told-fails number text e is =
    elim (cases_Bool (is_memory e)) [ inl memory ↦ rw memory tt | inr other ↦ rw other is ]

pub block-fails : (number : ℕ) (text : List ℕ) (e : Fault) → 0 < number
    → length text ≤ MOST_BYTES → Fails refusal_of e (paragraphs_at text)
    → Fails refusal_of (told number e) (block_at number text)
block-fails number text e some short fails =
    elim (cases_Bool (is_memory e)) [
      | inl memory ↦ rw (memory, memory) tt
      | inr other ↦ let is = rw other at fails in
          rw other (told-fails number text (moved (number - 1) e)
          (block-err number text e some short is))
    ]

memory_line : (e : Fault) → is_memory e ≡ true → e.line ≡ 0
memory_line e memory =
    let both = and_parts (e.code == 900 && e.line == 0) (e.file == 0) memory in
    eqb-true e.line 0 (and_parts (e.code == 900) (e.line == 0) both.0).1

-- the line of a fault is one of the text's
pub fault-line : (text : List ℕ) (e : Fault) → length text ≤ MOST_BYTES
    → Fails refusal_of e (paragraphs_at text) → e.line ≤ length (lines_of text)
fault-line text e short fails =
    elim (cases_Bool (is_memory e)) [
      | inl memory ↦ omega (arith, memory_line e memory)
      | inr other ↦ let is = rw other at fails in
          omega (
            arith,
            faults-below (1 + length (lines_of text)) (control_lines 1 text) [] e
                (lines-below (1 + length (lines_of text)) 1 text (omega arith))
                (some_fault text e short is),
          )
    ]
