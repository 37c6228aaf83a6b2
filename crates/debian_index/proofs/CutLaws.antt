-- From block to block: what the blocks so far and the rest of a text say is what the text says.
use Rattle.std.proofs.Common.{◌≡◌, ℕ, ◌+◌, ◌<◌, ◌≤◌, ◌^◌, ◌⊎◌, nat_eq, nat_lt, Bool, true, false, not, List, [], ◌∷◌, ◌++◌, length, take, drop, filter, Result, Ok, Err, refl, sym, ap, ◌∙◌, append_assoc, inl, inr, arith, length-take, length-drop}
use Rattle.std.specs.List.{list_all, list_any, flat_map, enumerate_from}
use Rattle.std.proofs.lemmas.Bool.{cases_Bool, and_parts, or_parts, ltb-true, eqb-true}
use Rattle.std.proofs.lemmas.List.{append-nil, drop-drop}
use Rattle.std.proofs.lemmas.List.Concat.{flat_map-append}
use Rattle.std.proofs.lemmas.List.Elements.{All-nil, All-push, filter-append}
use Rattle.deb_text.specs.Common.{Fails, fault_at, is_memory, refusal_of, is_newline, is_space, before, Line, lines_of, is_blank_line, is_comment, control_lines, ◌>>=◌, judged, with_front}
use Rattle.deb_text.specs.declared.fault.Fault.{Fault}
use Rattle.deb_text.proofs.LineLaws.{lines_kept-keeps, lines_of-empty}
use Rattle.deb_text.proofs.StepLaws.{fails-with}
use Rattle.deb_stanza.specs.declared.error.TheConstants.{MOST_BYTES, TEXT_TOO_LONG}
use Rattle.deb_stanza.specs.Stanza.{Paragraph, fault_of, paragraphs_of, parts, separates}
use Rattle.debian_index.specs.declared.blocks.Block.{Block}
use Rattle.debian_index.specs.Index.{AreBlocks, AreSingle, IsBlock, IsTooLong, block_at, paragraphs_from, paragraphs_in}
use Rattle.debian_index.specs.Rows.{row_size, stops, AreFilled, AreRows, IsFront}
use Rattle.debian_index.proofs.BlockLaws.{block-short}
use Rattle.debian_index.proofs.FaultLaws.{faults_from, stops_at, judged-append, judged-faults, judged-separator}
use Rattle.debian_index.proofs.RowLaws.{front-lines, row-first, row-some, row-within, some_rest}

abbrev kept : Line → Bool
kept l = not (is_comment l.1)

-- ---- the lines of a front, and those behind it

enumerate-append : (n : ℕ) (xs ys : List (List ℕ))
    → enumerate_from n (xs ++ ys) ≡ enumerate_from n xs ++ enumerate_from (n + length xs) ys
enumerate-append n [] ys = let on : n ≡ n + 0 = omega arith in ap (λ m. enumerate_from m ys) on
enumerate-append n (x ∷ xs) ys =
    let on : n + 1 + length xs ≡ n + length (x ∷ xs) = omega arith in
    ap (λ (ls : List Line). (n, x) ∷ ls)
    (enumerate-append (n + 1) xs ys
    ∙ ap (λ m. enumerate_from (n + 1) xs ++ enumerate_from m ys) on)

control-front : (n : ℕ) (text : List ℕ) (size lines : ℕ) → AreRows text size lines
    → control_lines n text
    ≡ control_lines n (take size text) ++ control_lines (n + lines) (drop size text)
control-front n text size lines is =
    let front = lines_of (take size text) in
    let rest = lines_of (drop size text) in
    ap (λ ls. filter kept (enumerate_from n ls)) (front-lines text size lines is)
    ∙ ap (filter kept) (enumerate-append n front rest)
    ∙ filter-append kept (enumerate_from n front) (enumerate_from (n + length front) rest)
    ∙ ap (λ m. control_lines n (take size text) ++ filter kept (enumerate_from (n + m) rest))
    (sym is.count)

blank-comment : (l : List ℕ) → is_blank_line l ≡ true → is_comment l ≡ false
blank-comment [] blank = refl
blank-comment (b ∷ bs) blank =
    let space : is_space b ≡ true = (and_parts (is_space b) (list_all is_space bs) blank).0 in
    elim (cases_Bool (nat_eq b 35)) [
      | inl is ↦ let e : b ≡ 35 = eqb-true b 35 is in let h = rw e at space in absurd cc
      | inr is ↦ is
    ]

control-stops : (n : ℕ) (ls : List (List ℕ)) → stops ls ≡ true
    → stops_at (filter kept (enumerate_from n ls)) ≡ true
control-stops n [] end = refl
control-stops n (l ∷ ls) end = rw (blank-comment l end) end

front-judged : (n : ℕ) (text : List ℕ) (size lines : ℕ) → IsFront text size lines
    → paragraphs_from n text
    ≡ (paragraphs_from n (take size text) >>= λ ps.
    with_front ps (paragraphs_from (n + lines) (drop size text)))
front-judged n text size lines is =
    ap (judged fault_of paragraphs_of) (control-front n text size lines is.front)
    ∙ judged-append (control_lines n (take size text)) (control_lines (n + lines) (drop size text))
    (control-stops (n + lines) (lines_of (drop size text)) is.end)

from_block : (number : ℕ) (text : List ℕ) (ps : List Paragraph) → block_at number text ≡ Ok ps
    → paragraphs_from number text ≡ Ok ps
from_block number text ps is =
    elim (cases_Bool (nat_lt MOST_BYTES (length text))) [
      | inl long ↦ let h = rw long at is in absurd cc
      | inr short ↦ rw short at is
    ]

-- a front that can be read, and one that cannot
pub front-read : (n : ℕ) (text : List ℕ) (size lines : ℕ) (ps : List Paragraph)
    → IsFront text size lines → block_at n (take size text) ≡ Ok ps
    → paragraphs_from n text ≡ with_front ps (paragraphs_from (n + lines) (drop size text))
front-read n text size lines ps is read =
    front-judged n text size lines is
    ∙ ap (λ r. r >>= λ ps. with_front ps (paragraphs_from (n + lines) (drop size text)))
    (from_block n (take size text) ps read)

front-refused : (n : ℕ) (text : List ℕ) (size lines : ℕ) (d : Fault) → IsFront text size lines
    → paragraphs_from n (take size text) ≡ Err d → paragraphs_from n text ≡ Err d
front-refused n text size lines d is at =
    front-judged n text size lines is
    ∙ ap (λ r. r >>= λ ps. with_front ps (paragraphs_from (n + lines) (drop size text))) at

pub front-fails : (n : ℕ) (text : List ℕ) (size lines : ℕ) (e : Fault) → length text ≤ MOST_BYTES
    → IsFront text size lines → Fails refusal_of e (block_at n (take size text))
    → Fails refusal_of e (paragraphs_from n text)
front-fails n text size lines e short is fails =
    let within : length (take size text) ≤ MOST_BYTES = omega (arith, length-take size text) in
    fails-with refusal_of e (block_at n (take size text)) (paragraphs_from n text)
    (λ d at. front-refused n text size lines d is
    (sym (block-short n (take size text) within) ∙ at)) fails

blank-judged : (n : ℕ) (text : List ℕ) → (length text ≡ 0 → ⊥)
    → is_blank_line (before is_newline text) ≡ true
    → paragraphs_from n text ≡ paragraphs_from (n + 1) (drop (row_size text) text)
blank-judged n text some blank =
    let line = before is_newline text in
    let rest = drop (row_size text) text in
    ap (judged fault_of paragraphs_of)
    (lines_kept-keeps (λ l. not (is_comment l)) n text line rest (row-first text some)
    (ap not (blank-comment line blank)))
    ∙ judged-separator (n, line) (control_lines (n + 1) rest) blank

-- ---- lines of which none is blank

kept-filled : (n : ℕ) (ls : List (List ℕ)) → list_any is_blank_line ls ≡ false
    → list_any separates (filter kept (enumerate_from n ls)) ≡ false
kept-filled n [] filled = refl
kept-filled n (l ∷ ls) filled =
    let both = or_parts (is_blank_line l) (list_any is_blank_line ls) filled in
    let rest = kept-filled (n + 1) ls both.1 in
    elim (cases_Bool (is_comment l)) [
      | inl is ↦ rw is rest
      | inr is ↦ rw (is, both.0) rest
    ]

one-part : (ls : List Line) → list_any separates ls ≡ false → parts ls ≡ ls ∷ []
one-part [] none = refl
one-part (l ∷ ls) none =
    let both = or_parts (separates l) (list_any separates ls) none in
    rw (both.0, one-part ls both.1) refl

one-paragraph : (ls : List Line) → list_any separates ls ≡ false → length (paragraphs_of ls) ≤ 1
one-paragraph [] none = omega arith
one-paragraph (l ∷ ls) none = rw (one-part (l ∷ ls) none) (omega arith)

-- they are one paragraph at most
single-paragraph : (n : ℕ) (text : List ℕ) (size : ℕ) → AreFilled text size
    → length (paragraphs_of (control_lines n (take size text))) ≤ 1
single-paragraph n text size filled =
    one-paragraph (control_lines n (take size text))
    (kept-filled n (lines_of (take size text)) filled)

-- ---- the blocks so far

pub record IsCut (text : List ℕ) (blocks : List Block) (start number : ℕ) : Type 0 where
  pub so_far : paragraphs_from 1 text
      ≡ with_front (flat_map (paragraphs_in text) blocks) (paragraphs_from number (drop start text))
  pub fit : AreBlocks text blocks
  pub single : AreSingle text blocks
  pub within : start ≤ length text
  pub some : 0 < number
  pub few : number ≤ start + 1

front-nil : (r : Result (List Paragraph) Fault) → r ≡ with_front [] r
front-nil (Ok ps) = refl
front-nil (Err e) = refl

front-front : (ps qs : List Paragraph) (r : Result (List Paragraph) Fault)
    → with_front ps (with_front qs r) ≡ with_front (ps ++ qs) r
front-front ps qs (Ok rs) = ap Ok (sym (append_assoc ps qs rs))
front-front ps qs (Err e) = refl

pub cut-none : (text : List ℕ) → IsCut text [] 0 1
cut-none text = record {
  so_far = front-nil (paragraphs_from 1 text);
  fit = All-nil (IsBlock text);
  single = All-nil (λ (block : Block). length (paragraphs_in text block) ≤ 1);
  within = omega arith;
  some = omega arith;
  few = omega arith;
}

first_blank : (text : List ℕ) (size lines : ℕ) → (length text ≡ 0 → ⊥) → IsFront text size lines
    → size ≡ 0 → is_blank_line (before is_newline text) ≡ true
first_blank text size lines some is none =
    sym (ap stops (row-first text some)) ∙ ap (λ n. stops (lines_of (drop n text))) (sym none)
    ∙ is.end

-- past a blank line
pub cut-blank : (text : List ℕ) (blocks : List Block) (start number size lines : ℕ)
    → IsCut text blocks start number → start < length text
    → IsFront (drop start text) size lines → size ≡ 0
    → IsCut text blocks (start + row_size (drop start text)) (number + 1)
cut-blank text blocks start number size lines is below front none =
    let rest = drop start text in
    let some = some_rest text start below in
    record {
      so_far =
          is.so_far
          ∙ ap (with_front (flat_map (paragraphs_in text) blocks))
          (blank-judged number rest some (first_blank rest size lines some front none)
          ∙ ap (paragraphs_from (number + 1)) (drop-drop (row_size rest) start text));
      fit = is.fit;
      single = is.single;
      within = omega (arith, row-within rest, length-drop start text, is.within);
      some = omega arith;
      few = omega (arith, row-some rest some, is.few);
    }

-- past a block that can be read
pub cut-block : (text : List ℕ) (blocks : List Block) (block : Block) (lines : ℕ)
    → length text + 1 < 2 ^ 32 → IsCut text blocks block.start block.number
    → IsFront (drop block.start text) block.size lines
    → AreFilled (drop block.start text) block.size
    → block_at block.number (take block.size (drop block.start text)) ≡ Ok (paragraphs_in text block)
    → IsCut text (blocks ++ block ∷ []) (block.start + block.size) (block.number + lines)
cut-block text blocks block lines small is front filled read =
    let rest = drop block.start text in
    let before = flat_map (paragraphs_in text) blocks in
    let within : block.start + block.size ≤ length text =
    omega (arith, front.front.within, length-drop block.start text, is.within) in
    record {
      so_far =
          is.so_far
          ∙ ap (with_front before)
          (front-read block.number rest block.size lines (paragraphs_in text block) front read)
          ∙ front-front before (paragraphs_in text block)
          (paragraphs_from (block.number + lines) (drop block.size rest))
          ∙ ap (λ ps. with_front ps (paragraphs_from (block.number + lines) (drop block.size rest)))
          (sym (flat_map-append (paragraphs_in text) blocks (block ∷ [])
          ∙ ap (λ ps. before ++ ps) (append-nil (paragraphs_in text block))))
          ∙ ap (λ bytes. with_front (flat_map (paragraphs_in text) (blocks ++ block ∷ []))
          (paragraphs_from (block.number + lines) bytes))
          (drop-drop block.size block.start text);
      fit = All-push (IsBlock text) blocks block is.fit (record {
        within = within;
        some = is.some;
        room = omega (arith, front.front.count, front.front.few, is.few, within, small);
      });
      single =
          All-push (λ (b : Block). length (paragraphs_in text b) ≤ 1) blocks block is.single
          (single-paragraph block.number rest block.size filled);
      within = within;
      some = omega (arith, is.some);
      few = omega (arith, front.front.few, is.few);
    }

pub nothing : (n : ℕ) (text : List ℕ) → length text ≡ 0 → paragraphs_from n text ≡ Ok []
unfolding faults_from
nothing n text none =
    ap (λ ls. judged fault_of paragraphs_of (filter kept (enumerate_from n ls)))
    (lines_of-empty text none)
    ∙ judged-faults []

-- at the end of the text
pub cut-end : (text : List ℕ) (blocks : List Block) (start number : ℕ)
    → IsCut text blocks start number → length text ≤ start
    → paragraphs_from 1 text ≡ Ok (flat_map (paragraphs_in text) blocks)
cut-end text blocks start number is end =
    let before = flat_map (paragraphs_in text) blocks in
    is.so_far
    ∙ ap (with_front before)
    (nothing number (drop start text) (omega (arith, length-drop start text)))
    ∙ ap Ok (append-nil before)

-- ---- a block that cannot be read

refused-text : (text : List ℕ) (blocks : List Block) (start number size lines : ℕ) (d : Fault)
    → IsCut text blocks start number → IsFront (drop start text) size lines
    → paragraphs_from number (take size (drop start text)) ≡ Err d
    → paragraphs_from 1 text ≡ Err d
refused-text text blocks start number size lines d is front at =
    let rest = drop start text in
    is.so_far
    ∙ ap (with_front (flat_map (paragraphs_in text) blocks))
    (front-refused number rest size lines d front at)

too_long : (text : List ℕ) (number : ℕ) (e : Fault) → MOST_BYTES < length text
    → Fails {Y = List Paragraph} refusal_of e (Err (fault_at 0 number TEXT_TOO_LONG))
    → Fails refusal_of e (paragraphs_from 1 text) ⊎ IsTooLong text e
too_long text number e long fails =
    elim (cases_Bool (is_memory e)) [
      | inl memory ↦ inl (rw memory tt)
      | inr other ↦ let h = rw other at fails in
          let same : fault_at 0 number TEXT_TOO_LONG ≡ e = cc in
          inr (record { code = ap (λ (f : Fault). f.code) (sym same); long = long })
    ]

pub cut-fails : (text : List ℕ) (blocks : List Block) (start number size lines : ℕ) (e : Fault)
    → IsCut text blocks start number → IsFront (drop start text) size lines
    → Fails refusal_of e (block_at number (take size (drop start text)))
    → Fails refusal_of e (paragraphs_from 1 text) ⊎ IsTooLong text e
cut-fails text blocks start number size lines e is front fails =
    let block = take size (drop start text) in
    elim (cases_Bool (nat_lt MOST_BYTES (length block))) [
      | inl long ↦ let h = rw long at fails in
          too_long text number e (omega (
            arith,
            ltb-true MOST_BYTES (length block) long,
            length-take size (drop start text),
            length-drop start text,
          )) h
      | inr short ↦ let h = rw short at fails in
          inl (fails-with refusal_of e (paragraphs_from number block) (paragraphs_from 1 text)
          (λ d at. refused-text text blocks start number size lines d is front at) h)
    ]
