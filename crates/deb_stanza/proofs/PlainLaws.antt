-- Lines that are kept by their places, and look-ups in a paragraph.
use Rattle.std.proofs.Common.{subst, not, false, ◌≡◌, ℕ, zero, suc, ◌+◌, ◌-◌, ◌<◌, ◌≤◌, List, [], ◌∷◌, ◌++◌, length, map, take, drop, get_or, Some, None, refl, sym, ap, ◌∙◌, arith, inl, inr}
use Rattle.std.specs.List.{slice_range}
use Rattle.std.proofs.lemmas.Bool.{cases_Bool}
use Rattle.std.proofs.lemmas.List.{append_assoc, drop-drop, get_or-map, length-map, map-append}
use Rattle.std.proofs.lemmas.Option.{slice_get_within}
use Rattle.deb_text.specs.Lines.{lines_of, is_skipped, plain_lines}
use Rattle.deb_text.proofs.LineLaws.{lines_kept-keeps}
use Rattle.deb_stanza.specs.declared.plain.Place.{Place}
use Rattle.deb_stanza.specs.declared.table.Start.{Start}
use Rattle.deb_stanza.specs.Cut.{end_at}
use Rattle.deb_stanza.specs.Stanza.{name_of, same_name, value_of, paragraph_at}
use Rattle.deb_stanza.specs.View.{AreWithin, line_in, paragraph_of_raw, first_of_start, raw_of, texts_in, raws_in, value_named, value_among}
use Rattle.deb_stanza.proofs.CutLaws.{get_or-cut, range-cons}
use Rattle.deb_stanza.proofs.TableLaws.{length-cut, length-texts}

-- ---- lines by their places

module _ (text : List ℕ) where
  pub within_next : (places : List Place) (new : Place) → AreWithin text places
      → new.start ≤ new.end → new.end ≤ length text → AreWithin text (places ++ new ∷ [])
  within_next [] new old order within zero at is =
      let same : new ≡ at = cc is in
      subst (λ (p : Place). (p.start ≤ p.end) × (p.end ≤ length text)) same (order, within)
  within_next [] new old order within (suc i) at is =
      absurd (omega (arith, slice_get_within (new ∷ []) (suc i) at is))
  within_next (p ∷ ps) new old order within zero at is = old zero at is
  within_next (p ∷ ps) new old order within (suc i) at is =
      within_next ps new (λ k x e. old (suc k) x e) order within i at is

  -- a line at the front of the rest
  pub line_there : (rest line : List ℕ) → rest ≡ drop (length text - length rest) text
      → line ≡ take (length line) rest
      → slice_range text (length text - length rest) (length text - length rest + length line)
      ≡ line
  line_there rest line behind front =
      let start = length text - length rest in
      let long : start + length line - start ≡ length line = omega arith in
      ap (λ n. take n (drop start text)) long ∙ ap (take (length line)) (sym behind) ∙ sym front

  -- what stands behind that line
  pub rest_next : (rest behind : List ℕ) → rest ≡ drop (length text - length rest) text
      → behind ≡ drop (length rest - length behind) rest → length behind ≤ length rest
      → length rest ≤ length text → behind ≡ drop (length text - length behind) text
  rest_next rest behind at next shorter within =
      let start = length text - length rest in
      let on : start + (length rest - length behind) ≡ length text - length behind =
      omega arith in
      next ∙ ap (drop (length rest - length behind)) at
      ∙ drop-drop (length rest - length behind) start text ∙ ap (λ n. drop n text) on

  -- a line that is kept, and what stands behind it
  pub kept_next : (places : List Place) (new : Place) (rest line behind : List ℕ)
      → lines_of rest ≡ line ∷ lines_of behind → is_skipped line ≡ false
      → slice_range text new.start new.end ≡ line
      → map (line_in text) (places ++ new ∷ []) ++ plain_lines (new.number + 1) behind
      ≡ map (line_in text) places ++ plain_lines new.number rest
  kept_next places new rest line behind cut is there =
      let before = map (line_in text) places in
      let after = plain_lines (new.number + 1) behind in
      ap (λ ls. ls ++ after) (map-append (line_in text) places (new ∷ []))
      ∙ append_assoc before (line_in text new ∷ []) after
      ∙ ap (λ l. before ++ (new.number, l) ∷ after) there
      ∙ ap (λ ls. before ++ ls) (sym (lines_kept-keeps (λ l. not (is_skipped l)) new.number rest
      line behind cut (ap not is)))

-- ---- look-ups

pub found-at : (name : List ℕ) (texts : List (List ℕ)) (i j : ℕ) (value : List ℕ) → i < j
    → j ≤ length texts → Some value ≡ value_named name (get_or texts i [])
    → value_among name (slice_range texts i j) ≡ Some value
found-at name texts i j value lt le is =
    rw (range-cons texts i j [] lt le)
    (elim (cases_Bool (same_name name (name_of (get_or texts i [])))) [
      | inl same ↦ rw same (sym (rw same at is))
      | inr other ↦ let h = rw other at is in absurd cc
    ])

pub found-later : (name : List ℕ) (texts : List (List ℕ)) (i j : ℕ) → i < j → j ≤ length texts
    → None ≡ value_named name (get_or texts i [])
    → value_among name (slice_range texts i j) ≡ value_among name (slice_range texts (i + 1) j)
found-later name texts i j lt le is =
    rw (range-cons texts i j [] lt le)
    (elim (cases_Bool (same_name name (name_of (get_or texts i [])))) [
      | inl same ↦ let h = rw same at is in absurd cc
      | inr other ↦ rw other refl
    ])

-- the fields of a paragraph
pub value_of-among : (bytes fields : List ℕ) (paragraphs : List Start) (i : ℕ) (d : Start)
    (name : List ℕ) → i < length paragraphs
    → value_of (paragraph_at (map paragraph_of_raw (raws_in bytes fields paragraphs)) i) name
    ≡ value_among name
    (slice_range (texts_in bytes fields) (get_or paragraphs i d).first
    (end_at first_of_start (length fields) paragraphs i))
value_of-among bytes fields paragraphs i d name lt =
    let raws = raws_in bytes fields paragraphs in
    let within : i < length raws =
    omega (arith, length-cut first_of_start raw_of (texts_in bytes fields) paragraphs) in
    ap (λ p. value_of p name)
    (get_or-map paragraph_of_raw raws i (record { line = 0; texts = [] })
    (record { line = 0; fields = [] }) within)
    ∙ ap (λ raw. value_of (paragraph_of_raw raw) name)
    (get_or-cut first_of_start raw_of (texts_in bytes fields) paragraphs i d
    (record { line = 0; texts = [] }) lt)
    ∙ ap (λ n. value_among name (slice_range (texts_in bytes fields) (get_or paragraphs i d).first
    (end_at first_of_start n paragraphs i))) (length-texts bytes fields)

pub line_of-paragraph : (bytes fields : List ℕ) (paragraphs : List Start) (i : ℕ) (d : Start)
    → i < length paragraphs
    → (paragraph_at (map paragraph_of_raw (raws_in bytes fields paragraphs)) i).line
    ≡ (get_or paragraphs i d).line
line_of-paragraph bytes fields paragraphs i d lt =
    let raws = raws_in bytes fields paragraphs in
    let within : i < length raws =
    omega (arith, length-cut first_of_start raw_of (texts_in bytes fields) paragraphs) in
    ap (λ p. p.line)
    (get_or-map paragraph_of_raw raws i (record { line = 0; texts = [] })
    (record { line = 0; fields = [] }) within)
    ∙ ap (λ raw. raw.line)
    (get_or-cut first_of_start raw_of (texts_in bytes fields) paragraphs i d
    (record { line = 0; texts = [] }) lt)

pub length-paragraphs : (bytes fields : List ℕ) (paragraphs : List Start)
    → length (map paragraph_of_raw (raws_in bytes fields paragraphs)) ≡ length paragraphs
length-paragraphs bytes fields paragraphs =
    length-map (raws_in bytes fields paragraphs) paragraph_of_raw
    ∙ length-cut first_of_start raw_of (texts_in bytes fields) paragraphs
