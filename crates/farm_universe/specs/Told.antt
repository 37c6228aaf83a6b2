-- The faults of a paragraph are told at its first line.
--
--   told file p read                        what is read of the paragraph, its code told at its
--                                           line
--   paragraphs_judged file judge meaning    what paragraphs mean, or the first fault that judge
--                                           finds
use Rattle.std.specs.Prelude.{ℕ, List, Option, Result, Ok, Err}
use Rattle.std.specs.Option.{option_map}
use Rattle.deb_text.specs.Common.{fault_at, placed, judged}
use Rattle.deb_text.specs.declared.fault.Fault.{Fault}
use Rattle.deb_stanza.specs.Stanza.{Paragraph}

-- what is read of a paragraph, its code told at the paragraph's first line
abbrev pub told : {X : Type 0} → ℕ → Paragraph → Result X ℕ → Result X Fault
told file p read = placed file p.line read

-- a code told at the first line of a paragraph
abbrev pub fault_told : ℕ → Paragraph → Option ℕ → Option Fault
fault_told file p code = option_map (fault_at file p.line) code

-- what paragraphs mean, or the first fault that is found in them
unfoldable pub paragraphs_judged : {A : Type 0} → ℕ → (List Paragraph → Paragraph → Option ℕ)
    → (List Paragraph → A) → List Paragraph → Result A Fault
paragraphs_judged file judge meaning ps =
    judged (λ before p. fault_told file p (judge before p)) meaning ps

-- a text of this file: its faults, told with the file's number
abbrev pub in_file : {X : Type 0} → ℕ → Result X Fault → Result X Fault
in_file file (Ok x) = Ok x
in_file file (Err e) = Err (fault_at file e.line e.code)
