-- A text is cut to its whole lines by their count of bytes.
use Rattle.std.proofs.Common.{◌≡◌, ℕ, Bool, true, false, length, List, [], refl, sym, ap, subst, ◌∙◌}
use Rattle.std.specs.Prelude.{take}
use Rattle.std.specs.List.{list_any}
use Rattle.std.proofs.Math.Seq.{take-append_seam}
use Rattle.deb_text.specs.Common.{is_newline, after_last}
use Rattle.drive_journal.specs.Entries.{whole}
use Rattle.drive_journal.proofs.WholeLines.{whole-and-rest, whole-none}

none_taken : (text xs : List ℕ) → xs ≡ [] → take (length xs) text ≡ xs
none_taken text xs e = subst (λ ys. take (length ys) text ≡ ys) (sym e) (refl)

pub whole_taken : (text : List ℕ) → take (length (whole text)) text ≡ whole text
whole_taken text = by_end (list_any is_newline text) refl
  where
    by_end : (b : Bool) → list_any is_newline text ≡ b → take (length (whole text)) text ≡ whole text
    by_end true found =
        ap (λ x. take (length (whole text)) x) (sym (whole-and-rest text found))
        ∙ take-append_seam (whole text) (after_last is_newline text)
    by_end false none = none_taken text (whole text) (whole-none text none)
