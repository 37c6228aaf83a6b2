-- Lines for a driver, as they are added.
use Rattle.std.proofs.Common.{◌≡◌, ◌⊎◌, inl, inr, ℕ, true, false, List, [], ◌++◌, length, take, Option, Some, None, refl, sym, ap, subst, ◌∙◌}
use Rattle.std.specs.Io.KnownBytes.{Appends}
use Rattle.std.proofs.Math.Seq.{take-append_seam}
use Rattle.std.proofs.lemmas.List.{append-nil}
use Rattle.report_sink.specs.Sinks.{SinkState, IsWritten}
use Rattle.report_sink.proofs.WriteLaws.{written_twice, cut_short}
use Rattle.drive_run.specs.Asking.{IsAdded, IsSent, outgoing}

-- ---- a line that is added to a text in memory

appended_is : (items text taken : List ℕ) (known : Option (List ℕ)) → known ≡ Some text
    → Appends (Some items) known taken → text ≡ items ++ taken
appended_is items text taken None e is = absurd (cc)
appended_is items text taken (Some xs) e is = let same : xs ≡ text = cc in sym same ∙ is

module _ (old new : SinkState) (items text line : List ℕ)
    (before : old ≡ record { contents = Some items; failed = false })
    (after : Some text ≡ new.contents) (written : IsWritten old new line) where
  taken_is : text ≡ items ++ written.taken
  taken_is =
      appended_is items text written.taken new.contents (sym after)
      (subst (λ (s : SinkState). Appends s.contents new.contents written.taken) before
      written.appended)

  pub whole_text : new.failed ≡ false → text ≡ items ++ line
  whole_text ok =
      let all : line ≡ written.taken =
      written.is_part ∙ (ap (λ rest. written.taken ++ rest) (written.whole ok)
      ∙ append-nil written.taken) in
      taken_is ∙ ap (λ t. items ++ t) (sym all)

  pub first_text : take (length items) text ≡ items
  first_text = ap (take (length items)) taken_is ∙ take-append_seam items written.taken

-- ---- lines that are left, or sent

pub line_left : (taken taken' : SinkState) (left left' line : List ℕ) → taken' ≡ taken
    → left' ≡ left ++ line → IsAdded (outgoing taken left) (outgoing taken' left') line
line_left taken taken' left left' line same e = inl (λ i. record { taken = same i; left = e i })

module _ (taken old mid : SinkState) (left were left' line : List ℕ) (same : old ≡ taken)
    (same_left : were ≡ left) (first : IsWritten old mid were) (none : left' ≡ []) where
  first_is : IsWritten taken mid left
  first_is = subst (λ (s : SinkState). IsWritten s mid left) same
      (subst (λ xs. IsWritten old mid xs) same_left first)

  pub line_sent : (taken' : SinkState) → IsWritten mid taken' line
      → IsAdded (outgoing taken left) (outgoing taken' left') line
  line_sent taken' second =
      inr (record {
        written = written_twice taken mid taken' left line first_is second;
        none_left = none;
      })

  pub line_cut : mid.failed ≡ true → IsAdded (outgoing taken left) (outgoing mid left') line
  line_cut failed =
      inr (record { written = cut_short taken mid left line first_is failed; none_left = none })
