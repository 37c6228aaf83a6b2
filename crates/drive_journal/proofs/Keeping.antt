-- What a journal keeps by which no run goes on.
use Rattle.std.proofs.Common.{arith, ◌≡◌, ◌⊎◌, inl, inr, ℕ, ◌+◌, ◌-◌, ◌≤◌, List, [], ◌++◌, length, drop, Option, Some, None, Result, Ok, Err, refl, sym, ap, subst, ◌∙◌, append-nil}
use Rattle.std.specs.Prelude.{take, IfSome, IfErr}
use Rattle.std.specs.Io.KnownBytes.{Appends}
use Rattle.std.specs.List.{list_any}
use Rattle.std.proofs.Math.Seq.{take-append-add}
use Rattle.std.proofs.lemmas.Bool.{cases_Bool}
use Rattle.std.proofs.lemmas.List.{take-append-drop}
use Rattle.deb_text.specs.Common.{is_newline, after_last}
use Rattle.drive_journal.specs.Entries.{whole}
use Rattle.drive_journal.specs.HeadText.{Finding, IsFresh, IsKnown, IsMisfit, finding, run_line}
use Rattle.drive_journal.specs.Resuming.{IsBegunInPart, IsLeft, IsNoMisfit, IsRefused, IsRightMisfit, Keeps, taken}
use Rattle.drive_journal.specs.declared.start.StoreFault.{StoreFault}
use Rattle.drive_journal.specs.declared.start.StoreFault.TheVariants.{Unread, Misfit, Failed, Memory}
use Rattle.drive_journal.proofs.WholeLines.{whole-and-rest, whole-none}
use Rattle.report_sink.specs.Sinks.{SinkState}

-- what holds whatever an error is
pub whatever : {R E P : Type 0} (result : Result R E) → P → IfErr result (λ _. P)
whatever (Ok run) holds = tt
whatever (Err fault) holds = holds

-- ---- what is held by now

whole_first : (text : List ℕ) → (torn : List ℕ) × (text ≡ whole text ++ torn)
whole_first text =
    elim (cases_Bool (list_any is_newline text)) [
      | inl found ↦ (after_last is_newline text, sym (whole-and-rest text found))
      | inr none ↦ (text, ap (λ w. w ++ text) (sym (whole-none text none)))
    ]

-- a text keeps what it has
all_kept : (head stamp text : List ℕ) (found : Finding) → Keeps head stamp text found (Some text)
all_kept head stamp text IsFresh = inl (text, [], sym (append-nil text), refl)
all_kept head stamp text (IsKnown name lines) =
    let first = whole_first text in (first.0, ap Some first.1)
all_kept head stamp text (IsMisfit line) = refl

module _ (head stamp text : List ℕ) where
  same_kept : (found : Finding) (old new : Option (List ℕ)) → IfSome old (λ bytes. bytes ≡ text)
      → new ≡ old → IfSome old (λ _. Keeps head stamp text found new)
  same_kept found None new known same = tt
  same_kept found (Some bytes) new known same =
      subst (Keeps head stamp text found) (sym (same ∙ ap Some known))
      (all_kept head stamp text found)

  -- ---- a cut that fails

  abbrev Left : Option (List ℕ) → Option (List ℕ) → ℕ → Type 0
  Left old new count = (new ≡ old) ⊎ ((kept : ℕ) × (count ≤ kept) × (new ≡ taken kept old))

  cut_fresh : (old new : Option (List ℕ)) → IfSome old (λ bytes. bytes ≡ text) → Left old new 0
      → IfSome old (λ _. Keeps head stamp text IsFresh new)
  cut_fresh old new known (inl same) = same_kept IsFresh old new known same
  cut_fresh None new known (inr cut) = tt
  cut_fresh (Some bytes) new known (inr cut) =
      inl (
        take cut.0 text,
        drop cut.0 text,
        sym (take-append-drop cut.0 text),
        cut.2 ∙ ap (λ b. Some (take cut.0 b)) known,
      )

  pub fresh_left : (old new : SinkState) → IfSome old.contents (λ bytes. bytes ≡ text)
      → IsLeft old new 0 → IfSome old.contents (λ _. Keeps head stamp text IsFresh new.contents)
  fresh_left old new known left = cut_fresh old.contents new.contents known left

  taken_whole : (torn : List ℕ) → text ≡ whole text ++ torn → (kept : ℕ)
      → length (whole text) ≤ kept
      → take kept text ≡ whole text ++ take (kept - length (whole text)) torn
  taken_whole torn is kept le =
      let more = kept - length (whole text) in
      let n : kept ≡ length (whole text) + more = omega arith in
      ap (take kept) is ∙ (ap (λ k. take k (whole text ++ torn)) n
      ∙ take-append-add (whole text) torn more)

  cut_known : (name : List ℕ) (lines : List (List ℕ)) (old new : Option (List ℕ))
      → IfSome old (λ bytes. bytes ≡ text) → Left old new (length (whole text))
      → IfSome old (λ _. Keeps head stamp text (IsKnown name lines) new)
  cut_known name lines old new known (inl same) =
      same_kept (IsKnown name lines) old new known same
  cut_known name lines None new known (inr cut) = tt
  cut_known name lines (Some bytes) new known (inr cut) =
      let first = whole_first text in (
        take (cut.0 - length (whole text)) first.0,
        cut.2 ∙ ap (λ b. Some (take cut.0 b)) known
            ∙ ap Some (taken_whole first.0 first.1 cut.0 cut.1),
      )

  pub known_left : (name : List ℕ) (lines : List (List ℕ)) (old new : SinkState)
      → IfSome old.contents (λ bytes. bytes ≡ text) → IsLeft old new (length (whole text))
      → IfSome old.contents (λ _. Keeps head stamp text (IsKnown name lines) new.contents)
  known_left name lines old new known left =
      cut_known name lines old.contents new.contents known left

  -- ---- a beginning that fails

  on_nothing : (part : List ℕ) (new : Option (List ℕ)) → Appends (Some []) new part
      → new ≡ Some part
  on_nothing part None none = absurd none
  on_nothing part (Some bytes) is = ap Some is

  begun_on : (old cut new : Option (List ℕ)) → cut ≡ taken 0 old
      → (part rest : List ℕ) × (head ++ run_line stamp ≡ part ++ rest) × Appends cut new part
      → IfSome old (λ _. Keeps head stamp text IsFresh new)
  begun_on None cut new is begun = tt
  begun_on (Some bytes) cut new is begun =
      inr (
        begun.0,
        begun.1,
        begun.2,
        on_nothing begun.0 new (subst (λ held. Appends held new begun.0) is begun.3),
      )

  pub begun_left : (old cut new : SinkState) → cut.contents ≡ taken 0 old.contents
      → IsBegunInPart head stamp cut new
      → IfSome old.contents (λ _. Keeps head stamp text IsFresh new.contents)
  begun_left old cut new is begun = begun_on old.contents cut.contents new.contents is begun

  -- ---- refusals

  by_text : (found : Finding) (old new : Option (List ℕ)) → IfSome old (λ bytes. bytes ≡ text)
      → finding head text ≡ found → IfSome old (λ _. Keeps head stamp text found new)
      → IfSome old (λ bytes. Keeps head stamp bytes (finding head bytes) new)
  by_text found None new known is keeps = tt
  by_text found (Some bytes) new known is keeps =
      subst (λ held. Keeps head stamp held (finding head held) new) (sym known)
      (subst (λ f. Keeps head stamp text f new) (sym is) keeps)

  no_line : (old new : SinkState) (fault : StoreFault) → IsNoMisfit fault
      → IsRightMisfit head old new fault
  no_line old new Unread none = tt
  no_line old new (Misfit line) none = absurd none
  no_line old new Failed none = tt
  no_line old new Memory none = tt

  pub refused_by : {R : Type 0} (found : Finding) (old new : SinkState) (result : Result R StoreFault)
      → IfSome old.contents (λ bytes. bytes ≡ text) → finding head text ≡ found
      → IfErr result IsNoMisfit
      → IfErr result (λ _. IfSome old.contents (λ _. Keeps head stamp text found new.contents))
      → IfErr result (IsRefused head stamp old new)
  refused_by found old new (Ok run) known is fault keeps = tt
  refused_by found old new (Err f) known is fault keeps = record {
    misfit = no_line old new f fault;
    keeps = by_text found old.contents new.contents known is keeps;
  }

  told_line : (line : ℕ) (old : Option (List ℕ)) → IfSome old (λ bytes. bytes ≡ text)
      → finding head text ≡ IsMisfit line → IfSome old (λ bytes. finding head bytes ≡ IsMisfit line)
  told_line line None known is = tt
  told_line line (Some bytes) known is =
      subst (λ held. finding head held ≡ IsMisfit line) (sym known) is

  pub misfit_refused : (line : ℕ) (old : SinkState) → IfSome old.contents (λ bytes. bytes ≡ text)
      → finding head text ≡ IsMisfit line → IsRefused head stamp old old (Misfit line)
  misfit_refused line old known is = record {
    misfit = (refl, told_line line old.contents known is);
    keeps = by_text (IsMisfit line) old.contents old.contents known is
        (same_kept (IsMisfit line) old.contents old.contents known refl);
  }

-- ---- nothing was done

unchanged : (head stamp : List ℕ) (old new : Option (List ℕ)) → new ≡ old
    → IfSome old (λ text. Keeps head stamp text (finding head text) new)
unchanged head stamp None new same = tt
unchanged head stamp (Some text) new same =
    same_kept head stamp text (finding head text) (Some text) new refl same

pub unchanged_refused : (head stamp : List ℕ) (old new : SinkState) (fault : StoreFault)
    → new ≡ old → IsNoMisfit fault → IsRefused head stamp old new fault
unchanged_refused head stamp old new fault same none = record {
  misfit = no_line head stamp [] old new fault none;
  keeps = unchanged head stamp old.contents new.contents
      (ap (λ (s : SinkState). s.contents) same);
}

pub unchanged_by : {R : Type 0} (head stamp : List ℕ) (old new : SinkState)
    (result : Result R StoreFault) → new ≡ old → IfErr result IsNoMisfit
    → IfErr result (IsRefused head stamp old new)
unchanged_by head stamp old new (Ok run) same none = tt
unchanged_by head stamp old new (Err fault) same none =
    unchanged_refused head stamp old new fault same none
