-- What becomes of the files of texts, and what comes of them.
use Rattle.std.proofs.Common.{◌≡◌, ◌⊎◌, ℕ, Bool, true, false, List, All, Option, Some, None, Result, Ok, Err, ap, map, refl, sym, subst, ◌∙◌, inl, inr, length, take, get_or}
use Rattle.std.specs.Borrow.{Bor}
use Rattle.std.specs.Prelude.{IfSome, IsErr}
use Rattle.std.proofs.lemmas.Bool.{false≢true}
use Rattle.farm_commands.specs.Folders.{IsRead}
use Rattle.farm_commands.specs.Inputs.{AreIndexes, index_in, index_of}
use Rattle.farm_commands.specs.Makings.{AreReplaced, IsFailed, IsOurs, IsTold, Makes}
use Rattle.farm_commands.specs.TextFiles.{AreWritten, FileOf}
use Rattle.farm_commands.specs.declared.inputs.FileText.{FileText}
use Rattle.import_farm.specs.declared.imported.NamedText.{NamedText}
use Rattle.report_sink.specs.Sinks.{SinkState}

-- a file that may be replaced is one that may be replaced or stays
ours : (head : List ℕ) (known after : Option (List ℕ))
    → IfSome known (λ bytes. take (length head) bytes ≡ head)
    → IfSome known (λ bytes. (take (length head) bytes ≡ head) ⊎ (after ≡ Some bytes))
ours head None after is = tt
ours head (Some bytes) after is = inl is

-- what was read of a file begins as the texts of the command do
pub read-ours : (head : List ℕ) (most : ℕ) (known : Option (List ℕ)) (read : List ℕ) → most ≡ length head
    → IsRead most known read → read ≡ head → IfSome known (λ bytes. take (length head) bytes ≡ head)
read-ours head most None read same is begins = tt
read-ours head most (Some bytes) read same is begins =
    subst (λ n. take n bytes ≡ head) same (sym is ∙ begins)

-- texts that are written where that was allowed
pub replaced : {V E : Type 0} (head : List ℕ) (force : Bool) (files : List FileOf)
    (old new : List ℕ → Option (List ℕ)) (told : Result V E) → AreWritten files old new told
    → (force ≡ false → All (IsOurs head old) files) → AreReplaced head force files old new
replaced head force files old new told written judged = record {
  others = written.others;
  stays = written.stays;
  each = written.each;
  kept = λ unforced k d lt.
      ours head (old (get_or files k d).own) (new (get_or files k d).own) (judged unforced k d lt);
}

module _ (Comes : List FileOf → List ℕ → Type 0) (head : List ℕ) (force : Bool)
    (held after : List ℕ → Option (List ℕ)) where
  -- what failed is told so
  pub told-failed : {E : Type 0} (old new : SinkState) (told : Result ℕ E) → IsErr told
      → IsFailed Comes head force held after → IsTold Comes head force held after old new told
  told-failed old new (Ok status) failed is = absurd (false≢true failed)
  told-failed old new (Err fault) failed is = is

  module _ (Comes' : List FileOf → List ℕ → Type 0)
      (to : (files : List FileOf) (lines : List ℕ) → Comes files lines → Comes' files lines) where
    failed-by : IsFailed Comes head force held after → IsFailed Comes' head force held after
    failed-by (inl same) = inl same
    failed-by (inr cut) = inr record {
      files = cut.files;
      lines = cut.lines;
      comes = to cut.files cut.lines cut.comes;
      within = cut.within;
    }

    made-by : (old new : SinkState) (status : ℕ) → Makes Comes head force held after old new status
        → Makes Comes' head force held after old new status
    made-by old new status (inl (fine, made)) =
        inl (
          fine,
          record {
            files = made.files;
            lines = made.lines;
            comes = to made.files made.lines made.comes;
            within = made.within;
            hold = made.hold;
            told = made.told;
            whole = made.whole;
          },
        )
    made-by old new status (inr (inl refused)) = inr (inl refused)
    made-by old new status (inr (inr (outside, failed))) = inr (inr (outside, failed-by failed))

    -- what comes of it comes of what it is made of
    pub told-by : {E : Type 0} (old new : SinkState) (told : Result ℕ E)
        → IsTold Comes head force held after old new told
        → IsTold Comes' head force held after old new told
    told-by old new (Ok status) is = made-by old new status is
    told-by old new (Err fault) is = failed-by is

-- the indexes of files, lent with their names
pub indexes-named : (read : List ℕ → Option (List ℕ)) (asked passed : List (Bor (List ℕ)))
    (files lent : List FileText) (texts given : List NamedText) → passed ≡ asked
    → AreIndexes read (map (λ name. name.now) passed) (map index_in files) → lent ≡ files
    → map index_of texts ≡ map index_in lent → given ≡ texts
    → AreIndexes read (map (λ name. name.now) asked) (map index_of given)
indexes-named read asked passed files lent texts given names are lends same gives =
    subst (λ xs. AreIndexes read (map (λ (name : Bor (List ℕ)). name.now) xs) (map index_of given)) names
    (subst (AreIndexes read (map (λ (name : Bor (List ℕ)). name.now) passed))
    (sym (ap (map index_of) gives ∙ same ∙ ap (map index_in) lends)) are)
