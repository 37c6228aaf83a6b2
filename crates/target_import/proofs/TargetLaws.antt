-- Lines ahead of others, and answers.
use Rattle.std.proofs.Common.{◌≡◌, ℕ, false, List, [], ◌++◌, Ok, ap, sym, subst, ◌∙◌, append_assoc, inl, inr}
use Rattle.std.specs.Global.{Vec}
use Rattle.farm_lookup.specs.declared.needs.Unmet.{Unmet}
use Rattle.import_farm.specs.Imported.{AreImported}
use Rattle.import_farm.specs.Notes.{HasNotes}
use Rattle.import_farm.specs.declared.imported.Imported.{Imported}
use Rattle.import_farm.specs.declared.imported.Imported.TheVariants.{Texts, Refused, Wrong}
use Rattle.import_farm.specs.declared.imported.Inputs.{Inputs}
use Rattle.import_wish.specs.Targets.{leaves_choice_in}
use Rattle.target_import.specs.ForTargets.{AreMadeFor, HasNoTexts}

-- notes stay behind further lines
pub notes-behind : (unmet : List Unmet) (table lines told : List ℕ) → told ≡ table ++ lines
    → HasNotes unmet lines → HasNotes unmet told
notes-behind unmet table lines told is noted = (
  table ++ noted.0,
  noted.1,
  noted.2,
  is ∙ ap (λ t. table ++ t) noted.3
      ∙ sym (append_assoc table noted.0 (noted.1 ++ noted.2)),
  noted.4,
)

-- an import of a wish that leaves no choice
pub native : (inputs : Inputs) (imported : Imported) (wish : List ℕ)
    → leaves_choice_in inputs.wish.now ≡ false → wish ≡ [] → AreImported inputs imported
    → AreMadeFor inputs imported wish
native inputs (Texts texts unmet lines) wish leaves none are =
    inr (none, record { imported = are.0; noted = are.1; explicit = leaves })
native inputs (Refused lines) wish leaves none are = none
native inputs Wrong wish leaves none are = none

-- no texts, and no wish
pub without : (inputs : Inputs) (imported : Imported) (wish : List ℕ) → HasNoTexts imported
    → wish ≡ [] → AreMadeFor inputs imported wish
without inputs (Texts texts unmet lines) wish leaves none = elim leaves [ ]
without inputs (Refused lines) wish leaves none = none
without inputs Wrong wish leaves none = none
