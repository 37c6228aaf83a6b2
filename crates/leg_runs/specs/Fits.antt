-- Whether a leg of a chain goes on where another has stopped. The project's own rules. Parameters:
-- before and leg what the two stand for.
--
--   is_named      the field `After` names a run and the lines of its journal, by their digest
--   is_next       no run goes on from a journal by now, or this one does
--   IsArchive     items are those of the archive at a farm's beginning
--   is_said       the texts of the leg say that it goes on there
--   ContinuesRun     its farm does
--   GoesOnFrom    the leg goes on where the one before has stopped
use Rattle.std.specs.Prelude.{◌≡◌, ℕ, Bool, true, false, ◌&&◌, List, [], ◌∷◌, Option, Some, None}
use Rattle.std.specs.List.{list_all}
use Rattle.std.specs.Str.{bytes_eq}
use Rattle.deb_text.specs.Words.{words}
use Rattle.farm_core.specs.Farm.{Farm}
use Rattle.farm_model.specs.Common.{Universe}
use Rattle.leg_runs.specs.Legs.{LegRun}
use Rattle.leg_laws.specs.Continuation.{IsContinuation}
use Rattle.leg_laws.specs.Named.{Item, is_listed}
use Rattle.rest_farm.specs.Odds.{is_initial_item}

-- two words are these
abbrev pub are_words : List (List ℕ) → (run sum : List ℕ) → Bool
are_words (word ∷ other ∷ []) run sum = bytes_eq word run && bytes_eq other sum
are_words _ run sum = false

abbrev pub is_named : (after : Option (List ℕ)) → (run sum : List ℕ) → Bool
is_named (Some value) run sum = are_words (words value) run sum
is_named None run sum = false

abbrev pub is_next : (next : Option (List ℕ)) → (run : List ℕ) → Bool
is_next (Some next) run = bytes_eq next run
is_next None run = true

abbrev pub IsArchive : Universe → List Item → Type 0
IsArchive w items = (item : Item) → is_listed items item ≡ is_initial_item w item

-- its farm names the run of the one before, and the lines of its journal; and what was withdrawn
-- stays so
abbrev pub is_said : (before leg : LegRun) → Bool
is_said before leg =
    is_named leg.after before.name before.sum
    && list_all (λ i. is_listed leg.gone i) before.gone

-- The archive of a farm begins with what a run has left there and what came by hand, without what is
-- withdrawn, of which no recipe gives anything.
pub record ContinuesRun (run : Farm) (gone : List Item) (w : Universe) : Type 0 where
  pub brought : List Item
  pub archive : IsArchive w brought
  pub continues : IsContinuation run.universe run.state brought gone w

pub record GoesOnFrom (before leg : LegRun) : Type 0 where
  pub said : is_said before leg ≡ true
  pub continues : ContinuesRun before.life.farm leg.gone leg.life.farm.universe
