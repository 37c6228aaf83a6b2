-- The story of a chain of legs. The project's own rules.
--
--   IsGivenBy      a recipe gives a variant
--   IsSeam         one leg goes on from another, which no other run has ended
--   AreSeams       each of some legs goes on from the one before it
--   IsStoryTold    a story is right only if they do
use Rattle.std.specs.Prelude.{◌≡◌, ℕ, ◌<◌, true, List, [], ◌∷◌, length, Option, Some, None}
use Rattle.farm_model.specs.Common.{Universe, contains, outputs}
use Rattle.farm_model.specs.declared.types.Variant.{Variant}
use Rattle.leg_answers.specs.declared.history.History.{History}
use Rattle.leg_runs.specs.declared.leg.LegTexts.{LegTexts}
use Rattle.leg_runs.specs.Fits.{GoesOnFrom, is_next}
use Rattle.leg_runs.specs.Legs.{IsRunOf, LegRun, LegText}
use Rattle.leg_runs.specs.Reads.{text_of}

pub record IsGivenBy (w : Universe) (v : Variant) (recipe : ℕ) : Type 0 where
  pub within : recipe < length w.recipes
  pub gives : contains (outputs w recipe) v ≡ true

-- The texts of two legs stand for these;
pub record IsSeam (first second : LegText) : Type 0 where
  pub before : LegRun
  pub leg : LegRun
  pub before_is : IsRunOf first before
  pub leg_is : IsRunOf second leg
  -- the one goes on where the other has stopped;
  pub goes_on : GoesOnFrom before leg
  -- and if a run has ended that, it is this.
  pub next : is_next before.next leg.name ≡ true

abbrev pub AreSeams : LegTexts → List LegTexts → Type 0
AreSeams first [] = Unit {0}
AreSeams first (next ∷ legs) = IsSeam (text_of first) (text_of next) × AreSeams next legs

abbrev pub IsStoryTold : List LegTexts → Option History → Type 0
IsStoryTold [] told = told ≡ None
IsStoryTold (first ∷ legs) None = ⊥
IsStoryTold (first ∷ legs) (Some h) = h.is_right ≡ true → AreSeams first legs
