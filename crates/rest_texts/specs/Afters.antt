-- What comes of a run by its texts and its journal. The project's own rules. Parameters: came and
-- withdrawn the items that words name.
--
--   head_in         the head of the journals of four texts
--   OfRest          what is said of the texts that are given out, if there are any
--   OfAfter         the same of what comes of a run by its journal
--   IsWithoutTexts  none are given out
--   IsLedTo         texts are of a farm that goes on where entries have led the run of a plan
--   IsRestAfter     texts are of a farm that goes on where a journal has led the run of four texts
use Rattle.std.specs.Prelude.{◌≡◌, ℕ, List, Ok}
use Rattle.drive_journal.specs.HeadText.{IsKnown, finding, head_text, sums_of}
use Rattle.drive_replay.specs.Follow.{Life, followed_by}
use Rattle.drive_replay.specs.Following.{IsFollowed, first_life}
use Rattle.farm_model.specs.Common.{Universe}
use Rattle.leg_laws.specs.Named.{Item}
use Rattle.plan_model.specs.Plan.{count}
use Rattle.plan_reader.specs.CountedPlan.{CountedPlan}
use Rattle.plan_reader.specs.Input.{Texts}
use Rattle.plan_reader.specs.Planned.{planned_of}
use Rattle.rest_farm.specs.declared.judgement.RestTexts.{RestTexts}
use Rattle.rest_texts.specs.Rests.{IsRestOf}
use Rattle.rest_texts.specs.declared.after.After.{After}
use Rattle.rest_texts.specs.declared.after.After.TheVariants.{Rest as OfRun, Ended, Misfit}
use Rattle.rest_texts.specs.declared.after.TheConstants.{FIRST_ENTRY}
use Rattle.rest_texts.specs.declared.rest.Rest.{Rest}
use Rattle.rest_texts.specs.declared.rest.Rest.TheVariants.{Texts as Made, Refused, Wrong}

abbrev pub head_in : Texts → List ℕ
head_in texts = head_text (sums_of texts.packages texts.sources texts.farm texts.plan)

abbrev pub OfRest : (RestTexts → Type 0) → Rest → Type 0
OfRest Says (Made texts sketch lines) = Says texts
OfRest Says (Refused lines) = Unit {0}
OfRest Says Wrong = Unit {0}

abbrev pub OfAfter : (RestTexts → Type 0) → After → Type 0
OfAfter Says (OfRun rest) = OfRest Says rest
OfAfter Says (Ended run) = Unit {0}
OfAfter Says (Misfit line) = Unit {0}

-- no texts are given out
abbrev pub IsWithoutTexts : After → Type 0
IsWithoutTexts (OfRun (Made texts sketch lines)) = ⊥
IsWithoutTexts (OfRun (Refused lines)) = Unit {0}
IsWithoutTexts (OfRun Wrong) = Unit {0}
IsWithoutTexts (Ended run) = Unit {0}
IsWithoutTexts (Misfit line) = Unit {0}

abbrev pub IsLedTo : Universe → CountedPlan → List ℕ → (came withdrawn : List Item) → RestTexts
    → Type 0
IsLedTo u p entries came withdrawn made =
    (life : Life) × IsFollowed u p FIRST_ENTRY entries life
    × IsRestOf life.farm came withdrawn made

-- The texts stand for a universe and a plan;
pub record IsRestAfter (texts : Texts) (journal : List ℕ) (came withdrawn : List Item)
    (made : RestTexts) : Type 0 where
  pub universe : Universe
  pub plan : CountedPlan
  pub read : planned_of texts.packages texts.sources texts.farm texts.plan
      ≡ Ok (record { universe = universe; plan = plan.lanes })
  pub counted : plan.count ≡ count universe plan.lanes
  -- the journal is of them, and its entries are these lines,
  pub run : List ℕ
  pub lines : List (List ℕ)
  pub found : finding (head_in texts) journal ≡ IsKnown run lines
  -- which lead the core of the plan to a life;
  pub life : Life
  pub followed : followed_by FIRST_ENTRY (first_life universe plan) lines ≡ Ok life
  -- and where the farm stands then, that of these texts goes on.
  pub rest : IsRestOf life.farm came withdrawn made
