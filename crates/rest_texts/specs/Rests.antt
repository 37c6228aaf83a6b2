-- What comes of a run that has stopped. The project's own rules. Parameters: run the farm in the state
-- that it came to; came and withdrawn the items that words name.
--
--   IsRestOf        texts are of a farm that goes on where the run has stopped
use Rattle.std.specs.Prelude.{◌≡◌, true, List, Ok}
use Rattle.std.specs.List.{list_all}
use Rattle.farm_core.specs.Farm.{Farm}
use Rattle.farm_model.specs.Common.{Universe}
use Rattle.farm_universe.specs.UniverseText.{universe_of}
use Rattle.leg_laws.specs.Named.{Item, is_listed}
use Rattle.rest_farm.specs.declared.judgement.Claims.{Claims}
use Rattle.rest_farm.specs.declared.judgement.RestTexts.{RestTexts}
use Rattle.rest_farm.specs.Rest.{IsRest}

-- Every command reads the texts as a farm that goes on where the run has stopped, with the recipes
-- that are left:
pub record IsRestOf (run : Farm) (came withdrawn : List Item) (texts : RestTexts) : Type 0 where
  pub of : Claims
  pub universe : Universe
  pub read : universe_of texts.packages.items texts.sources.items texts.farm.items ≡ Ok universe
  pub rest : IsRest of universe
  -- of this run;
  pub run_is : of.run.now ≡ run
  -- what came into the archive by hand is named by words,
  pub by_hand : list_all (λ i. is_listed came i) of.brought.now ≡ true
  -- and what words withdraw is withdrawn.
  pub gone : list_all (λ i. is_listed of.gone.now i) withdrawn ≡ true
