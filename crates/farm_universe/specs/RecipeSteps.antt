-- How the reader of a recipe goes on: no more entries are kept of a build than tell that there are
-- too many. Only the contracts of private functions cite this file.
--
--   first_source_in sources text            the source that a value names
--   first_build_at land p                   what is built, and how
--   first_recipe_at land before p given     what a paragraph says
use Rattle.std.specs.Prelude.{ℕ, List, Result, Ok, ok_or}
use Rattle.deb_text.specs.Steps.{◌>>=◌}
use Rattle.deb_stanza.specs.Stanza.{Paragraph}
use Rattle.deb_relation.specs.Field.{first_relations_at}
use Rattle.deb_relation.specs.declared.kind.Kind.TheVariants.{Provide}
use Rattle.farm_model.specs.Universe.{Recipe}
use Rattle.farm_universe.specs.declared.build.Build.{Build}
use Rattle.farm_universe.specs.declared.error.TheConstants.{UNKNOWN_SOURCE}
use Rattle.farm_universe.specs.declared.sources.Source.{Source}
use Rattle.farm_universe.specs.FieldView.{first_entries}
use Rattle.farm_universe.specs.Land.{Land}
use Rattle.farm_universe.specs.RecipeText.{build_at, one_source, recipe_by}
use Rattle.farm_universe.specs.SourcesText.{SourceTable}

-- two items tell as well as all that there is not one
unfoldable pub first_source_in : SourceTable → List ℕ → Result Source ℕ
first_source_in sources text =
    first_relations_at 2 Provide text
    >>= λ entries. ok_or (one_source sources entries) UNKNOWN_SOURCE

abbrev pub first_of_build : Build → Build
first_of_build build = record {
  needs = first_entries build.needs;
  clashes = first_entries build.clashes;
}

unfoldable pub first_build_at : Land → Paragraph → Result Build ℕ
first_build_at land p = build_at land p >>= λ build. Ok (first_of_build build)

abbrev pub first_recipe_at : Land → List Recipe → Paragraph → List ℕ → Result Recipe ℕ
first_recipe_at land before p given = recipe_by first_build_at land before p given
