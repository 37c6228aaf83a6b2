-- What stands before what is refused of a farm: of a farm text the packages and what its first
-- paragraph says, so without the recipes and the base chroots above a later one.
--
--   readable read                        what is read, unless it is refused
--   before_farm table sources ps         where these paragraphs of a farm text are refused
--   before_of packages sources farm      where one of these texts is refused
--   before_plan packages sources farm    where they are, or a plan over the farm
--   Leaves refused before                this stands before what is refused, unless memory ran out
use Rattle.std.specs.Prelude.{◌≡◌, ℕ, List, [], ◌∷◌, length, Option, Some, None, MatchOption, Result, Ok, Err}
use Rattle.std.specs.Option.{option_and_then, option_or}
use Rattle.deb_text.specs.Answers.{refusal_of}
use Rattle.deb_text.specs.declared.fault.Fault.{Fault}
use Rattle.deb_text.specs.declared.files.TheConstants.{FARM}
use Rattle.deb_stanza.specs.Stanza.{Paragraph}
use Rattle.farm_model.specs.Universe.{Universe}
use Rattle.farm_universe.specs.declared.refused.Refused.{Refused}
use Rattle.farm_universe.specs.FarmText.{Head, head_at, land_of, universe_with}
use Rattle.farm_universe.specs.Land.{Land}
use Rattle.farm_universe.specs.ListText.{variant_words}
use Rattle.farm_universe.specs.PackagesText.{PackageTable}
use Rattle.farm_universe.specs.SourcesText.{SourceTable}
use Rattle.farm_universe.specs.UniverseText.{paragraphs_in, sources_at, table_at, universe_of}

abbrev pub readable : {X E : Type 0} → Result X E → Option X
readable (Ok x) = Some x
readable (Err e) = None

-- a farm without a recipe and without a base chroot
abbrev pub universe_on : Land → Universe
universe_on land = universe_with land (record { recipes = []; bases = [] })

-- the packages as they are written, no name of the architecture, an empty initial archive
abbrev pub bare_land : PackageTable → SourceTable → Land
bare_land table sources = record {
  table = table;
  sources = sources;
  architectures = [];
  initial = variant_words (length table.names) [];
}

-- the packages and what the first paragraph says, or the packages alone where it is refused
abbrev pub land_before : PackageTable → SourceTable → Result Head ℕ → Land
land_before table sources (Ok head) = land_of table sources head
land_before table sources (Err code) = bare_land table sources

unfoldable pub before_farm : PackageTable → SourceTable → List Paragraph → Option Universe
before_farm table sources [] = None
before_farm table sources (p ∷ ps) =
    Some (universe_on (land_before table sources (head_at table p)))

-- nothing stands before a text that is refused as a whole
unfoldable pub before_text : PackageTable → SourceTable → List ℕ → Option Universe
before_text table sources farm =
    option_and_then (before_farm table sources) (readable (paragraphs_in FARM farm))

-- or before what is refused of packages or sources
unfoldable pub before_of : List ℕ → List ℕ → List ℕ → Option Universe
before_of packages sources farm =
    option_and_then
    (λ table. option_and_then (λ listed. before_text table listed farm)
    (readable (sources_at sources)))
    (readable (table_at packages))

-- before a plan stands the whole farm
unfoldable pub before_plan : List ℕ → List ℕ → List ℕ → Option Universe
before_plan packages sources farm =
    option_or (readable (universe_of packages sources farm)) (before_of packages sources farm)

-- the fault, unless memory ran out
abbrev pub refused_for : Refused → Option Fault
refused_for refused = refusal_of refused.fault

-- a fault behind a land
abbrev pub Refuses : Refused → Fault → Land → Type 0
Refuses refused fault land =
    MatchOption (refused_for refused) (Unit {0})
    (λ _. refused ≡ record { fault = fault; before = Some (universe_on land) })

abbrev pub Leaves : Refused → Option Universe → Type 0
Leaves refused before =
    MatchOption (refused_for refused) (Unit {0}) (λ fault. refused.before ≡ before)
