-- What is promised of the builds that are chosen. A thing is the number of a package; builds are
-- known by their places.
--
--   meets bases goal way            the build of the goal's own recipe; or a build of its source that
--                                   gives all that it asks for, and is whole or light where builds have
--                                   these profiles in any case
--   are_met bases ways order goals  each goal has such a build in the order
--   HaveNumbers ways builds    plain builds that need and give what these do, and an end behind them
--   AreInOrder ways order      each needs only what builds ahead of it give
--   IsAnswer bases ways goals order  both
--   IsChosen bases ways goals choosing  what is chosen is an answer
use Rattle.std.specs.Prelude.{◌≡◌, ℕ, Bool, true, false, ◌==◌, ◌&&◌, List, [], ◌∷◌, ◌++◌, length, map, slice_get, Option, Some, None, is_some, if◌then◌else◌}
use Rattle.std.specs.List.{list_all, list_any}
use Rattle.std.specs.Option.{option_map_or}
use Rattle.stage_choice.specs.Orders.{LeadsTo}
use Rattle.stage_choice.specs.declared.build.StagedBuild.{StagedBuild}
use Rattle.deb_text.specs.Common.{words}
use Rattle.stage_builds.specs.Kinds.{are_final}
use Rattle.stage_answers.specs.declared.choosing.Choosing.{Choosing}
use Rattle.stage_answers.specs.declared.choosing.Choosing.TheVariants.{Builds, NoWay, Wrong}
use Rattle.stage_answers.specs.declared.goal.Goal.{Goal}
use Rattle.stage_builds.specs.declared.scope.Bases.{Bases}
use Rattle.stage_builds.specs.declared.way.Way.{Way}

-- ---- goals

abbrev pub gives : Way → ℕ → Bool
gives way thing = list_any (λ other. other == thing) way.outputs.items

-- the recipe of a number that the wish has itself
abbrev pub is_own : Way → ℕ → Bool
is_own way number = option_map_or (λ own. own.number == number) way.own false

-- the profiles that a build has in any case
abbrev pub base_of : Bases → Way → List (List ℕ)
base_of bases way = if is_some way.own then bases.own.now else bases.chosen.now

abbrev pub is_final_of : Bases → Goal → Way → Bool
is_final_of bases goal way =
    way.source == goal.source && are_final (base_of bases way) (words way.profiles.items)
    && list_all (gives way) goal.things.items

abbrev pub meets_under : Bases → Goal → Option ℕ → Way → Bool
meets_under bases goal None way = is_final_of bases goal way
meets_under bases goal (Some number) way = is_own way number

abbrev pub meets : Bases → Goal → Way → Bool
meets bases goal way = meets_under bases goal goal.own way

abbrev pub meets_at : Bases → Goal → List Way → ℕ → Bool
meets_at bases goal ways place = option_map_or (meets bases goal) (slice_get ways place) false

abbrev pub is_met : Bases → List Way → List ℕ → Goal → Bool
is_met bases ways order goal = list_any (meets_at bases goal ways) order

abbrev pub are_met : Bases → List Way → List ℕ → List Goal → Bool
are_met bases ways order goals = list_all (is_met bases ways order) goals

-- ---- orders

abbrev pub needs_of : List StagedBuild → List (List ℕ)
needs_of builds = map (λ build. build.needs.items) builds

abbrev pub gifts_of : List StagedBuild → List (List ℕ)
gifts_of builds = map (λ build. build.gives.items) builds

-- by place; behind them stands an end that needs and gives nothing
pub record HaveNumbers (ways : List Way) (builds : List StagedBuild) : Type 0 where
  pub needs : needs_of builds ≡ map (λ way. way.needs.items) ways ++ [] ∷ []
  pub gives : gifts_of builds ≡ map (λ way. way.outputs.items) ways ++ [] ∷ []

-- stage_choice's orders of builds, which look at nothing but what builds need and give
pub record AreInOrder (ways : List Way) (order : List ℕ) : Type 0 where
  pub builds : List StagedBuild
  pub numbers : HaveNumbers ways builds
  pub reached : LeadsTo builds order (length ways)

pub record IsAnswer (bases : Bases) (ways : List Way) (goals : List Goal) (order : List ℕ) : Type 0 where
  pub in_order : AreInOrder ways order
  pub met : are_met bases ways order goals ≡ true

-- builds that are chosen are an answer
abbrev pub IsChosen : Bases → List Way → List Goal → Choosing → Type 0
IsChosen bases ways goals (Builds chosen) = IsAnswer bases ways goals chosen.order.items
IsChosen bases ways goals NoWay = Unit {0}
IsChosen bases ways goals Wrong = Unit {0}
