-- Orders of builds, in which each can be made once those ahead of it are. The project's own words.
--
--   needs, gives     the things that the build of a place needs, and gives
--   given            what builds of some places give
--   can_follow       a build can be made after some others
--   AreReached       an order in which each build can be made
--   LeadsTo          such an order, after which the end can be made
--   IsWhole          an order that no build can follow
--   IsAheadOf        the front of an order ahead of a place
use Rattle.std.specs.Prelude.{◌≡◌, ℕ, Bool, false, ◌<◌, ◌==◌, ◌&&◌, not, List, [], length, nat_lt, slice_get, slice_index, take, EachIndex, IsTrue}
use Rattle.std.specs.List.{list_any, list_all, flat_map}
use Rattle.std.specs.Option.{option_map_or}
use Rattle.stage_choice.specs.declared.build.StagedBuild.{StagedBuild}

-- a list has a number
abbrev pub has : List ℕ → ℕ → Bool
has list number = list_any (λ other. number == other) list

-- past the last build there is nothing
abbrev pub needs : List StagedBuild → ℕ → List ℕ
needs builds place = option_map_or (λ build. build.needs.items) (slice_get builds place) []

abbrev pub gives : List StagedBuild → ℕ → List ℕ
gives builds place = option_map_or (λ build. build.gives.items) (slice_get builds place) []

abbrev pub given : List StagedBuild → List ℕ → List ℕ
given builds places = flat_map (gives builds) places

-- it is a build, it is none of the others, and they give all that it needs
abbrev pub can_follow : List StagedBuild → List ℕ → ℕ → Bool
can_follow builds others place =
    nat_lt place (length builds) && not (has others place)
    && list_all (has (given builds others)) (needs builds place)

-- each build of the order can follow those ahead of it
abbrev pub AreReached : List StagedBuild → List ℕ → Type 0
AreReached builds order =
    EachIndex order (λ k. IsTrue (can_follow builds (take k order) (slice_index order k)))

abbrev pub LeadsTo : List StagedBuild → List ℕ → ℕ → Type 0
LeadsTo builds order end = AreReached builds order × IsTrue (can_follow builds order end)

abbrev pub IsWhole : List StagedBuild → List ℕ → Type 0
IsWhole builds order = (place : ℕ) → can_follow builds order place ≡ false

abbrev pub IsAheadOf : List ℕ → ℕ → List ℕ → Type 0
IsAheadOf order place ahead =
    (k : ℕ) × (k < length order) × (slice_index order k ≡ place) × (ahead ≡ take k order)
