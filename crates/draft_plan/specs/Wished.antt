-- What is wanted of a plan, and what a plan is a sketch of. The project's own rules.
--
--   WantedLane, Wanted      lanes with their builds, and recipes that any lane may build
--   pinned, wanted_recipes  the recipes that some lane is to build; all that are to be built
--   builds                  the recipes that instructions build
--   sketch                  the lanes of a plan, with each recipe's first build alone
use Rattle.std.specs.Prelude.{ℕ, Bool, List, [], ◌∷◌, ◌++◌, Option, Some, if◌then◌else◌}
use Rattle.std.specs.List.{flat_map}
use Rattle.farm_model.specs.Chroot.{member}
use Rattle.plan_model.specs.Plan.{Lane, Plan}
use Rattle.plan_model.specs.declared.instructions.Instruction.{Instruction}
use Rattle.plan_model.specs.declared.instructions.Instruction.TheVariants.{Build}

-- a lane: its name, the number of its base chroot, the budget that it is to have, none where that
-- is what it will cost, and the recipes that it is to build, in order
pub record WantedLane : Type 0 where
  pub name : List ℕ
  pub base : ℕ
  pub budget : Option ℕ
  pub builds : List ℕ

-- the lanes in order, and the recipes that any of them may build
pub record Wanted : Type 0 where
  pub lanes : List WantedLane
  pub free : List ℕ

-- the recipes that a lane is named for
abbrev pub pinned : List WantedLane → List ℕ
pinned lanes = flat_map (λ w. w.builds) lanes

-- the recipes that are to be built
abbrev pub wanted_recipes : Wanted → List ℕ
wanted_recipes w = pinned w.lanes ++ w.free

-- the recipe that an instruction builds
abbrev pub built_by : Instruction → List ℕ
built_by (Build r) = r ∷ []
built_by x = []

-- the recipes that instructions build, in order
abbrev pub builds : List Instruction → List ℕ
builds xs = flat_map built_by xs

-- the recipes that a plan builds, lane by lane
abbrev pub all_builds : Plan → List ℕ
all_builds p = flat_map (λ l. builds l.instructions) p

-- those that are not among the seen ones, each at its first place
abbrev pub first_of : (seen rs : List ℕ) → List ℕ
first_of seen [] = []
first_of seen (r ∷ rs) =
    if member seen r then first_of seen rs else r ∷ first_of (seen ++ r ∷ []) rs

-- what a lane is a sketch of, where these were built before
abbrev pub sketched : List ℕ → Lane → WantedLane
sketched seen l = record {
  name = l.name;
  base = l.base;
  budget = Some l.budget;
  builds = first_of seen (builds l.instructions);
}

-- the lanes, a recipe's first build of them all alone
abbrev pub sketch : (seen : List ℕ) → Plan → List WantedLane
sketch seen [] = []
sketch seen (l ∷ ls) =
    sketched seen l ∷ sketch (seen ++ first_of seen (builds l.instructions)) ls
