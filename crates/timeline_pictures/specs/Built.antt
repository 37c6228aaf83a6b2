-- Which recipes a plan builds, by their names. The project's own rules. Parameters: u the universe, p
-- the plan, name the name of a recipe.
--
--   builds_named    an instruction builds the recipe
--   is_built        an instruction of some lane does
--   first_unbuilt   the first of some names of which no lane builds the recipe
use Rattle.std.specs.Prelude.{ℕ, Bool, false, not, List, length, find, Option}
use Rattle.std.specs.Borrow.{Bor}
use Rattle.std.specs.List.{list_any, range_with_len}
use Rattle.std.specs.Str.{bytes_eq}
use Rattle.farm_model.specs.Common.{Universe, recipe}
use Rattle.plan_model.specs.Plan.{Plan, lane}
use Rattle.plan_model.specs.declared.instructions.Instruction.{Instruction}
use Rattle.plan_model.specs.declared.instructions.Instruction.TheVariants.{Build}

abbrev pub builds_named : Universe → List ℕ → Instruction → Bool
builds_named u name (Build r) = bytes_eq name (recipe u r).name
builds_named u name x = false

abbrev pub is_built : Universe → Plan → List ℕ → Bool
is_built u p name =
    list_any (λ l. list_any (builds_named u name) (lane p l).instructions)
    (range_with_len 0 (length p))

abbrev pub first_unbuilt : Universe → Plan → List (Bor (List ℕ)) → Option (Bor (List ℕ))
first_unbuilt u p names = find (λ name. not (is_built u p name.now)) names
