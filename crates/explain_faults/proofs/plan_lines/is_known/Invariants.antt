use Rattle.std.proofs.Common.{◌≡◌, drop}
use Rattle.deb_profile.specs.Restriction.{is_among}
use Rattle.explain_faults.specs.PlanLines.{base_names, recipe_names}
use Rattle.explain_faults.proofs.plan_lines.is_known.Given as goal

abbrev pub invariant-loop-recipe : goal.invariant-loop-recipe
invariant-loop-recipe l =
    is_among (recipe_names (drop l.recipe l.universe.recipes)) l.word
    ≡ is_among (recipe_names l.universe.recipes) l.word

abbrev pub invariant-loop-base : goal.invariant-loop-base
invariant-loop-base l =
    is_among (base_names (drop l.base l.universe.bases)) l.word
    ≡ is_among (base_names l.universe.bases) l.word
