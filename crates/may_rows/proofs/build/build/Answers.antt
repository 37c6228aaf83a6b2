use Rattle.std.proofs.Common.{◌+◌, ◌≤◌, sym, ap, ◌∙◌, arith}
use Rattle.farm_model.specs.Common.{recipe, Recipe}
use Rattle.farm_model.proofs.TrapLaws.{within-limit}
use Rattle.may_rows.specs.Words.{Words}
use Rattle.may_rows.proofs.Builds.{words_built}
use Rattle.may_rows.proofs.Writes.{words_spent}
use Rattle.may_rows.proofs.build.build.Goals as goal

pub spend-requires : goal.spend-requires
spend-requires c =
    let paid : c.args.state.now.cost + (recipe c.args.of.universe.now c.args.recipe).steps
    ≤ c.args.of.lane.now.budget =
    within-limit _ _ _ _ (sym c.in_default.ensures) in
    let steps = c.steps.ensures ∙ ap (λ (r : Recipe). r.steps) c.recipe.ensures in
    omega (arith, paid, steps, c.requires.of_lane.small)

pub set_built-requires : goal.set_built-requires
set_built-requires c =
    let same = words_spent c.args.of.universe.now c.args.state.now c.spend.new.self c.steps.result
    c.spend.ensures c.requires.of_lane.words in
    omega (arith, same.built_long, c.requires.known)

pub returns-clause-of_lane : goal.returns-clause-of_lane
returns-clause-of_lane c =
    let paid : c.args.state.now.cost + (recipe c.args.of.universe.now c.args.recipe).steps
    ≤ c.args.of.lane.now.budget =
    within-limit _ _ _ _ (sym c.in_default.ensures) in
    let steps = c.steps.ensures ∙ ap (λ (r : Recipe). r.steps) c.recipe.ensures in
    let u = c.args.of.universe.now in
    let noted = ap (λ (w : Words). w.cost) c.set_built.ensures in
    let spent = ap (λ (w : Words). w.cost) c.spend.ensures in
    record {
      based = c.requires.of_lane.based;
      small = c.requires.of_lane.small;
      words = words_built u c.spend.new.self c.set_built.new.self c.args.recipe c.set_built.ensures
          (words_spent u c.args.state.now c.spend.new.self c.steps.result c.spend.ensures
          c.requires.of_lane.words);
      within = omega (arith, paid, steps, noted, spent);
    }
