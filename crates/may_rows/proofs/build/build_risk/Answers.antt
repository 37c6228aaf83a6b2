use Rattle.std.proofs.Common.{◌≡◌, ◌≤◌, ap, ◌∙◌, arith}
use Rattle.farm_model.specs.Common.{recipe, no_recipe, Recipe}
use Rattle.farm_universe.specs.declared.limits.TheConstants.{MOST_SIZE}
use Rattle.may_rows.proofs.Writes.{used_small}
use Rattle.may_rows.proofs.build.build_risk.Goals as goal

pub may_overflow-requires-clause-fits : goal.may_overflow-requires-clause-fits
unfolding recipe
may_overflow-requires-clause-fits c =
    let u = c.args.of.universe.now in
    let kept = c.names-names.ensures.kept in
    let used = used_small u c.args.state.now c.requires.of_lane.words kept in
    let small : (recipe u c.args.recipe).scratch ≤ MOST_SIZE =
    kept.small_scratch c.args.recipe no_recipe c.requires.known in
    let scratch : c.scratch.result ≡ (recipe u c.args.recipe).scratch =
    c.scratch.ensures ∙ ap (λ (r : Recipe). r.scratch) c.recipe-costs.ensures in
    omega (arith, used, small, scratch, c.used.ensures)
