use Rattle.std.proofs.Common.{◌+◌, ◌≤◌, sym, ap, arith, length}
use Rattle.farm_model.specs.Packages.{outputs}
use Rattle.farm_model.proofs.TrapLaws.{within-limit}
use Rattle.may_rows.specs.Words.{Words}
use Rattle.may_rows.proofs.Writes.{words_spent}
use Rattle.may_rows.proofs.build.publish.Goals as goal

pub returns-clause-of_lane : goal.returns-clause-of_lane
returns-clause-of_lane c =
    let paid : c.args.state.now.cost + length (outputs c.args.universe.now c.args.recipe)
    ≤ c.args.lane.now.budget =
    within-limit _ _ _ _ (sym c.in_default.ensures) in
    let many = ap length c.outputs.ensures.outputs in
    let spent = ap (λ (w : Words). w.cost) c.spend.ensures in
    record {
      based = c.requires.of_lane.based;
      small = c.requires.of_lane.small;
      words = words_spent c.args.universe.now c.args.state.now c.spend.new.self _ c.spend.ensures
          c.requires.of_lane.words;
      within = omega (arith, paid, many, spent);
    }
