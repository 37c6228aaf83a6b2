use Rattle.std.proofs.Common.{◌≡◌, sym, ap, ◌∙◌, arith, length}
use Rattle.farm_core.specs.Farm.{Farm}
use Rattle.plan_model.specs.Run.{is_finished}
use Rattle.farm_core.proofs.Views.{left_at, all_ended}
use Rattle.farm_core.proofs.farm.Core.finished.Goals as goal

pub returns-then-done-instructions : goal.returns-then-done-instructions
returns-then-done-instructions c =
    let p = c.self.inside.plan.now.lanes in
    let lanes = c.self.inside.lanes.items in
    sym (ap (λ (f : Farm). is_finished f.plan.lanes f.state) (sym c.self.view_is)
    ∙ left_at c.self.inside.universe.now p lanes c.self.inside.archive c.self.invariant
    c.loop-number.number c.index.result.now
    (omega (arith, c.loop-number-test.true, c.lanes-number-end.ensures.lanes))
    c.index.ensures c.lane.result.now c.lane.ensures
    (rw c.instructions.ensures at c.if-done-instructions.true))

pub returns : goal.returns
returns c =
    let count : length c.self.inside.plan.now.lanes ≡ length c.args.self.now.plan.lanes =
    ap (λ (f : Farm). length f.plan.lanes) c.self.view_is in
    sym (all_ended c.args.self.now.plan.lanes c.args.self.now.state c.loop-number.number
    (omega (
      arith,
      c.loop-number.auto.number-end,
      c.loop-number-test.false,
      c.lanes-number-end.ensures.lanes,
    ))
    c.loop-number.invariant)
