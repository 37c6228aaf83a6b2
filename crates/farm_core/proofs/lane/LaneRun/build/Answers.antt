use Rattle.std.proofs.Common.{refl, ap, ◌∙◌}
use Rattle.farm_model.specs.Common.{recipe, first_trap, build_traps, Recipe}
use Rattle.plan_model.specs.Plan.{capacity, build_cost}
use Rattle.farm_core.proofs.Taken.{over, free, trapped, built_on, room_is}
use Rattle.farm_core.proofs.lane.LaneRun.build.Goals as goal

pub returns-then-is_over : goal.returns-then-is_over
returns-then-is_over c =
    let u = c.args.universe.now in
    over u c.args.lane.now c.args.self.now c.requires.run
    (build_cost (recipe u c.args.recipe))
    (build_traps u (capacity u c.args.lane.now) c.args.self.now.chroot.slots
    (recipe u c.args.recipe))
    c.steps-cost.result (c.steps-cost.ensures ∙ ap (λ (r : Recipe). r.steps) c.recipe.ensures) _
    c.is_over.result c.is_over.ensures.over c.if-is_over.true

pub can_build-requires-clause-free : goal.can_build-requires-clause-free
can_build-requires-clause-free c = λ is.
    let u = c.args.universe.now in
    let of = c.args.lane.now in
    let slots = c.args.self.now.chroot.slots in
    ap (λ room. first_trap (build_traps u room slots (recipe u c.args.recipe)))
    (room_is u of c.args.self.now c.requires.run)
    ∙ free u of c.args.self.now c.requires.run (build_cost (recipe u c.args.recipe))
    (build_traps u (capacity u of) slots (recipe u c.args.recipe))
    c.steps-cost.result (c.steps-cost.ensures ∙ ap (λ (r : Recipe). r.steps) c.recipe.ensures) _
    c.is_over.result c.is_over.ensures.over c.if-is_over.false c.args.traps c.requires.free is

pub returns-in-Err : goal.returns-in-Err
returns-in-Err c =
    let u = c.args.universe.now in
    let of = c.args.lane.now in
    let slots = c.args.self.now.chroot.slots in
    trapped u of c.args.self.now c.requires.run (build_cost (recipe u c.args.recipe))
    (build_traps u (capacity u of) slots (recipe u c.args.recipe))
    c.steps-cost.result (c.steps-cost.ensures ∙ ap (λ (r : Recipe). r.steps) c.recipe.ensures) _
    c.is_over.result c.is_over.ensures.over c.if-is_over.false c.args.self.now.chroot c.in-Err.trap
    (c.in-Err.ensures
    ∙ ap (λ room. first_trap (build_traps u room slots (recipe u c.args.recipe)))
    (room_is u of c.args.self.now c.requires.run))
    refl

pub returns : goal.returns
returns c =
    let u = c.args.universe.now in
    let of = c.args.lane.now in
    let slots = c.args.self.now.chroot.slots in
    built_on u of c.args.self.now c.requires.run (build_cost (recipe u c.args.recipe))
    (build_traps u (capacity u of) slots (recipe u c.args.recipe))
    c.steps-cost.result (c.steps-cost.ensures ∙ ap (λ (r : Recipe). r.steps) c.recipe.ensures)
    c.args.recipe c.is_over.result c.is_over.ensures.over c.if-is_over.false
    (c.in_default.ensures
    ∙ ap (λ room. first_trap (build_traps u room slots (recipe u c.args.recipe)))
    (room_is u of c.args.self.now c.requires.run))
    c.pass.new.self c.pass.ensures
