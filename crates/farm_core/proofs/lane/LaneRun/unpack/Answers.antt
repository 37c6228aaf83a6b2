use Rattle.std.proofs.Common.{ap, ◌∙◌}
use Rattle.farm_model.specs.Traps.{first_trap, unpack_traps, unpacked}
use Rattle.plan_model.specs.Plan.{capacity, size_cost, unpack_cost}
use Rattle.farm_core.proofs.Taken.{over, free, trapped, gone, room_is}
use Rattle.farm_core.proofs.lane.LaneRun.unpack.Goals as goal

pub returns-then-is_over : goal.returns-then-is_over
returns-then-is_over c =
    over c.args.universe.now c.args.lane.now c.args.self.now c.requires.run
    (unpack_cost c.args.universe.now c.args.variant)
    (unpack_traps c.args.universe.now (capacity c.args.universe.now c.args.lane.now)
    c.args.self.now.chroot.slots c.args.variant)
    c.size_cost-cost.result (c.size_cost-cost.ensures ∙ ap size_cost c.size.ensures) _
    c.is_over.result c.is_over.ensures.over c.if-is_over.true

pub unpack-requires-clause-free : goal.unpack-requires-clause-free
unpack-requires-clause-free c = λ is.
    let u = c.args.universe.now in
    let of = c.args.lane.now in
    let slots = c.args.self.now.chroot.slots in
    ap (λ room. first_trap (unpack_traps u room slots c.args.variant))
    (room_is u of c.args.self.now c.requires.run)
    ∙ free u of c.args.self.now c.requires.run (unpack_cost u c.args.variant)
    (unpack_traps u (capacity u of) slots c.args.variant)
    c.size_cost-cost.result (c.size_cost-cost.ensures ∙ ap size_cost c.size.ensures) _
    c.is_over.result c.is_over.ensures.over c.if-is_over.false c.args.traps c.requires.free is

pub returns-in-Err : goal.returns-in-Err
returns-in-Err c =
    let u = c.args.universe.now in
    let of = c.args.lane.now in
    let slots = c.args.self.now.chroot.slots in
    trapped u of c.args.self.now c.requires.run (unpack_cost u c.args.variant)
    (unpack_traps u (capacity u of) slots c.args.variant)
    c.size_cost-cost.result (c.size_cost-cost.ensures ∙ ap size_cost c.size.ensures) _
    c.is_over.result c.is_over.ensures.over c.if-is_over.false c.unpack.new.chroot c.in-Err.trap
    (c.in-Err.ensures.trap
    ∙ ap (λ room. first_trap (unpack_traps u room slots c.args.variant))
    (room_is u of c.args.self.now c.requires.run))
    c.in-Err.ensures.err

pub returns : goal.returns
returns c =
    let u = c.args.universe.now in
    let of = c.args.lane.now in
    let slots = c.args.self.now.chroot.slots in
    gone u of c.args.self.now c.requires.run (unpack_cost u c.args.variant)
    (unpack_traps u (capacity u of) slots c.args.variant)
    c.size_cost-cost.result (c.size_cost-cost.ensures ∙ ap size_cost c.size.ensures)
    (unpacked slots c.args.variant) c.is_over.result c.is_over.ensures.over c.if-is_over.false
    c.unpack.new.chroot
    (c.in_default.ensures.trap
    ∙ ap (λ room. first_trap (unpack_traps u room slots c.args.variant))
    (room_is u of c.args.self.now c.requires.run))
    c.in_default.ensures.ok c.unpack.ensures.held c.pass.new.self c.pass.ensures
