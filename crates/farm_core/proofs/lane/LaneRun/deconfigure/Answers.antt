use Rattle.std.proofs.Common.{refl, length}
use Rattle.farm_model.specs.Traps.{deconfigure_traps, deconfigured}
use Rattle.farm_core.proofs.Taken.{over, free, trapped, gone}
use Rattle.farm_core.proofs.lane.LaneRun.deconfigure.Goals as goal

pub returns-then-is_over : goal.returns-then-is_over
returns-then-is_over c =
    over c.args.universe.now c.args.lane.now c.args.self.now c.requires.run
    (length c.args.members.now)
    (deconfigure_traps c.args.universe.now c.args.self.now.chroot.slots c.args.members.now)
    (length c.args.members.now) refl _ c.is_over.result c.is_over.ensures.over c.if-is_over.true

pub deconfigure-requires-clause-free : goal.deconfigure-requires-clause-free
deconfigure-requires-clause-free c =
    free c.args.universe.now c.args.lane.now c.args.self.now c.requires.run
    (length c.args.members.now)
    (deconfigure_traps c.args.universe.now c.args.self.now.chroot.slots c.args.members.now)
    (length c.args.members.now) refl _ c.is_over.result c.is_over.ensures.over c.if-is_over.false
    c.args.traps c.requires.free

pub returns-in-Err : goal.returns-in-Err
returns-in-Err c =
    trapped c.args.universe.now c.args.lane.now c.args.self.now c.requires.run
    (length c.args.members.now)
    (deconfigure_traps c.args.universe.now c.args.self.now.chroot.slots c.args.members.now)
    (length c.args.members.now) refl _ c.is_over.result c.is_over.ensures.over c.if-is_over.false
    c.deconfigure.new.chroot c.in-Err.trap c.in-Err.ensures.trap c.in-Err.ensures.err

pub returns : goal.returns
returns c =
    gone c.args.universe.now c.args.lane.now c.args.self.now c.requires.run
    (length c.args.members.now)
    (deconfigure_traps c.args.universe.now c.args.self.now.chroot.slots c.args.members.now)
    (length c.args.members.now) refl
    (deconfigured c.args.self.now.chroot.slots c.args.members.now) c.is_over.result
    c.is_over.ensures.over c.if-is_over.false c.deconfigure.new.chroot c.in_default.ensures.trap
    c.in_default.ensures.ok c.deconfigure.ensures.held c.pass.new.self c.pass.ensures
