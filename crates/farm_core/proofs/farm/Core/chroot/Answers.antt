use Rattle.std.proofs.Common.{◌≡◌, ap, ◌∙◌, subst, arith, length}
use Rattle.chroot_state.specs.Held.{IsHeld}
use Rattle.farm_core.specs.Farm.{Farm, chroot_in}
use Rattle.farm_core.proofs.Stepped.{read}
use Rattle.farm_core.proofs.Views.{chroot_is}
use Rattle.farm_core.proofs.farm.Core.chroot.Goals as goal

pub returns-clause-chroot : goal.returns-clause-chroot
returns-clause-chroot c =
    let lanes = c.self.inside.lanes.items in
    let count : length c.self.inside.plan.now.lanes ≡ length c.args.self.now.plan.lanes =
    ap (λ (f : Farm). length f.plan.lanes) c.self.view_is in
    chroot_is c.self.inside.universe.now c.self.inside.plan.now lanes c.self.inside.archive
    c.self.invariant c.args.lane c.index.result.now
    (read lanes c.args.lane c.index.result.now (omega (arith, c.requires, c.self.invariant.long))
    c.index.ensures)
    ∙ ap (λ (f : Farm). chroot_in f c.args.lane) c.self.view_is

pub returns-clause-held : goal.returns-clause-held
returns-clause-held c =
    let lanes = c.self.inside.lanes.items in
    let count : length c.self.inside.plan.now.lanes ≡ length c.args.self.now.plan.lanes =
    ap (λ (f : Farm). length f.plan.lanes) c.self.view_is in
    subst (λ (f : Farm). IsHeld f.universe c.index.result.now.chroot) c.self.view_is
    (c.self.invariant.each c.args.lane c.index.result.now
    (read lanes c.args.lane c.index.result.now (omega (arith, c.requires, c.self.invariant.long))
    c.index.ensures)).chroot
