use Rattle.std.proofs.Common.{sym, ap, ◌∙◌, ◌+◌, ◌-◌, subst, arith}
use Rattle.std.specs.Prelude.{slice_set}
use Rattle.farm_model.specs.Chroot.{Chroot, size_in}
use Rattle.chroot_state.specs.Held.{Held, IsHeld, with_slots}
use Rattle.chroot_state.proofs.Effects.{is-put, held-put, put-within, put-fits}
use Rattle.chroot_state.proofs.chroot.Chroot.put.Goals as goal

pub overflow_sub-self : goal.overflow_sub-self
overflow_sub-self c =
    let u = c.args.universe.now in
    put-within u _ (subst (IsHeld u) (sym c.self.view_is) c.requires.held) c.args.name
    c.requires.named c.size_in-before.result
    (c.size_in-before.ensures.size
    ∙ ap (size_in u c.args.name)
    c.slot_at.ensures)

pub overflow_add-self : goal.overflow_add-self
overflow_add-self c =
    let u = c.args.universe.now in
    let fits =
    put-fits u _ (subst (IsHeld u) (sym c.self.view_is) c.requires.held) c.args.name
    c.requires.named c.size_in-before.result c.size_in-after.result c.names-count.ensures.kept
    c.size_in-after.ensures.small in
    omega (arith, fits)

pub returns-clause-put : goal.returns-clause-put
returns-clause-put c =
    let u = c.args.universe.now in
    let show : Chroot → Held = λ xs. record {
      slots = xs;
      base = c.self.inside.base;
      used = c.self.inside.used - c.size_in-before.result + c.size_in-after.result;
    } in
    ap show c.put.ensures
    ∙ is-put u _ (subst (IsHeld u) (sym c.self.view_is) c.requires.held) c.args.name
    c.requires.named c.args.slot c.size_in-before.result c.size_in-after.result
    (c.size_in-before.ensures.size
    ∙ ap (size_in u c.args.name)
    c.slot_at.ensures)
    c.size_in-after.ensures.size
    ∙ ap (λ h. with_slots u h (slice_set h.slots c.args.name c.args.slot)) c.self.view_is

pub returns-clause-held : goal.returns-clause-held
returns-clause-held c =
    let u = c.args.universe.now in
    subst (IsHeld u) (sym (returns-clause-put c))
    (held-put u c.args.self.now c.requires.held c.args.name c.requires.named c.args.slot
    c.requires.known)
