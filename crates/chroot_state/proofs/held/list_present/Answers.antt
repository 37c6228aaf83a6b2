use Rattle.std.proofs.Common.{refl, sym, ap, ◌∙◌, true, false, arith, length, append-nil}
use Rattle.std.specs.Vec.{vec_capacity}
use Rattle.std.specs.List.{sum_by}
use Rattle.chroot_state.proofs.Present.{list_more, short_more}
use Rattle.chroot_state.proofs.held.list_present.Goals as goal
use Rattle.chroot_state.proofs.held.list_present.Goals.{then-is_present, else-is_present}

pub loop-name-init : goal.loop-name-init
loop-name-init c = record {
  listed = λ f. ap (sum_by f) c.clear.ensures.items;
  short = omega (arith, ap length c.clear.ensures.items);
  room = refl;
}

pub loop-name-preserved : goal.loop-name-preserved
loop-name-preserved c =
    let slots = c.args.slots.now in
    let before = c.loop-name.invariant in
    let old = c.loop-name.present.items in
    let new = c.if-is_present.present.items in
    elim c.if-is_present.branch [
      | then-is_present w ↦
          let e = ap (λ v. v.items) w.present-is ∙ w.push_reserved.ensures.items in
          record {
            listed = list_more slots c.loop-name.name old new true before.listed
                (sym c.is_present.ensures ∙ w.if-is_present.true) e;
            short = short_more c.loop-name.name old new true before.short e;
            room = ap vec_capacity w.present-is ∙ (w.push_reserved.ensures.capacity ∙ before.room);
          }
      | else-is_present w ↦
          let e = ap (λ v. v.items) w.present-is ∙ sym (append-nil old) in
          record {
            listed = list_more slots c.loop-name.name old new false before.listed
                (sym c.is_present.ensures ∙ w.if-is_present.false) e;
            short = short_more c.loop-name.name old new false before.short e;
            room = ap vec_capacity w.present-is ∙ before.room;
          }
    ]
