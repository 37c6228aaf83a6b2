use Rattle.std.proofs.Common.{rules, ◌≡◌, ◌++◌, ◌∷◌, [], ◌<◌, sym, ◌∙◌, subst, length, length-set, arith}
use Rattle.std.specs.Prelude.{slice_set}
use Rattle.chroot_state.specs.Present.{ListsPresent}
use Rattle.chroot_state.proofs.Present.{listed_same, listed_more, listed_less, room_for_more, is_listed, told_at}
use Rattle.chroot_state.proofs.held.Slots.put.Goals as goal

pub push_reserved-requires : goal.push_reserved-requires
push_reserved-requires c =
    let slots = c.self.inside.slots.items in
    let lt = subst (λ xs. c.args.name < length xs) (sym c.self.view_is) c.requires in
    let read =
    told_at slots c.args.name c.self.view_is c.at.ensures c.is_present-was_present.ensures in
    let was = read ∙ c.if-not-was_present.true in
    let is = sym c.is_present.ensures ∙ c.if-is_present.true in
    let room =
    room_for_more slots c.args.name c.args.slot lt c.self.inside.present.items
    c.self.invariant.listed was is in
    omega (arith, room, c.self.invariant.fits)

pub invariant_of-self : goal.invariant_of-self
invariant_of-self c =
    let slots = c.self.inside.slots.items in
    let lt = subst (λ xs. c.args.name < length xs) (sym c.self.view_is) c.requires in
    let read =
    told_at slots c.args.name c.self.view_is c.at.ensures c.is_present-was_present.ensures in
    let was = read ∙ c.if-not-was_present.true in
    let is = sym c.is_present.ensures ∙ c.if-is_present.true in
    let grown : c.push_reserved.new.self.items
    ≡ c.self.inside.present.items ++ c.args.name ∷ [] = search rules in
    record {
      listed = subst (ListsPresent (slice_set slots c.args.name c.args.slot)) (sym grown)
          (listed_more slots c.args.name c.args.slot lt c.self.inside.present.items
          c.self.invariant.listed was is);
      fits = omega (
        arith,
        length-set slots c.args.name c.args.slot,
        c.self.invariant.fits,
        c.push_reserved.ensures.capacity,
      );
      small = omega (arith, length-set slots c.args.name c.args.slot, c.self.invariant.small);
    }

pub invariant_of-self-else-not-was_present : goal.invariant_of-self-else-not-was_present
invariant_of-self-else-not-was_present c =
    let slots = c.self.inside.slots.items in
    let lt = subst (λ xs. c.args.name < length xs) (sym c.self.view_is) c.requires in
    let read =
    told_at slots c.args.name c.self.view_is c.at.ensures c.is_present-was_present.ensures in
    let stays : c.is_present-was_present.result ≡ c.is_present.result = search rules in
    record {
      listed = listed_same slots c.args.name c.args.slot lt c.self.inside.present.items
          c.self.invariant.listed (read ∙ stays ∙ c.is_present.ensures);
      fits = omega (arith, length-set slots c.args.name c.args.slot, c.self.invariant.fits);
      small = omega (arith, length-set slots c.args.name c.args.slot, c.self.invariant.small);
    }

pub take_out-requires : goal.take_out-requires
take_out-requires c =
    let slots = c.self.inside.slots.items in
    let lt = subst (λ xs. c.args.name < length xs) (sym c.self.view_is) c.requires in
    let read =
    told_at slots c.args.name c.self.view_is c.at.ensures c.is_present-was_present.ensures in
    let there = is_listed slots c.args.name c.args.slot lt c.self.inside.present.items
    c.self.invariant.listed (read ∙ c.if-was_present.true) in
    record { listed = there }

pub invariant_of-self-then-was_present : goal.invariant_of-self-then-was_present
invariant_of-self-then-was_present c =
    let slots = c.self.inside.slots.items in
    let lt = subst (λ xs. c.args.name < length xs) (sym c.self.view_is) c.requires in
    let read =
    told_at slots c.args.name c.self.view_is c.at.ensures c.is_present-was_present.ensures in
    let is = sym c.is_present.ensures ∙ c.if-is_present.false in
    record {
      listed = listed_less slots c.args.name c.args.slot lt c.self.inside.present.items
          c.self.invariant.listed c.take_out.new.present.items c.take_out.ensures.gone
          (read ∙ c.if-was_present.true) is;
      fits = omega (
        arith,
        length-set slots c.args.name c.args.slot,
        c.self.invariant.fits,
        c.take_out.ensures.room,
      );
      small = omega (arith, length-set slots c.args.name c.args.slot, c.self.invariant.small);
    }
