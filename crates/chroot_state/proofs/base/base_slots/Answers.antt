use Rattle.std.proofs.Common.{◌≡◌, ◌-◌, ◌<◌, ◌≤◌, List, length, drop, get_or, sym, ap, ◌∙◌, subst, arith}
use Rattle.std.proofs.lemmas.List.{drop_all, get_or_default}
use Rattle.farm_model.specs.Common.{variant, names, base, Base}
use Rattle.farm_model.specs.declared.types.Variant.{Variant}
use Rattle.chroot_state.specs.Slots.{AreSlots}
use Rattle.chroot_state.proofs.Opened.{BasedFrom, based-none, based-more, based-all, based-slots, named-at}
use Rattle.chroot_state.proofs.base.base_slots.Goals as goal

packages-are : {xs : List Variant} {b c : Base} → xs ≡ b.packages → b ≡ c → xs ≡ c.packages
packages-are same is = same ∙ ap (λ (b : Base). b.packages) is

pub loop-i-init : goal.loop-i-init
loop-i-init c =
    let u = c.args.universe.now in
    let xs = c.packages-packages.result.now in
    let same = packages-are c.packages-packages.ensures c.base.ensures in
    subst (λ ys. BasedFrom u c.args.number ys c.in_ok-slots.slots.items)
    (sym (ap (drop (length xs)) (sym same) ∙ drop_all (length xs) xs (omega arith)))
    (based-none u c.args.number c.in_ok-slots.slots.items _ c.names-count.ensures.number
    (c.in_ok-slots.ensures.items_if_clones_equal (λ y e. e)))

pub index_mut-requires : goal.index_mut-requires
index_mut-requires c =
    let u = c.args.universe.now in
    let xs = c.packages-packages.result.now in
    let same = packages-are c.packages-packages.ensures c.base.ensures in
    let lt : c.loop-i.i - 1 < length xs = omega (arith, c.loop-i-test.true, c.loop-i.auto.i) in
    let named =
    named-at u c.args.number xs (c.loop-i.i - 1) (variant 0 0) c.names-count.ensures.kept.sound same
    lt in
    omega (arith, named, c.loop-i.invariant.long)

pub loop-i-preserved : goal.loop-i-preserved
loop-i-preserved c =
    let u = c.args.universe.now in
    let packages = (base u c.args.number).packages in
    let same = packages-are c.packages-packages.ensures c.base.ensures in
    let x = get_or c.packages-packages.result.now (c.loop-i.i - 1) (variant 0 0) in
    let long = ap length same in
    let le : c.loop-i.i ≤ length packages = omega (arith, c.loop-i.auto.i, long) in
    let lt : c.loop-i.i - 1 < length packages =
    omega (arith, c.loop-i-test.true, c.loop-i.auto.i, long) in
    let is : x ≡ get_or packages (c.loop-i.i - 1) (variant 0 0) =
    ap (λ ys. get_or ys (c.loop-i.i - 1) (variant 0 0)) same in
    let within : c.loop-i.i - 1 < length c.packages-packages.result.now = omega (arith, lt, long) in
    let named : x.name < names u =
    named-at u c.args.number c.packages-packages.result.now (c.loop-i.i - 1) (variant 0 0)
    c.names-count.ensures.kept.sound same within in
    based-more u c.args.number packages c.loop-i.slots.items c.loop-i.i x c.loop-i-test.true le
    (is ∙ get_or_default packages (c.loop-i.i - 1) (variant 0 0) x lt) named c.loop-i.invariant

pub returns-clause-based : goal.returns-clause-based
returns-clause-based c =
    let u = c.args.universe.now in
    let none : c.loop-i.i ≡ 0 = omega (arith, c.loop-i-test.false) in
    based-all u c.args.number c.loop-i.slots.items
    (subst (λ i. BasedFrom u c.args.number (drop i (base u c.args.number).packages)
    c.loop-i.slots.items) none c.loop-i.invariant)

pub returns-clause-known : goal.returns-clause-known
returns-clause-known c =
    subst (AreSlots c.args.universe.now) (sym (returns-clause-based c))
    (based-slots c.args.universe.now c.args.number c.names-count.ensures.kept.sound)

pub returns-clause-small : goal.returns-clause-small
unfolding names
returns-clause-small c =
    omega (
      arith,
      (returns-clause-known c).long,
      c.names-count.ensures.kept.few_names,
      c.names-count.ensures.kept.sound.listed,
    )
