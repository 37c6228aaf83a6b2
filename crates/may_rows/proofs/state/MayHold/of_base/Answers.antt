use Rattle.std.proofs.Common.{length, get_or, take_all, refl, sym, ap, subst, ◌∙◌, add-one, arith}
use Rattle.farm_model.specs.Common.{variant, IsKnown, Base}
use Rattle.may_rows.proofs.BaseMaps.{AreSlots, slots-next, base-is, added-cost, added-built}
use Rattle.may_rows.proofs.state.MayHold.of_base.Goals as goal

pub loop-place-init : goal.loop-place-init
loop-place-init c = record {
  words = c.in_ok-state.ensures.words;
  slots = c.in_ok-state.ensures.slots;
  cost = c.in_ok-state.ensures.cost;
  built = c.in_ok-state.ensures.built;
}

pub add-requires-clause-known : goal.add-requires-clause-known
add-requires-clause-known c =
    let u = c.args.universe.now in
    let same = c.packages-packages.ensures ∙ ap (λ (b : Base). b.packages) c.base.ensures in
    let there = c.loop-place-test.true in
    let long = ap length same in
    subst (λ xs. IsKnown u (get_or xs c.loop-place.place (variant 0 0))) (sym same)
    (c.names-names.ensures.kept.sound.bases_known c.args.number c.loop-place.place (variant 0 0)
    (omega (arith, there, long)))

pub loop-place-preserved : goal.loop-place-preserved
loop-place-preserved c =
    let xs = c.packages-packages.result.now in
    let x = get_or xs c.loop-place.place (variant 0 0) in
    record {
      words = c.add.ensures.words;
      slots =
          rw add-one
          (slots-next c.loop-place.state c.add.new.self xs c.loop-place.place (variant 0 0) x
          c.loop-place-test.true refl c.loop-place.invariant.slots c.add.ensures.map);
      cost =
          added-cost c.loop-place.state c.add.new.self x c.add.ensures.map
          ∙ c.loop-place.invariant.cost;
      built =
          added-built c.loop-place.state c.add.new.self x c.add.ensures.map
          ∙ c.loop-place.invariant.built;
    }

pub returns-clause-map : goal.returns-clause-map
returns-clause-map c =
    let u = c.args.universe.now in
    let same = c.packages-packages.ensures ∙ ap (λ (b : Base). b.packages) c.base.ensures in
    base-is u c.args.number c.loop-place.state
    (subst (AreSlots c.loop-place.state)
    (take_all c.loop-place.place c.packages-packages.result.now (omega arith) ∙ same)
    c.loop-place.invariant.slots)
    c.loop-place.invariant.cost c.loop-place.invariant.built
