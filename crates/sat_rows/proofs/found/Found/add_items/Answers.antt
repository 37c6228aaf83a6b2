use Rattle.std.proofs.Common.{◌≡◌, true, get_or, arith}
use Rattle.std.proofs.lemmas.List.{get_or_default}
use Rattle.farm_model.specs.declared.types.Variant.{Variant}
use Rattle.item_index.specs.declared.item.Item.{Item}
use Rattle.sat_rows.specs.Found.{among, some_atom, passes_there}
use Rattle.sat_rows.proofs.Each.{before_next, before_end}
use Rattle.sat_rows.proofs.FoundLaws.{first, put_grows, put_has, item_only, item_has, grows_trans}
use Rattle.sat_rows.proofs.found.Found.add_items.Goals as goal

pub loop-item-preserved : goal.loop-item-preserved
loop-item-preserved g c =
    let so_far = c.loop-item.invariant in
    let u = c.args.universe.now in
    let field = g.F.Field.field in
    let test = g.T.AtomTest.test c.args.test.now in
    let p = some_atom u field test in
    let old = c.loop-item.self in
    let new = c.add.new.self in
    let items = c.args.items.now in
    let i = c.loop-item.item-index in
    let at = get_or items i first in
    let word = c.item_word.result in
    let is = c.item_word.ensures in
    let grows = put_grows u p at.owner.name word old new c.in_ok-add.ensures
    (item_only u field test at word is) in (
      grows_trans u p c.args.self.now old new so_far.0 grows,
      before_next
          (λ (at : Item Variant). passes_there u field test at ≡ true
          → among old at.owner.name at.owner.bit ≡ true)
          (λ (at : Item Variant). passes_there u field test at ≡ true
          → among new at.owner.name at.owner.bit ≡ true) items i at
          (get_or_default items i first _ c.loop-item-test.true)
          (λ w has pass. grows.kept w.owner.name w.owner.bit (has pass)) so_far.1
          (λ pass. put_has u p at.owner.name word old new c.in_ok-add.ensures at.owner.bit
          (item_has u field test at word is pass)),
    )

pub returns-clause-has : goal.returns-clause-has
returns-clause-has g c at is pass =
    let u = c.args.universe.now in
    let field = g.F.Field.field in
    let test = g.T.AtomTest.test c.args.test.now in
    before_end
    (λ (at : Item Variant). passes_there u field test at ≡ true
    → among c.loop-item.self at.owner.name at.owner.bit ≡ true)
    c.args.items.now c.loop-item.item-index (omega arith) c.loop-item.invariant.1 is.0 at is.1 pass
