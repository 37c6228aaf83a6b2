use Rattle.std.proofs.Common.{◌∙◌, get_or, sym, arith}
use Rattle.std.proofs.lemmas.Bool.{true≢false}
use Rattle.std.proofs.lemmas.List.{get_or_default}
use Rattle.item_index.specs.declared.item.Item.{Item}
use Rattle.farm_model.specs.declared.types.Variant.{Variant}
use Rattle.sat_rows.specs.Inside.{IsInside}
use Rattle.sat_rows.proofs.Each.{before_next, before_end}
use Rattle.sat_rows.proofs.FoundLaws.{first}
use Rattle.sat_rows.proofs.inside.owner_inside.Goals as goal

pub loop-item-preserved : goal.loop-item-preserved
loop-item-preserved c =
    let items = c.args.items.now in
    let i = c.loop-item.item-index in
    let none = λ (at : Item Variant).
    ¬ IsInside c.args.universe.now c.args.atom.now c.args.words.now at.owner.name in
    before_next none none items i (get_or items i first)
    (get_or_default items i first _ c.loop-item-test.true) (λ at kept. kept) c.loop-item.invariant
    (λ inside. true≢false (sym (c.is_inside.ensures.1 inside) ∙ c.if-is_inside.false))

pub returns-clause-none : goal.returns-clause-none
returns-clause-none c out at is =
    before_end
    (λ at. ¬ IsInside c.args.universe.now c.args.atom.now c.args.words.now at.owner.name)
    c.args.items.now c.loop-item.item-index (omega arith) c.loop-item.invariant is.0 at is.1
