use Rattle.std.proofs.Common.{List, [], ◌++◌, ap, ◌∙◌}
use Rattle.leg_laws.specs.Named.{Item}
use Rattle.rest_farm.specs.Archive.{kept_items}
use Rattle.rest_farm.proofs.KeptLaws.{kept-both, listed-archive}
use Rattle.rest_farm.proofs.archive.archive_items.Goals as goal

pub returns-clause-list : goal.returns-clause-list
returns-clause-list c =
    let of = c.args.of in
    let first = c.push_kept.new.list.items in
    kept-both of.gone.now of.left.now of.brought.now first c.push_kept-2.new.list.items
    (c.in_ok-push_kept.ensures
    ∙ ap (λ (xs : List Item). xs ++ kept_items of.gone.now c.list.result.now)
    c.new-list.ensures.items
    ∙ ap (λ (xs : List Item). [] ++ kept_items of.gone.now xs) c.list.ensures)
    (c.in_ok-push_kept-2.ensures
    ∙ ap (λ (xs : List Item). first ++ kept_items of.gone.now xs) c.list-2.ensures)

pub returns-clause-stays : goal.returns-clause-stays
returns-clause-stays c item =
    let of = c.args.of in
    listed-archive of.gone.now item of.left.now of.brought.now c.push_kept-2.new.list.items
    (returns-clause-list c)
