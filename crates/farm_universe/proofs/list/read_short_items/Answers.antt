use Rattle.std.proofs.lemmas.Result.{err_from_is_err_and}
use Rattle.deb_text.specs.Steps.{steps}
use Rattle.deb_relation.specs.Common.{entry_at, relations_at, refusal_of as fault_of}
use Rattle.deb_relation.specs.declared.kind.Kind.TheVariants.{Provide}
use Rattle.deb_relation.proofs.FieldLaws.{each-ends, each-stops}
use Rattle.farm_universe.specs.FarmSteps.{add_item}
use Rattle.farm_universe.specs.TableView.{table_view}
use Rattle.farm_universe.specs.View.{refusal_of}
use Rattle.farm_universe.proofs.ListLaws.{AreDifferent-none}
use Rattle.farm_universe.proofs.TextListLaws.{items_left-all, judged-behind, items-go, items-stop}
use Rattle.farm_universe.proofs.list.read_short_items.Goals as goal

pub loop-item-init : goal.loop-item-init
unfolding relations_at
loop-item-init c = record {
  so_far =
      rw c.new-variants.ensures.items
      (items_left-all (table_view c.args.table.now) c.args.text.now);
  judged = c.requires.judged;
  different = AreDifferent-none (table_view c.args.table.now) _ c.new-variants.ensures.items;
}

pub returns-in_err-entry-clause-read : goal.returns-in_err-entry-clause-read
returns-in_err-entry-clause-read c =
    let p = err_from_is_err_and c.from_residual.result c.from_residual.ensures.1 in
    rw (p.1, p.2)
    (each-stops (entry_at Provide)
    (steps (add_item (table_view c.args.table.now)) c.loop-item.variants.items) _ _ _ _
    c.in-Some.ensures.entry c.loop-item.invariant.so_far fault_of _ c.in_err-entry.ensures)

pub add_short_item-requires-clause-different : goal.add_short_item-requires-clause-different
add_short_item-requires-clause-different c = c.loop-item.invariant.different

pub returns-in_err-add_short_item-clause-read : goal.returns-in_err-add_short_item-clause-read
returns-in_err-add_short_item-clause-read c =
    let p = err_from_is_err_and c.from_residual-in_err-add_short_item.result
    c.from_residual-in_err-add_short_item.ensures.1 in
    rw (p.1, p.2)
    (items-stop (table_view c.args.table.now) c.loop-item.variants.items _ _ _ _
    c.in_ok-entry.entry c.in-Some.ensures.entry c.in_ok-entry.ensures refusal_of
    c.in_err-add_short_item.field-0.0
    c.loop-item.invariant.judged c.in_err-add_short_item.ensures.read c.loop-item.invariant.so_far)

pub loop-item-smaller : goal.loop-item-smaller
loop-item-smaller c = c.in-Some.ensures.shorter

pub loop-item-preserved : goal.loop-item-preserved
loop-item-preserved c = record {
  so_far =
      items-go (table_view c.args.table.now) c.loop-item.variants.items _ _ _ _
      c.in_ok-entry.entry c.in-Some.ensures.entry c.in_ok-entry.ensures _
      c.in_ok-add_short_item.ensures.read c.loop-item.invariant.so_far;
  judged =
      judged-behind _ _ _ c.in_ok-entry.entry c.in-Some.ensures.entry c.in_ok-entry.ensures
      c.loop-item.invariant.judged;
  different = c.in_ok-add_short_item.ensures.different;
}

pub returns-clause-read : goal.returns-clause-read
unfolding steps
returns-clause-read c =
    each-ends (entry_at Provide)
    (steps (add_item (table_view c.args.table.now)) c.loop-item.variants.items) _ _
    c.in_default.ensures.none c.loop-item.invariant.so_far

pub returns-clause-different : goal.returns-clause-different
returns-clause-different c = c.loop-item.invariant.different
