use Rattle.std.specs.List.{flat_map}
use Rattle.deb_relation.specs.Common.{Atom, Entry}
use Rattle.cross_laws.specs.Encoding.{singles}
use Rattle.cross_relations.specs.Provides.{item_in}
use Rattle.cross_relations.specs.Senses.{standing_of}
use Rattle.cross_relations.proofs.EntryLaws.{grown, singles-entry}
use Rattle.cross_relations.proofs.provides.push_entry.Goals as goal

pub loop-item-preserved : goal.loop-item-preserved
loop-item-preserved c =
    let make = item_in c.args.sides.now (standing_of c.args.own) in
    grown (λ (xs : Entry). singles (flat_map make xs)) (λ (x : Atom). singles (make x))
    (singles-entry make) c.alternatives-item-items.result.now c.loop-item.item-index c.item-item.result
    c.loop-item.made.items c.push_each.new.made.items _ c.loop-item-test.true c.item-item.is
    c.loop-item.invariant c.in_ok-push_each.ensures
