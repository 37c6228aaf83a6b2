use Rattle.std.specs.List.{flat_map}
use Rattle.deb_relation.specs.Common.{Entry, Relations}
use Rattle.cross_laws.specs.Binary.{atoms}
use Rattle.cross_laws.specs.Encoding.{singles}
use Rattle.cross_relations.specs.Provides.{item_in}
use Rattle.cross_relations.specs.Senses.{standing_of}
use Rattle.cross_relations.proofs.EntryLaws.{grown, singles-field}
use Rattle.cross_relations.proofs.provides.push_items.Goals as goal

pub loop-entry-preserved : goal.loop-entry-preserved
loop-entry-preserved c =
    let make = item_in c.args.sides.now (standing_of c.args.own) in
    grown (λ (es : Relations). singles (flat_map make (atoms es)))
    (λ (e : Entry). singles (flat_map make e)) (singles-field make)
    c.entries-entry-items.result.now c.loop-entry.entry-index c.entry-item.result
    c.loop-entry.made.items c.push_entry.new.made.items _ c.loop-entry-test.true c.entry-item.is
    c.loop-entry.invariant c.in_ok-push_entry.ensures
