use Rattle.std.specs.List.{flat_map}
use Rattle.deb_relation.specs.Common.{Entry, Relations}
use Rattle.cross_laws.specs.Encoding.{clash_of, clashes_of, singles}
use Rattle.cross_relations.proofs.EntryLaws.{grown, singles-field}
use Rattle.cross_relations.proofs.excluded.push_field_of.Goals as goal

pub loop-entry-preserved : goal.loop-entry-preserved
loop-entry-preserved c =
    let make = clash_of c.args.sides.now c.args.all.now c.args.binary.now in
    grown (λ (es : Relations). singles (clashes_of c.args.sides.now c.args.all.now c.args.binary.now es))
    (λ (e : Entry). singles (flat_map make e)) (singles-field make)
    c.entries-entry-items.result.now c.loop-entry.entry-index c.entry-item.result
    c.loop-entry.made.items c.push_entry_of.new.made.items _ c.loop-entry-test.true c.entry-item.is
    c.loop-entry.invariant c.in_ok-push_entry_of.ensures
