use Rattle.std.proofs.Common.{true}
use Rattle.std.specs.List.{flat_map}
use Rattle.deb_relation.specs.Common.{Entry}
use Rattle.cross_laws.specs.Encoding.{encoded_clash, encoded_clashes, singles}
use Rattle.cross_relations.proofs.EntryLaws.{grown, singles-field}
use Rattle.cross_relations.proofs.clashes.encode_build_clashes.Goals as goal

pub loop-entry-preserved : goal.loop-entry-preserved
loop-entry-preserved c =
    let make = encoded_clash c.args.sides.now true in
    grown (encoded_clashes c.args.sides.now) (λ (e : Entry). singles (flat_map make e))
    (singles-field make) c.entries-entry-items.result.now c.loop-entry.entry-index c.entry-item.result
    c.loop-entry.made.items c.push_entry.new.made.items _ c.loop-entry-test.true c.entry-item.is
    c.loop-entry.invariant c.in_ok-push_entry.ensures
