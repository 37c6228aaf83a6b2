use Rattle.std.proofs.Common.{true}
use Rattle.std.specs.List.{flat_map}
use Rattle.deb_relation.specs.Common.{Atom, Entry}
use Rattle.cross_laws.specs.Encoding.{encoded_clash, singles}
use Rattle.cross_relations.proofs.EntryLaws.{grown, singles-entry}
use Rattle.cross_relations.proofs.clashes.push_entry.Goals as goal

pub loop-atom-preserved : goal.loop-atom-preserved
loop-atom-preserved c =
    let make = encoded_clash c.args.sides.now true in
    grown (λ (xs : Entry). singles (flat_map make xs)) (λ (x : Atom). singles (make x))
    (singles-entry make) c.alternatives-atom-items.result.now c.loop-atom.atom-index c.atom-item.result
    c.loop-atom.made.items c.push_clash.new.made.items _ c.loop-atom-test.true c.atom-item.is
    c.loop-atom.invariant c.in_ok-push_clash.ensures
