use Rattle.std.specs.List.{flat_map}
use Rattle.deb_relation.specs.Common.{Atom, Entry}
use Rattle.cross_laws.specs.Encoding.{clash_of, singles}
use Rattle.cross_relations.proofs.EntryLaws.{grown, singles-entry}
use Rattle.cross_relations.proofs.excluded.push_entry_of.Goals as goal

pub loop-atom-preserved : goal.loop-atom-preserved
loop-atom-preserved c =
    let make = clash_of c.args.sides.now c.args.all.now c.args.binary.now in
    grown (λ (xs : Entry). singles (flat_map make xs)) (λ (x : Atom). singles (make x))
    (singles-entry make) c.alternatives-atom-items.result.now c.loop-atom.atom-index c.atom-item.result
    c.loop-atom.made.items c.push_clash_of.new.made.items _ c.loop-atom-test.true c.atom-item.is
    c.loop-atom.invariant c.in_ok-push_clash_of.ensures
