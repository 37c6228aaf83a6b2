use Rattle.std.proofs.Common.{List, [], ◌∷◌, filter, map}
use Rattle.cross_laws.specs.Binary.{Binary}
use Rattle.cross_laws.specs.Encoding.{alone, singles}
use Rattle.cross_laws.specs.Excludes.{hits_other}
use Rattle.cross_relations.proofs.EntryLaws.{grown, singles-passing}
use Rattle.cross_relations.proofs.excluded.push_hit.Goals as goal

pub loop-other-preserved : goal.loop-other-preserved
loop-other-preserved c =
    let hit = hits_other c.args.sides.now c.args.binary.now c.args.atom.now in
    let make = alone c.args.sides.now in
    grown (λ (xs : List Binary). singles (map make (filter hit xs)))
    (λ (x : Binary). singles (map make (filter hit (x ∷ [])))) (singles-passing make hit)
    c.args.all.now c.loop-other.other-index c.other-item.result
    c.loop-other.made.items c.push_if_hit.new.made.items _ c.loop-other-test.true c.other-item.is
    c.loop-other.invariant c.in_ok-push_if_hit.ensures
