use Rattle.std.proofs.Common.{◌≡◌, ◌++◌, drop, filter, map}
use Rattle.cross_laws.specs.Encoding.{alone, singles}
use Rattle.cross_laws.specs.Excludes.{hits_other}
use Rattle.cross_relations.proofs.excluded.push_hit.Given as goal

abbrev pub invariant-loop-other : goal.invariant-loop-other
invariant-loop-other l =
    let hit = hits_other l.sides l.binary l.atom in
    l.made.items ++ singles (map (alone l.sides) (filter hit (drop l.other-index l.all)))
    ≡ l.fn.made.items ++ singles (map (alone l.sides) (filter hit l.all))
