use Rattle.std.proofs.Common.{◌≡◌, take}
use Rattle.std.specs.List.{filter}
use Rattle.known_rows.specs.Hits.{may_meet}
use Rattle.known_rows.proofs.points.met_sources.Given as goal

-- the sources so far
abbrev pub invariant-loop-k : goal.invariant-loop-k
invariant-loop-k l = l.sources.items ≡ filter (may_meet l.mark) (take l.k l.all)
