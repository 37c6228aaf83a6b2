use Rattle.known_rows.specs.ByName.{AreMoved}
use Rattle.known_rows.proofs.FirstHits.{AreEarly}
use Rattle.known_rows.proofs.first_hits.look_at_name.Given as goal

-- the places so far
abbrev pub invariant-loop-k : goal.invariant-loop-k
invariant-loop-k l =
    AreMoved l.row l.known.lanes.now l.initial.firsts l.firsts
    × AreEarly l.row l.known.lanes.now l.places l.k l.firsts
