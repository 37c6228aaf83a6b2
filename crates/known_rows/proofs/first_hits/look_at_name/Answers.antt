use Rattle.known_rows.specs.declared.by_name.OutputPlace.{OutputPlace}
use Rattle.known_rows.proofs.FirstHits.{moved_more, early_next, name_done}
use Rattle.known_rows.proofs.first_hits.look_at_name.Goals as goal

none : OutputPlace
none = record { lane = 0; number = 0 }

pub loop-k-preserved : goal.loop-k-preserved
unfolding none
loop-k-preserved c =
    let row = c.args.row.now in
    let lanes = c.args.known.lanes.now in
    let old = c.loop-k.firsts in
    let new = c.look_at.new.firsts in
    let so_far = c.loop-k.invariant in (
      moved_more row lanes c.args.firsts.now old new so_far.0 c.look_at.ensures.moved,
      early_next row lanes old new c.places-places.result.now c.loop-k.k none
          c.look_at.ensures.moved so_far.1 c.look_at.ensures.early,
    )

pub returns-clause-early : goal.returns-clause-early
returns-clause-early c =
    name_done c.args.row.now c.args.known.lanes.now c.args.by_name.now c.places-places.result.now
    c.loop-k.firsts c.args.name c.loop-k.k c.requires.listed c.places-places.ensures
    c.loop-k-test.false c.loop-k.invariant.1
