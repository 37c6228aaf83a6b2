use Rattle.std.proofs.Common.{None, get_or, arith}
use Rattle.farm_model.specs.Packages.{variant}
use Rattle.farm_universe.proofs.PlaceLaws.{named}
use Rattle.known_rows.specs.declared.marks.Output.{Output}
use Rattle.known_rows.proofs.FirstHits.{known_at}
use Rattle.known_rows.proofs.NameLists.{kept_trans, lane_next}
use Rattle.known_rows.proofs.by_name.ByName.add_lane.Goals as goal

none : Output
none = record { variant = variant 0 0; point = None }

pub add-requires : goal.add-requires
unfolding none
add-requires c =
    let u = c.args.known.universe.now in
    let lanes = c.args.known.lanes.now in
    let outs = c.as_slice-outputs.result.now in
    let n = c.loop-number.number in
    let known =
    known_at lanes c.args.lane n c.index-known-lane.result outs none
    c.as_slice-outputs.ensures.value c.requires.lane u c.args.known.known c.loop-number-test.true in
    let there = named u (get_or outs n none).variant.name (get_or outs n none).variant.bit known in
    omega (arith, there, c.requires.long, c.loop-number.invariant.0.long)

pub loop-number-preserved : goal.loop-number-preserved
unfolding none
loop-number-preserved c =
    let old = c.loop-number.self in
    let new = c.add.new.self in
    let kept = c.in_ok-add.ensures.kept in (
      kept_trans c.args.self.now old new c.loop-number.invariant.0 kept,
      lane_next old new c.args.lane c.loop-number.number c.as_slice-outputs.result.now none kept
          c.loop-number.invariant.1 c.in_ok-add.ensures.there,
    )
