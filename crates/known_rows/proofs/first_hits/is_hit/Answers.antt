use Rattle.std.proofs.Common.{None, get_or, arith}
use Rattle.farm_model.specs.Packages.{variant}
use Rattle.farm_universe.proofs.PlaceLaws.{named}
use Rattle.known_rows.specs.declared.marks.Output.{Output}
use Rattle.known_rows.proofs.FirstHits.{known_at, hit_at}
use Rattle.known_rows.proofs.first_hits.is_hit.Goals as goal

none : Output
none = record { variant = variant 0 0; point = None }

pub has-requires : goal.has-requires
unfolding none
has-requires c =
    let outs = c.as_slice-outputs.result.now in
    let n = c.args.place.number in
    let known =
    known_at c.args.known.lanes.now c.args.place.lane n c.index-known-place.result outs none
    c.as_slice-outputs.ensures.value (omega (arith, c.if-place-known.false))
    c.args.known.universe.now
    c.args.known.known (omega (arith, c.if-place-outputs.false)) in
    let there =
    named c.args.known.universe.now (get_or outs n none).variant.name
    (get_or outs n none).variant.bit
    known in (
      omega arith,
      (
        omega (arith, there, c.requires),
        omega (arith, known, c.args.known.sound.few (get_or outs n none).variant.name),
      ),
    )

pub returns : goal.returns
unfolding none
returns c =
    hit_at c.args.known.lanes.now c.args.place.lane c.args.place.number c.index-known-place.result
    c.as_slice-outputs.result.now none c.as_slice-outputs.ensures.value
    (omega (arith, c.if-place-known.false)) c.args.row.now c.has.result c.has.ensures
