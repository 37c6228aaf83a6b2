use Rattle.std.proofs.Common.{sym, subst, arith}
use Rattle.std.proofs.Math.Bool.{or-false}
use Rattle.farm_model.specs.Packages.{initial}
use Rattle.sat_rows.specs.Rows.{IsRowOf}
use Rattle.known_rows.specs.Clock.{count_of}
use Rattle.known_rows.proofs.ArchiveRows.{row_same}
use Rattle.farm_laws.proofs.Archive.{element}
use Rattle.known_rows.proofs.ClockRows.{so_far, with_lane, all_lanes}
use Rattle.known_rows.proofs.clock.clock_row.Goals as goal

pub loop-other-init : goal.loop-other-init
loop-other-init c =
    let u = c.args.known.universe.now in
    let is = subst (IsRowOf u (initial u)) (sym c.in_ok-row.ensures.cases) c.requires.archive in (
      is.long,
      λ p are. row_same u (initial u) _ c.in_ok-row.row (λ v. sym (or-false (initial u v))) is,
    )

pub loop-other-preserved : goal.loop-other-preserved
loop-other-preserved c =
    let u = c.args.known.universe.now in
    let j = c.loop-other.other in
    let lanes = c.args.known.lanes.now in
    let found = element lanes j c.loop-other-test.true in
    let of = found.0 in
    let x = count_of c.args.clock.now in (
      c.in_ok-add_outputs.ensures.long,
      λ p are. with_lane u p (initial u) x j c.counted-count.result of.outputs.items
          c.add_outputs.new.row (are.each j of found.1) c.counted-count.ensures
          (c.in_ok-add_outputs.ensures.added of (so_far u p (initial u) x j) found.1
          (c.loop-other.invariant.1 p are)),
    )

pub returns : goal.returns
returns c p are =
    let u = c.args.known.universe.now in
    all_lanes u p (initial u) (count_of c.args.clock.now) c.loop-other.other c.loop-other.row
    (omega (arith, c.loop-other-test.false, c.loop-other.auto.other-end, are.long))
    (c.loop-other.invariant.1 p are)
