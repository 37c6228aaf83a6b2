use Rattle.std.proofs.Common.{sym, subst, arith}
use Rattle.std.proofs.Math.Bool.{or-false}
use Rattle.farm_laws.proofs.Archive.{element}
use Rattle.known_rows.specs.Clock.{count_of, row_of, AreWithin}
use Rattle.known_rows.proofs.ArchiveRows.{row_same}
use Rattle.known_rows.proofs.ClockRows.{so_far, with_lane}
use Rattle.known_rows.proofs.WordRows.{lane_begun, all_later}
use Rattle.known_rows.proofs.words.add_later.Goals as goal

pub loop-other-init : goal.loop-other-init
loop-other-init c =
    let u = c.args.known.universe.now in
    let x = count_of c.args.from.now in (
      c.requires.words,
      λ p are is. row_same u (row_of u p x) _ c.args.words.now
          (λ v. sym (or-false (row_of u p x v))) is,
    )

pub add_outputs-requires-clause-order : goal.add_outputs-requires-clause-order
add_outputs-requires-clause-order c =
    let within = c.requires.later c.loop-other.other c.loop-other-test.true in
    omega (arith, within, c.counted-before.ensures, c.counted-count.ensures)

pub loop-other-preserved : goal.loop-other-preserved
loop-other-preserved c =
    let u = c.args.known.universe.now in
    let j = c.loop-other.other in
    let found = element c.args.known.lanes.now j c.loop-other-test.true in
    let of = found.0 in
    let x = count_of c.args.from.now in
    let y = count_of c.args.to.now in (
      c.add_outputs.ensures.long,
      λ p are is.
          let outs = are.each j of found.1 in
          with_lane u p (row_of u p x) y j c.counted-count.result of.outputs.items
          c.add_outputs.new.words outs c.counted-count.ensures
          (c.add_outputs.ensures.added of (so_far u p (row_of u p x) y j) found.1
          (lane_begun u p x y j c.counted-before.result of.outputs.items c.loop-other.words outs
          c.counted-before.ensures (omega (arith, c.loop-other-test.true, are.long))
          (c.loop-other.invariant.1 p are is))),
    )

pub returns-clause-row : goal.returns-clause-row
returns-clause-row c p are is =
    let u = c.args.known.universe.now in
    let x = count_of c.args.from.now in
    let y = count_of c.args.to.now in
    all_later u p x y (subst (λ n. AreWithin n x y) are.long c.requires.later) c.loop-other.other
    c.loop-other.words
    (omega (arith, c.loop-other-test.false, c.loop-other.auto.other-end, are.long))
    (c.loop-other.invariant.1 p are is)
