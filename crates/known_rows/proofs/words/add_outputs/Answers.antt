use Rattle.std.proofs.Common.{◌≡◌, ◌||◌, None, get_or, length, take, refl, sym, ap, ◌∙◌, ◌<◌, arith}
use Rattle.std.proofs.lemmas.List.{get_or_default}
use Rattle.std.proofs.lemmas.Option.{get_or_from_slice_get}
use Rattle.farm_model.specs.Packages.{variant, same}
use Rattle.farm_universe.proofs.PlaceLaws.{named}
use Rattle.known_rows.specs.declared.marks.LaneOutputs.{LaneOutputs}
use Rattle.known_rows.specs.declared.marks.Output.{Output}
use Rattle.known_rows.proofs.ArchiveRows.{row_same, row_added, row_more}
use Rattle.known_rows.proofs.ClockRows.{any_output, all-first}
use Rattle.known_rows.proofs.FirstHits.{known_at}
use Rattle.known_rows.proofs.words.add_outputs.Goals as goal

none : Output
none = record { variant = variant 0 0; point = None }

pub loop-n-init : goal.loop-n-init
loop-n-init c = (c.requires.words, λ test is. is)

pub add_variant-requires-clause-named : goal.add_variant-requires-clause-named
unfolding none
add_variant-requires-clause-named c =
    let outs = c.as_slice-outputs.result.now in
    let known =
    known_at c.args.known.lanes.now c.args.lane c.loop-n.n c.index-known-lane.result outs none
    c.as_slice-outputs.ensures.value c.requires.lane c.args.known.universe.now c.args.known.known
    (omega (arith, c.loop-n-test.true, c.min-end.ensures)) in
    let there =
    named c.args.known.universe.now (get_or outs c.loop-n.n none).variant.name
    (get_or outs c.loop-n.n none).variant.bit known in
    omega (arith, there, c.loop-n.invariant.0)

pub add_variant-requires-clause-within : goal.add_variant-requires-clause-within
unfolding none
add_variant-requires-clause-within c =
    let outs = c.as_slice-outputs.result.now in
    let known =
    known_at c.args.known.lanes.now c.args.lane c.loop-n.n c.index-known-lane.result outs none
    c.as_slice-outputs.ensures.value c.requires.lane c.args.known.universe.now c.args.known.known
    (omega (arith, c.loop-n-test.true, c.min-end.ensures)) in
    omega (arith, known, c.args.known.sound.few (get_or outs c.loop-n.n none).variant.name)

pub loop-n-preserved : goal.loop-n-preserved
unfolding none
loop-n-preserved c =
    let u = c.args.known.universe.now in
    let outs = c.as_slice-outputs.result.now in
    let n = c.loop-n.n in
    let o = get_or outs n none in
    let lt : n < length outs = omega (arith, c.loop-n-test.true, c.min-end.ensures) in
    let known = known_at c.args.known.lanes.now c.args.lane n c.index-known-lane.result outs none
    c.as_slice-outputs.ensures.value c.requires.lane u c.args.known.known lt in
    let long = c.add_variant.ensures.long ∙ c.loop-n.invariant.0 in (
      long,
      λ test is. row_more u test (λ (x : Output) w. same x.variant w) outs n o
          c.add_variant.new.words lt (get_or_default outs n none o lt)
          (row_added u (λ w. test w || any_output (take n outs) w) c.loop-n.words
          c.add_variant.new.words o.variant known (c.loop-n.invariant.1 test is)
          c.add_variant.ensures.set long),
    )

pub returns-clause-added : goal.returns-clause-added
returns-clause-added c of test at is =
    let u = c.args.known.universe.now in
    let outs = c.as_slice-outputs.result.now in
    let total = length outs in
    let same : outs ≡ of.outputs.items = c.as_slice-outputs.ensures.value
    ∙ ap (λ (w : LaneOutputs). w.outputs.items)
    (get_or_from_slice_get c.args.known.lanes.now c.args.lane of c.index-known-lane.result at) in
    row_same u _ _ c.loop-n.words
    (λ v. ap (λ b. test v || b)
    (all-first outs c.loop-n.n c.args.to total v
    (omega (
      arith,
      c.loop-n-test.false,
      c.loop-n.auto.n-end,
      c.min-end.ensures,
      c.min-start.ensures,
      c.requires.order,
    )) refl
    ∙ ap (λ os. any_output (take c.args.to os) v) same))
    (c.loop-n.invariant.1 test
    (row_same u _ _ c.args.words.now
    (λ v. ap (λ b. test v || b)
    (ap (λ os. any_output (take c.args.from os) v) (sym same)
    ∙ sym (all-first outs c.min-start.result c.args.from total v
    (omega (arith, c.min-start.ensures)) refl)))
    is))
