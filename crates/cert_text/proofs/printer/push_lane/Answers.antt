use Rattle.std.proofs.Common.{◌<◌, ◌++◌, ◌+◌, ◌∙◌, ℕ, List, get_or, drop, length, ap, arith}
use Rattle.std.specs.List.{zip}
use Rattle.cert_text.specs.Certificates.{row_places}
use Rattle.cert_text.specs.Printed.{known_line}
use Rattle.cert_text.proofs.PlaceLists.{length-places, zip-more, zip-ends, text-goes, text-ends}
use Rattle.cert_text.proofs.printer.push_lane.Goals as goal

pub index-requires : goal.index-requires
index-requires c =
    let long = length-places c.args.lane.now in
    let same = ap length c.in_ok-places.ensures in
    omega (arith, long, same, c.requires.counted)

pub loop-i-preserved : goal.loop-i-preserved
loop-i-preserved c =
    let i = c.loop-i.i in
    let long : i < length (row_places c.args.lane.now) =
    omega (arith, length-places c.args.lane.now, c.requires.counted) in
    let at = c.index.ensures
    ∙ ap (λ (ps : List ℕ). get_or ps i c.index.result.now) c.in_ok-places.ensures in
    text-goes (known_line c.args.universe.now c.args.lane.now.name) c.loop-i.text.items _
    (zip (drop i (row_places c.args.lane.now)) (drop i c.args.rows.now)) c.loop-i.invariant
    c.push_known.new.text.items (_, c.index-rows-i.result)
    (zip (drop (i + 1) (row_places c.args.lane.now)) (drop (i + 1) c.args.rows.now))
    (zip-more (row_places c.args.lane.now) c.args.rows.now i c.index.result.now
    c.index-rows-i.result long
    c.loop-i-test.true at c.index-rows-i.is)
    (c.in_ok-push_known.ensures
    ∙ ap (λ (name : List ℕ). c.loop-i.text.items
    ++ known_line c.args.universe.now name (c.index.result.now, c.index-rows-i.result))
    c.name.ensures)

pub returns : goal.returns
returns c =
    text-ends (known_line c.args.universe.now c.args.lane.now.name) c.loop-i.text.items _
    (zip (drop c.loop-i.i (row_places c.args.lane.now)) (drop c.loop-i.i c.args.rows.now))
    c.loop-i.invariant
    (zip-ends (row_places c.args.lane.now) c.args.rows.now c.loop-i.i c.loop-i-test.false)
