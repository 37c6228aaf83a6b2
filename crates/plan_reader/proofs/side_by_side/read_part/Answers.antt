use Rattle.std.proofs.Common.{◌<◌, [], length, drop, get_or, arith}
use Rattle.std.proofs.lemmas.List.{length-drop, get_or-drop, length_push}
use Rattle.plan_reader.specs.Parts.{Says}
use Rattle.plan_reader.proofs.PartLaws.{next-said}
use Rattle.plan_reader.proofs.side_by_side.read_part.Goals as goal

pub loop-i-preserved : goal.loop-i-preserved
loop-i-preserved c =
    let u = c.args.names.universe.now in
    let ls = c.args.lines.now in
    let first = c.args.first in
    let read = c.loop-i.read.items in
    let kept = c.loop-i.invariant in
    let count = kept.count in
    let long = length-drop first ls in
    let items = c.in_ok-push.ensures.items in
    let lt : length read < length (drop first ls) = omega (arith, count, long) in
    let says : Says u (get_or (drop first ls) (length read) (0, [])) c.read_next.result =
    rw (get_or-drop first ls (length read) (0, []), ← c.deref.ensures.value)
    c.read_next.ensures in
    let more = length_push read c.read_next.result in
    record {
      count = rw items (omega (arith, count, more));
      said = rw items (next-said u (drop first ls) read c.read_next.result lt kept.said says);
    }
