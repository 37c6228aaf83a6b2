use Rattle.std.proofs.Common.{true, get_or}
use Rattle.std.proofs.lemmas.List.{length-set}
use Rattle.plan_reader.proofs.Doubles.{found, once-more, shows-more}
use Rattle.plan_reader.proofs.names.finds_double.Goals as goal

pub returns-then-seen-number : goal.returns-then-seen-number
returns-then-seen-number c =
    let kept = c.loop-i.invariant in
    found c.args.numbers.now c.loop-i.seen c.loop-i.i 0 c.loop-i-test.true kept.shown
    (kept.known c.loop-i.i 0 c.loop-i-test.true) c.if-seen-number.true

pub loop-i-preserved : goal.loop-i-preserved
loop-i-preserved c =
    let kept = c.loop-i.invariant in
    let numbers = c.args.numbers.now in
    let seen = c.loop-i.seen in
    let i = c.loop-i.i in
    let same = length-set seen (get_or numbers i 0) true in
    let lt = c.loop-i-test.true in
    record {
      shown = λ n small. shows-more numbers seen i 0 lt kept.shown n (rw same at small);
      once = once-more numbers seen i 0 lt kept.shown (kept.known i 0 lt) kept.once
          c.if-seen-number.false;
      known = rw same kept.known;
    }
