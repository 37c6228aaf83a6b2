use Rattle.std.proofs.Common.{refl, arith}
use Rattle.cross_relations.proofs.AlikeLaws.{all-known, more-known}
use Rattle.cross_relations.proofs.alike.has_same.Goals as goal

pub loop-entry-init : goal.loop-entry-init
loop-entry-init c = record { within = omega arith; so_far = λ test. refl }

pub loop-entry-preserved : goal.loop-entry-preserved
loop-entry-preserved c = record {
  within = c.in-Some.ensures.within;
  so_far = more-known c.args.given.now c.args.made.now c.loop-entry.next c.in-Some.after
      c.loop-entry.entry-index c.entry-item.result c.loop-entry-test.true c.entry-item.is
      c.loop-entry.invariant.so_far c.in-Some.ensures.found;
}

pub returns : goal.returns
returns c is =
    all-known c.args.given.now c.args.made.now c.loop-entry.next c.loop-entry.entry-index
    (omega arith) (omega arith) c.loop-entry.invariant.so_far
