use Rattle.std.proofs.Common.{arith}
use Rattle.sat_rows.specs.Entries.{IsNumberOf}
use Rattle.sat_rows.proofs.NoteLaws.{one_bit, adds_none}
use Rattle.sat_rows.proofs.WantedLaws.{number_next, numbers_all}
use Rattle.sat_rows.proofs.wanted.note_entries.Goals as goal

pub loop-number-init : goal.loop-number-init
loop-number-init c entries field all = adds_none entries field c.args.bit c.args.found.now

pub loop-number-preserved : goal.loop-number-preserved
loop-number-preserved c entries field all =
    number_next entries (IsNumberOf entries) (λ n. n) (λ e n is. is) field c.args.numbers.now all
    c.args.bit c.loop-number.number-index 0 c.loop-number-test.true c.args.found.now
    c.loop-number.found
    c.add.new.self c.with_bit.result (c.loop-number.invariant entries field all) c.in_ok-add.ensures
    (λ k. one_bit c.with_bit.result c.args.bit k (c.with_bit.ensures k))

pub returns : goal.returns
returns c entries field all =
    numbers_all entries (IsNumberOf entries) (λ n. n) (λ e n is. is) field c.args.numbers.now all
    c.args.bit c.loop-number.number-index c.args.found.now c.loop-number.found (omega arith)
    (c.loop-number.invariant entries field all)
