use Rattle.std.proofs.Common.{sym}
use Rattle.report_sink.proofs.ItemLaws.{next_written, last_written}
use Rattle.shown_text.specs.Escapes.{shown_byte}
use Rattle.shown_text.proofs.escapes.write_bytes.Goals as goal

pub loop-byte-preserved : goal.loop-byte-preserved
loop-byte-preserved g c =
    next_written (shown_byte c.args.is_quoted) c.args.bytes.now c.loop-byte.byte-index _
    c.loop-byte-test.true _ _ _
    c.loop-byte.invariant c.write_byte.ensures.written

pub returns-in_err-write_byte-clause-written : goal.returns-in_err-write_byte-clause-written
returns-in_err-write_byte-clause-written g c =
    last_written (shown_byte c.args.is_quoted) c.args.bytes.now c.loop-byte.byte-index _
    c.loop-byte-test.true _ _ _
    c.loop-byte.invariant c.write_byte.ensures.written (sym c.in_err-write_byte.ensures.told)
