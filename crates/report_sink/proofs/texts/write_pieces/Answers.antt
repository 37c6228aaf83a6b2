use Rattle.std.proofs.Common.{sym}
use Rattle.report_sink.proofs.ItemLaws.{next_written, last_written}
use Rattle.report_sink.proofs.texts.write_pieces.Goals as goal

pub loop-piece-preserved : goal.loop-piece-preserved
loop-piece-preserved g c =
    next_written (λ piece. piece.now) c.args.pieces.now c.loop-piece.piece-index _
    c.loop-piece-test.true _ _ _
    c.loop-piece.invariant c.write_text.ensures.written

pub returns-in_err-write_text-clause-written : goal.returns-in_err-write_text-clause-written
returns-in_err-write_text-clause-written g c =
    last_written (λ piece. piece.now) c.args.pieces.now c.loop-piece.piece-index _
    c.loop-piece-test.true _ _ _
    c.loop-piece.invariant c.write_text.ensures.written (sym c.in_err-write_text.ensures.told)
