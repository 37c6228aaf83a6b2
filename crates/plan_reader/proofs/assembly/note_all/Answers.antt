use Rattle.std.proofs.lemmas.Result.{err_from_is_err_and}
use Rattle.plan_reader.specs.LineErrors.{refusal_of_line}
use Rattle.plan_reader.proofs.AssemblyLaws.{note-stops}
use Rattle.plan_reader.proofs.assembly.note_all.Goals as goal

pub returns-in_err-note_published : goal.returns-in_err-note_published
returns-in_err-note_published c =
    let p = err_from_is_err_and c.from_residual.result c.from_residual.ensures.1 in
    rw (p.1, p.2)
    (note-stops c.args.instructions.now c.loop-instruction.instruction-index
    c.instruction-item.result c.loop-instruction.published.keys _ c.loop-instruction-test.true
    c.instruction-item.is c.loop-instruction.invariant.so_far refusal_of_line _
    c.in_err-note_published.ensures)
