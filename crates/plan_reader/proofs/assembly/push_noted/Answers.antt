use Rattle.std.proofs.Common.{◌∷◌, []}
use Rattle.std.proofs.lemmas.Result.{err_from_is_err_and}
use Rattle.plan_reader.specs.LineErrors.{refusal_of_line}
use Rattle.plan_reader.proofs.AssemblyLaws.{one-fails}
use Rattle.plan_reader.proofs.Noted.{noted-fails}
use Rattle.plan_reader.proofs.assembly.push_noted.Goals as goal

pub returns-in_err-note_published-clause-noted : goal.returns-in_err-note_published-clause-noted
returns-in_err-note_published-clause-noted c =
    let p = err_from_is_err_and c.from_residual.result c.from_residual.ensures.1 in
    rw (p.1, p.2)
    (noted-fails c.args.count.now c.args.published.now.keys (c.args.instruction ∷ [])
    refusal_of_line _
    (one-fails refusal_of_line _ c.args.instruction c.args.published.now.keys
    c.in_err-note_published.ensures))
