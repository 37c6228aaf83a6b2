use Rattle.std.proofs.Common.{inl, inr, Err}
use Rattle.std.specs.Option.{option_map}
use Rattle.drive_answers.proofs.DriveLaws.{told_by}
use Rattle.drive_answers.proofs.driven_answer.answer_drive.Goals as goal
use Rattle.drive_answers.specs.DriveAnswers.{Finishes, IsMisfitOf, Refuses, Stops, TellsStop, head_in, kept_in}
use Rattle.farm_answers.proofs.AnswerLaws.{answered-by}
use Rattle.farm_answers.specs.Answers.{AnswersVerdict}
use Rattle.farm_answers.specs.FarmAnswers.{ShowsEnd}
use Rattle.plan_reader.specs.TextsView.{texts_view}

pub returns-in-Ok-clause-told : goal.returns-in-Ok-clause-told
returns-in-Ok-clause-told g c =
    let a = c.in-Ok.accepted in
    let texts = texts_view c.args.setting.now.texts in
    let kept = kept_in (g.F.DriveSource.kept c.args.setting.now.source.now)
    (option_map (λ name. name.now) c.args.journal) in
    let old = g.S.Sink.state c.args.out.now in
    let new = g.S.Sink.state c.drive_accepted.new.out in
    inr (told_by (ShowsEnd a) (Finishes texts)
    (TellsStop a (IsMisfitOf a (head_in texts) kept) old new) (Stops texts kept old new) new
    (g.E.Sink.state c.args.errors.now) (g.E.Sink.state c.drive_accepted.new.errors)
    c.drive_accepted.result
    (λ text status shows. (a, c.in-Ok.ensures.verdict, shows))
    (λ line tells. (a, c.in-Ok.ensures.verdict, tells)) c.drive_accepted.ensures.told)

pub returns-in-Err-clause-told : goal.returns-in-Err-clause-told
returns-in-Err-clause-told g c =
    let refusal = c.in-Err.refusal in
    let texts = texts_view c.args.setting.now.texts in
    inl (answered-by (AnswersVerdict (Err refusal)) (Refuses texts) (g.S.Sink.state c.args.out.now)
    (g.S.Sink.state c.answer_verdict.new.out) c.answer_verdict.result
    (λ text status is. (refusal, c.in-Err.ensures.verdict, is)) c.answer_verdict.ensures)
