use Rattle.std.proofs.Common.{[], Some, sym, subst}
use Rattle.std.specs.Option.{option_map}
use Rattle.drive_answers.proofs.DriveLaws.{drive_by}
use Rattle.drive_answers.proofs.driven_answer.drive_accepted.Goals as goal
use Rattle.drive_answers.specs.DriveAnswers.{IsDriveTold, IsMisfitOf, TellsStop, head_in, kept_in}
use Rattle.farm_answers.specs.FarmAnswers.{ShowsEnd}
use Rattle.plan_reader.specs.TextsView.{texts_view}

pub returns-in-Some-clause-told : goal.returns-in-Some-clause-told
returns-in-Some-clause-told g c =
    let a = c.args.accepted in
    let kept = g.F.DriveSource.kept c.args.setting.now.source.now in
    let head = head_in (texts_view c.args.setting.now.texts) in
    let old = g.S.Sink.state c.args.out.now in
    let new = g.S.Sink.state c.drive_kept.new.out in
    subst (λ journal. IsDriveTold (ShowsEnd a)
    (TellsStop a (IsMisfitOf a head (kept_in kept (option_map (λ name. name.now) journal))) old new)
    new (g.E.Sink.state c.args.errors.now) (g.E.Sink.state c.drive_kept.new.errors)
    c.drive_kept.result) (sym c.in-Some.is) c.drive_kept.ensures.told

pub returns-in-None-clause-told : goal.returns-in-None-clause-told
returns-in-None-clause-told g c =
    let a = c.args.accepted in
    let kept = g.F.DriveSource.kept c.args.setting.now.source.now in
    let head = head_in (texts_view c.args.setting.now.texts) in
    let old = g.S.Sink.state c.args.out.now in
    let new = g.S.Sink.state c.drive_unkept.new.out in
    let before = g.E.Sink.state c.args.errors.now in
    let after = g.E.Sink.state c.drive_unkept.new.errors in
    subst (λ journal. IsDriveTold (ShowsEnd a)
    (TellsStop a (IsMisfitOf a head (kept_in kept (option_map (λ name. name.now) journal))) old new)
    new before after c.drive_unkept.result) (sym c.in-None.is)
    (drive_by a (λ _. ⊥) (IsMisfitOf a head (Some [])) old new before after c.drive_unkept.result
    (λ n none. absurd none) c.drive_unkept.ensures.told)
