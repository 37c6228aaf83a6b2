use Rattle.std.proofs.Common.{subst}
use Rattle.farm_answers.specs.NoneLines.{SaysNone}
use Rattle.farm_commands.proofs.request.answer_request.Goals as goal

pub returns-clause-answer : goal.returns-clause-answer
returns-clause-answer g c = (
  g.S.Sink.state c.answer_asked-told.new.out,
  c.answer_asked-told.ensures.answer,
  subst (λ json. SaysNone json (g.S.Sink.state c.answer_asked-told.new.out)
      (g.S.Sink.state c.say_none.new.out) c.answer_asked-told.result) c.asks_json-json.ensures
      c.say_none.ensures,
)
