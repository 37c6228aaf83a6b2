use Rattle.farm_commands.proofs.WordLaws.{comes-before, told-of}
use Rattle.farm_commands.proofs.run.run_words.Goals as goal

pub returns : goal.returns
returns g c = (
  c.do_words-told.result,
  c.end.ensures.status,
  comes-before _ _ _ _ _ _ _ _ _ _ _ c.end.ensures.quiet c.do_words-told.ensures.done,
  told-of _ _ _ _ c.do_words-told.ensures.quiet c.end.ensures.line,
)
