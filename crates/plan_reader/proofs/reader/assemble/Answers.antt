use Rattle.plan_reader.proofs.Kept.{gives-sound}
use Rattle.plan_reader.proofs.reader.assemble.Goals as goal

pub returns-clause-sound : goal.returns-clause-sound
returns-clause-sound c =
    gives-sound c.args.universe.now c.args.text.now _ c.read_text.ensures.lanes
