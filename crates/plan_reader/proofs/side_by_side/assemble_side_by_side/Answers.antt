use Rattle.plan_reader.proofs.Kept.{gives-sound}
use Rattle.plan_reader.proofs.side_by_side.assemble_side_by_side.Goals as goal

pub returns-clause-sound : goal.returns-clause-sound
returns-clause-sound g c =
    gives-sound c.args.universe.now c.args.text.now _ c.read_text.ensures.lanes
