use Rattle.farm_universe.proofs.SourceLaws.{steps-sources_of}
use Rattle.farm_universe.proofs.source_table.read_sources.Goals as goal

pub returns-clause-read : goal.returns-clause-read
returns-clause-read c =
    rw (c.new.ensures.empty, c.new-2.ensures.items, steps-sources_of c.args.paragraphs.now)
    at c.read_steps.ensures.read
