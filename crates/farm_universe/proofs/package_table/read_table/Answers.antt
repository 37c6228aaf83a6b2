use Rattle.farm_universe.proofs.TableLaws.{steps-packages_of}
use Rattle.farm_universe.proofs.package_table.read_table.Goals as goal

pub returns-clause-read : goal.returns-clause-read
returns-clause-read c =
    rw (c.empty_table.ensures.empty, steps-packages_of c.args.paragraphs.now)
    at c.read_steps.ensures.read
