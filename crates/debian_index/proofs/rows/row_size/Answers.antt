use Rattle.debian_index.proofs.RowLaws.{row-found, row-last}
use Rattle.debian_index.proofs.rows.row_size.Goals as goal

pub returns-in-Some-clause-size : goal.returns-in-Some-clause-size
returns-in-Some-clause-size c = row-found c.args.text.now c.in-Some.end c.in-Some.ensures

pub returns-in-None-clause-size : goal.returns-in-None-clause-size
returns-in-None-clause-size c = row-last c.args.text.now c.in-None.ensures
