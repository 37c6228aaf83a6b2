use Rattle.cert_text.proofs.KeptRows.{gives-certificate}
use Rattle.cert_text.proofs.reader.read.Goals as goal

pub returns-clause-fits : goal.returns-clause-fits
returns-clause-fits c =
    gives-certificate c.args.universe.now c.args.plan.now.lanes c.args.text.now c.read_text.result
    c.read_text.ensures
