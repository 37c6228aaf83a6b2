use Rattle.wait_order.proofs.Passes.{hit_passes}
use Rattle.wait_order.proofs.wait_rows.is_met.Goals as goal

pub returns : goal.returns
returns c =
    λ u e test row archive. hit_passes u e test c.args.archive.now c.args.row.now c.hits.result
    c.hits.ensures.set archive row
