use Rattle.std.proofs.Common.{sym, subst}
use Rattle.farm_model.specs.Packages.{is_wanted}
use Rattle.sat_rows.specs.Rows.{IsWordFor}
use Rattle.sat_rows.proofs.RangeLaws.{none_wanted}
use Rattle.sat_rows.proofs.word.mask.Goals as goal

pub returns-in-None : goal.returns-in-None
returns-in-None c =
    let u = c.args.universe.now in
    subst (λ relation. IsWordFor u (is_wanted u relation) c.args.name c.bits_between.result)
    (sym c.in-None.is)
    (λ b. none_wanted u c.args.name b c.variant_count-count.result c.bits_between.result
    c.variant_count-count.ensures.number (c.bits_between.ensures b))
