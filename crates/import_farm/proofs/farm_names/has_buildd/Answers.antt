use Rattle.std.proofs.Common.{sym, ◌∙◌}
use Rattle.std.specs.Prelude.{codes}
use Rattle.farm_model.specs.Common.{base, no_base, Base}
use Rattle.import_farm.proofs.NameLaws.{one-name}
use Rattle.import_farm.proofs.farm_names.has_buildd.Goals as goal

pub returns : goal.returns
unfolding base
returns c says =
    one-name (λ (b : Base). b.name) c.args.universe.now.bases no_base (codes "buildd")
    (sym c.bases.ensures ∙ c.if-bases-ne1.false) (c.is_base.ensures says)
