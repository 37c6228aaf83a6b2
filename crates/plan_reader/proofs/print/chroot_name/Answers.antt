use Rattle.std.proofs.Common.{sym, ap, arith}
use Rattle.std.proofs.lemmas.List.{get_or_past}
use Rattle.farm_model.specs.Common.{no_base, base, Base}
use Rattle.plan_reader.proofs.print.chroot_name.Goals as goal

pub returns-else-number-bases : goal.returns-else-number-bases
unfolding base
returns-else-number-bases c =
    sym (ap (λ (b : Base). b.name)
    (get_or_past c.args.universe.now.bases c.args.number no_base (omega arith)))
