use Rattle.std.proofs.Common.{◌≤◌, [], length, sym, arith}
use Rattle.std.proofs.lemmas.List.{get_or_past}
use Rattle.farm_model.specs.Packages.{names}
use Rattle.plan_reader.proofs.variants.name_of.Goals as goal

pub returns-else-name-names : goal.returns-else-name-names
unfolding names
returns-else-name-names c =
    let listed = c.names.ensures.kept.sound.listed in
    let past : length c.args.universe.now.names ≤ c.args.name = omega
    (arith, listed, c.names.ensures.number, c.if-name-names.false) in
    sym (get_or_past c.args.universe.now.names c.args.name [] past)
