use Rattle.std.proofs.Common.{sym, ◌∙◌}
use Rattle.deb_text.proofs.ListLaws.{place-lists}
use Rattle.farm_universe.proofs.package_table.place_of.Goals as goal

pub returns-clause-place : goal.returns-clause-place
returns-clause-place c =
    c.get_index_of.ensures.index ∙ sym (place-lists c.args.names.now.keys c.args.name.now)
