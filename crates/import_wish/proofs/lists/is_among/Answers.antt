use Rattle.std.proofs.Common.{◌∙◌}
use Rattle.import_wish.proofs.NameLaws.{any_lists}
use Rattle.import_wish.proofs.lists.is_among.Goals as goal

pub returns : goal.returns
returns c = c.is_listed.ensures ∙ any_lists c.args.others.now c.args.name.now
