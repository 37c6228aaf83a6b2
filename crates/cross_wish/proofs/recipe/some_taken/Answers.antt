use Rattle.std.proofs.Common.{◌∙◌}
use Rattle.cross_laws.specs.Names.{is_taken}
use Rattle.cross_wish.proofs.NameLaws.{some-lists}
use Rattle.cross_wish.proofs.recipe.some_taken.Goals as goal

pub returns : goal.returns
returns c =
    c.any_taken.ensures ∙ some-lists (is_taken c.args.sides.now) c.args.names.now
