use Rattle.std.proofs.Common.{List, ap, ◌∙◌}
use Rattle.std.proofs.lemmas.Result.{IfOk-weaker}
use Rattle.leg_laws.specs.Named.{Item}
use Rattle.rest_farm.specs.Archive.{kept_items}
use Rattle.rest_farm.proofs.archive.brought_items.Goals as goal

pub returns : goal.returns
returns c =
    IfOk-weaker c.kept_items-2.result _ _
    (λ list is. is ∙ ap (λ (xs : List Item). kept_items c.args.gone.now xs)
    (c.deref.ensures.value ∙ c.in_ok-others.ensures)) c.kept_items-2.ensures
