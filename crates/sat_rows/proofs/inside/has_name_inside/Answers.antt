use Rattle.std.proofs.Common.{inl, inr, subst, sym, ap, ◌∙◌}
use Rattle.std.proofs.lemmas.Bool.{cases_Bool}
use Rattle.item_index.specs.Items.{listed, IsIn}
use Rattle.sat_rows.proofs.InsideLaws.{inside_never}
use Rattle.sat_rows.proofs.inside.has_name_inside.Goals as goal

pub returns-else-own_inside : goal.returns-else-own_inside
returns-else-own_inside c =
    let lists = c.args.providers.now in
    let items = c.listed.ensures ∙ ap (listed lists) c.name.ensures in (
      c.owner_inside.ensures.found,
      λ has. elim (cases_Bool c.owner_inside.result) [
        | inl found ↦ found
        | inr none ↦ absurd (inside_never c.args.universe.now c.args.atom.now c.args.words.now lists
            c.requires (c.own_inside.ensures.none c.if-own_inside.false)
            (λ at is. c.owner_inside.ensures.none none at
            (subst (λ items. IsIn items at) (sym items) is)) has)
      ],
    )
