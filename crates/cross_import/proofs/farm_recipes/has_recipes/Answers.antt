use Rattle.std.proofs.Common.{ℕ, sym, ◌∙◌, arith}
use Rattle.std.specs.Global.{Vec}
use Rattle.std.proofs.lemmas.List.{length-map}
use Rattle.deb_text.specs.Lists.{lists}
use Rattle.farm_model.specs.Common.{no_recipe, recipe, Recipe}
use Rattle.import_farm.proofs.NameLaws.{same-names}
use Rattle.cross_import.proofs.farm_recipes.has_recipes.Goals as goal

pub returns : goal.returns
unfolding recipe
returns c says =
    let long = length-map c.args.names.now (λ (v : Vec ℕ). v.items) in
    same-names (λ (r : Recipe). r.name) c.args.universe.now.recipes no_recipe
    (lists c.args.names.now)
    (sym c.recipes.ensures ∙ c.if-recipes-names.false ∙ sym long)
    (λ k below. c.loop-at.invariant k (omega (arith, below, long, c.loop-at-test.false)))
