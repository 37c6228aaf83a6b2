use Rattle.std.proofs.Common.{[], ◌∷◌, sym}
use Rattle.std.specs.List.{concat}
use Rattle.std.specs.Prelude.{codes}
use Rattle.deb_text.specs.Lists.{lists}
use Rattle.farm_model.specs.Packages.{recipe, outputs}
use Rattle.drive_protocol.specs.RequestText.{recipe_words, variants_words}
use Rattle.report_sink.proofs.WriteLaws.{written_twice, cut_short}
use Rattle.drive_protocol.proofs.request.write_build.Goals as goal

pub returns-in_err-write_pieces-clause-written : goal.returns-in_err-write_pieces-clause-written
returns-in_err-write_pieces-clause-written g c =
    let u = c.args.universe.now in
    let r = c.args.recipe in
    cut_short _ _
    (concat (codes " build " ∷ (recipe u r).name ∷ recipe_words (lists c.args.recipes.now) r
    ∷ codes " ," ∷ []))
    (variants_words u (outputs u r))
    (rw (c.recipe_name-name.ensures, c.recipe_words-words.ensures) at c.write_pieces.ensures.written)
    (sym c.in_err-write_pieces.ensures.told)

pub returns-clause-written : goal.returns-clause-written
returns-clause-written g c =
    let u = c.args.universe.now in
    let r = c.args.recipe in
    written_twice _ _ _
    (concat (codes " build " ∷ (recipe u r).name ∷ recipe_words (lists c.args.recipes.now) r
    ∷ codes " ," ∷ []))
    (variants_words u (outputs u r))
    (rw (c.recipe_name-name.ensures, c.recipe_words-words.ensures) at c.write_pieces.ensures.written)
    (rw c.outputs.ensures.outputs at c.write_variants.ensures.written)
