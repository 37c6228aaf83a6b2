use Rattle.std.proofs.Common.{[], ◌∷◌, sym}
use Rattle.std.specs.List.{concat}
use Rattle.std.specs.Prelude.{codes}
use Rattle.farm_model.specs.Packages.{recipe, outputs}
use Rattle.drive_protocol.specs.RequestText.{variants_words}
use Rattle.report_sink.proofs.WriteLaws.{written_twice, cut_short}
use Rattle.drive_protocol.proofs.request.write_publish.Goals as goal

pub returns-in_err-write_pieces-clause-written : goal.returns-in_err-write_pieces-clause-written
returns-in_err-write_pieces-clause-written g c =
    let u = c.args.universe.now in
    let r = c.args.recipe in
    cut_short _ _ (concat (codes " publish " ∷ (recipe u r).name ∷ []))
    (variants_words u (outputs u r))
    (rw c.recipe_name.ensures at c.write_pieces.ensures.written)
    (sym c.in_err-write_pieces.ensures.told)

pub returns-clause-written : goal.returns-clause-written
returns-clause-written g c =
    let u = c.args.universe.now in
    let r = c.args.recipe in
    written_twice _ _ _ (concat (codes " publish " ∷ (recipe u r).name ∷ []))
    (variants_words u (outputs u r))
    (rw c.recipe_name.ensures at c.write_pieces.ensures.written)
    (rw c.outputs.ensures.outputs at c.write_variants.ensures.written)
