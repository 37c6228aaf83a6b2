use Rattle.std.proofs.Common.{sym, ap, ◌∙◌}
use Rattle.std.proofs.lemmas.Bool.{and_parts, and_from}
use Rattle.farm_model.specs.Packages.{variant}
use Rattle.plan_model.specs.Common.{possible, Plan}
use Rattle.sat_rows.specs.Rows.{variant_passes}
use Rattle.plan_verifier.proofs.Steps.{of_archive}
use Rattle.plan_verifier.proofs.walk.words_at.Goals as goal

pub returns-in-Unpack-clause-known_there : goal.returns-in-Unpack-clause-known_there
returns-in-Unpack-clause-known_there g c b h =
    let u = c.args.stage.now.universe.now in
    let p = c.args.stage.now.plan.now.lanes in
    let l = c.args.number in
    let i = c.args.place in
    let n = c.in-Unpack.name in
    let archive =
    of_archive u p (g.K.KnownWords.known c.args.stage.now.known.now).rows
    c.requires.stage.sound.universe
    c.requires.stage.keeps l i c.requires.lane c.requires.place in
    let parts = and_parts _ _ (sym (c.word.ensures b) ∙ h) in
    c.possible_word.ensures b
    ∙ ap (λ (q : Plan). variant_passes u (possible u q l i) n b) c.requires.stage.outputs_are.1
    ∙ and_from _ _ parts.0 (archive.known_there (variant n b) parts.1)
