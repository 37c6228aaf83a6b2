use Rattle.std.proofs.Common.{◌≡◌, Bool, sym, ap, ◌∙◌}
use Rattle.farm_model.specs.Universe.{Universe}
use Rattle.farm_model.specs.declared.types.Variant.{Variant}
use Rattle.plan_model.specs.Plan.{Plan}
use Rattle.sat_rows.specs.Rows.{variant_passes}
use Rattle.known_rows.specs.Clock.{count_of, row_of}
use Rattle.known_rows.specs.KnownRows.{KnownRows, rows_of}
use Rattle.known_rows.proofs.known.KnownKnownWords.word.Goals as goal

pub returns : goal.returns
returns c b =
    let u = c.args.universe.now in
    let k = c.args.self.now in
    let q = c.self.inside.outputs.plan in
    let x = count_of c.clock-clock.result in
    let of_plan = ap (λ (w : KnownRows). w.plan) c.self.view_is in
    let same : q ≡ k.plan = cc (of_plan, of_plan) in
    let rows : row_of u q x ≡ rows_of k c.args.number c.args.place =
    ap (λ (w : Universe). row_of w q x) (sym c.requires.of_universe)
    ∙ ap (λ (p : Plan). row_of k.universe p x) same ∙ c.clock-clock.ensures.rows in
    c.word.ensures b ∙ ap (λ (t : Variant → Bool). variant_passes u t c.args.name b) rows
