use Rattle.std.proofs.Common.{◌&&◌, nat_lt, ap, subst, sym, ◌∙◌}
use Rattle.cert_text.specs.Certificates.{IsNewRow}
use Rattle.farm_model.specs.Common.{variant, variants, initial, Universe}
use Rattle.sat_rows.specs.Rows.{IsRowOf}
use Rattle.plan_cert.specs.PlaceRows.{PlaceRows}
use Rattle.plan_cert.proofs.PlaceLaws.{rows-hold, word-known}
use Rattle.plan_cert.proofs.stated_rows.StatedRowsKnownWords.word.Goals as goal

pub returns : goal.returns
returns c = λ b.
    let u = c.args._universe.now in
    let n = c.args.name in
    let archive = c.self.inside.archive in
    let row = c.listed.result.now in
    let is = ap (λ (k : PlaceRows). k.universe) c.self.view_is ∙ c.requires.of_universe in
    word-known u c.word.result c.word-2.result n b archive row
    (subst (λ (w : Universe). IsRowOf w (initial w) archive) is c.self.invariant.1)
    (subst (λ (w : Universe). IsNewRow w row) c.requires.of_universe c.listed.ensures.new)
    (c.word.ensures.set b) (c.word-2.ensures.set b)
    ∙ ap (λ passes. nat_lt b (variants u n) && passes)
    (sym (rows-hold u c.args.self.now c.args.number c.args.place row c.requires.of_universe
    c.listed.ensures.row (variant n b)))
