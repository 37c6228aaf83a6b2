use Rattle.std.proofs.Common.{◌≡◌, sym, ap, ◌∙◌}
use Rattle.std.proofs.lemmas.Cmp.{tied_itself}
use Rattle.deb_version.specs.Grammar.{text_cmp}
use Rattle.deb_version.specs.OrderLaws.{text_cmp_total}
use Rattle.deb_version.proofs.borrowed.VersionRef.compare.Goals as goal

pub returns-then-is_same_text : goal.returns-then-is_same_text
returns-then-is_same_text c =
    let text = c.args.self.now in
    let same : text ≡ c.args.other.now =
    sym c.self.view_is ∙ c.is_same_text.ensures.0 c.if-is_same_text.true ∙ c.other.view_is in
    record { order = sym (ap (text_cmp text) (sym same) ∙ tied_itself text_cmp_total text) }
