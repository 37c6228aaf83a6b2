use Rattle.std.proofs.Common.{List, ap, subst, sym, ◌∙◌}
use Rattle.std.proofs.lemmas.Result.{IfOk-weaker}
use Rattle.std.specs.Prelude.{All}
use Rattle.deb_relation.specs.Relations.{Relations}
use Rattle.farm_lookup.specs.Unmet.{unmet_needs}
use Rattle.farm_model.specs.declared.types.Variant.{Variant}
use Rattle.import_farm.specs.Imported.{IsOutput}
use Rattle.import_farm.proofs.judge.unmet_in.Goals as goal

pub returns : goal.returns
returns c =
    let universe = c.args.universe.now in
    let more = c.deref.result.now in
    IfOk-weaker c.unmet_needs.result _ _
    (λ unmet is. (
      more,
      subst (λ (variants : List Variant). All (IsOutput universe) variants)
          (sym c.deref.ensures.value) c.in_ok-wanted.ensures,
      is ∙ ap (λ (archive : Relations). unmet_needs universe archive more)
          c.in_ok-archive.ensures,
    )) c.unmet_needs.ensures
