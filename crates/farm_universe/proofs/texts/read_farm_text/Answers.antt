use Rattle.std.proofs.Common.{IfErr, subst}
use Rattle.deb_text.specs.declared.files.TheConstants.{FARM}
use Rattle.farm_universe.specs.Before.{Leaves, before_text}
use Rattle.farm_universe.specs.SourceView.{source_view}
use Rattle.farm_universe.specs.TableView.{table_view}
use Rattle.farm_universe.specs.UniverseText.{paragraphs_in}
use Rattle.farm_universe.proofs.BeforeLaws.{in-text, none-in-text, told-leaves}
use Rattle.farm_universe.proofs.texts.read_farm_text.Goals as goal

pub returns-in_err-paragraphs-clause-before : goal.returns-in_err-paragraphs-clause-before
returns-in_err-paragraphs-clause-before c =
    let table = table_view c.args.table in
    let sources = source_view c.args.sources in
    let farm = c.args.farm.now in
    told-leaves c.from_residual.result c.in_err-paragraphs.field-0.0 (paragraphs_in FARM farm)
    (before_text table sources farm) c.from_residual.ensures.1 c.in_err-paragraphs.ensures
    (none-in-text table sources farm)

pub returns-clause-before : goal.returns-clause-before
returns-clause-before c =
    subst (λ before. IfErr c.read_farm.result (λ refused. Leaves refused before))
    (in-text (table_view c.args.table) (source_view c.args.sources) c.args.farm.now
    c.in_ok-paragraphs.paragraphs c.in_ok-paragraphs.ensures)
    c.read_farm.ensures.before
