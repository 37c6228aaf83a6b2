use Rattle.std.proofs.Common.{sym, subst}
use Rattle.farm_universe.specs.FarmText.{land_of}
use Rattle.farm_universe.specs.FarmView.{IsLand, head_view}
use Rattle.farm_universe.specs.SourceView.{source_view}
use Rattle.farm_universe.specs.TableView.{table_view}
use Rattle.farm_universe.proofs.KeptLaws.{IsLand-made}
use Rattle.farm_universe.proofs.land.make_land.Goals as goal

pub returns-clause-kept : goal.returns-clause-kept
returns-clause-kept c =
    let made : IsLand (land_of (table_view c.args.table) (source_view c.args.sources)
    (head_view c.args.head)) =
    IsLand-made (table_view c.args.table) (source_view c.args.sources) (head_view c.args.head)
    c.requires.fit c.requires.sources c.requires.words in
    subst (λ t. IsLand (record {
      table = t;
      sources = source_view c.args.sources;
      architectures = c.args.head.architectures;
      initial = c.args.head.initial.items;
    })) (sym c.in_ok-table.ensures) made
