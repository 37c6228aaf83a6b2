use Rattle.std.proofs.Common.{ap, ◌∙◌}
use Rattle.import_farm.specs.declared.imported.Inputs.{Inputs}
use Rattle.cross_wish.specs.Views.{cross_wish_view}
use Rattle.cross_import.specs.CrossImport.{AreOf, AreOfIndexes, texts_of}
use Rattle.cross_import.specs.Pushed.{encoded_texts}
use Rattle.cross_import.proofs.TextsLaws.{on-weaker}
use Rattle.cross_import.proofs.import.import_indexes.Goals as goal

pub returns : goal.returns
returns g c =
    let view = cross_wish_view c.args.of.wish.now in
    let encoded : Inputs = record {
      wish = c.args.wish;
      packages = c.deref.result;
      archive = c.deref-2.result;
      sources = c.deref-3.result;
    } in
    on-weaker (AreOf view encoded)
    (AreOfIndexes view (encoded_texts c.args.indexes.packages.now.items)
    (encoded_texts c.args.indexes.archive.now.items)
    (encoded_texts c.args.indexes.sources.now.items)) (λ texts are. record {
      encoded = encoded;
      has_packages = ap texts_of c.deref.ensures.value ∙ c.in_ok-packages.ensures;
      has_archive = ap texts_of c.deref-2.ensures.value ∙ c.in_ok-archive.ensures;
      has_sources = ap texts_of c.deref-3.ensures.value ∙ c.in_ok-sources.ensures;
      are = are;
    }) c.in_ok-imported.imported c.in_ok-imported.ensures
