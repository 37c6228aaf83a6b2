use Rattle.cross_sources.specs.Relations.{way_of}
use Rattle.cross_wish.specs.Views.{cross_wish_view}
use Rattle.cross_import.specs.CrossImport.{AreEncodedOf, AreOfIndexes}
use Rattle.cross_import.specs.Pushed.{encoded_texts}
use Rattle.cross_import.proofs.TextsLaws.{on-weaker}
use Rattle.cross_import.proofs.import.import_asked.Goals as goal

pub returns : goal.returns
returns g c =
    let view = cross_wish_view c.args.of.wish.now in
    let packages = encoded_texts c.in_ok-packages.packages.texts.items in
    let archive = encoded_texts c.in_ok-archive.archive.texts.items in
    let sources = encoded_texts c.in_ok-sources.sources.texts.items in
    on-weaker (AreOfIndexes view packages archive sources)
    (AreEncodedOf view (way_of c.args.asked) c.args.of.inputs) (λ texts are. record {
      packages = packages;
      archive = archive;
      sources = sources;
      encode_packages = c.in_ok-packages.ensures;
      encode_archive = c.in_ok-archive.ensures;
      encode_sources = c.in_ok-sources.ensures;
      are = are;
    }) c.in_ok-imported.imported c.in_ok-imported.ensures
