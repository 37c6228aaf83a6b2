use Rattle.cross_wish.specs.Views.{cross_wish_view}
use Rattle.cross_import.specs.CrossImport.{AreMade, AreOfParagraphs}
use Rattle.cross_import.proofs.TextsLaws.{on-weaker}
use Rattle.cross_import.proofs.import.import_paragraphs.Goals as goal

pub returns : goal.returns
returns g c =
    on-weaker (AreMade (cross_wish_view c.in_ok-wish.wish) c.args.inputs)
    (AreOfParagraphs c.args.inputs c.args.paragraphs.now) (λ texts are. record {
      wish = cross_wish_view c.in_ok-wish.wish;
      says = c.in_ok-wish.ensures;
      are = are;
    }) c.in_ok-imported.imported c.in_ok-imported.ensures
