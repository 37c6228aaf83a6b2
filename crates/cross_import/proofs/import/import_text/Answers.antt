use Rattle.cross_import.specs.CrossImport.{AreOfParagraphs, AreOfWish}
use Rattle.cross_import.proofs.TextsLaws.{on-weaker}
use Rattle.cross_import.proofs.import.import_text.Goals as goal

pub returns : goal.returns
returns g c =
    on-weaker (AreOfParagraphs c.args.inputs c.in_ok-paragraphs.paragraphs)
    (AreOfWish c.args.inputs) (λ texts are. record {
      paragraphs = c.in_ok-paragraphs.paragraphs;
      read = c.in_ok-paragraphs.ensures;
      are = are;
    }) c.in_ok-imported.imported c.in_ok-imported.ensures
