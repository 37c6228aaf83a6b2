use Rattle.std.proofs.Common.{map, refl, ap, ◌∙◌}
use Rattle.cross_sources.specs.Relations.{Way}
use Rattle.cross_wish.specs.Views.{cross_wish_view}
use Rattle.cross_import.specs.CrossImport.{AreEncodedOf, AreMade, wanted_as}
use Rattle.cross_import.proofs.TextsLaws.{on-weaker}
use Rattle.cross_import.proofs.import.import_wished.Goals as goal

pub returns : goal.returns
returns g c =
    let view = cross_wish_view c.args.of.wish.now in
    let way : Way = record {
      sides = c.args.of.wish.now.head.sides;
      names = c.args.of.names.now;
      ahead = c.in_ok-ahead.ahead;
      wanted = c.deref.result.now;
    } in
    on-weaker (AreEncodedOf view way c.args.of.inputs) (AreMade view c.args.of.inputs)
    (λ texts are. record {
      way = way;
      is = record {
        sides = refl;
        ahead = c.in_ok-ahead.ensures;
        wanted = ap (map wanted_as) c.deref.ensures.value ∙ c.in_ok-wanted.ensures;
      };
      are = are;
    }) c.in_ok-imported.imported c.in_ok-imported.ensures
